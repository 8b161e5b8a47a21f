-- What ask and explain answer, as numbers: of a refused call its number and place, and 0 and no for the rest. Assumes
-- nothing.
use Rattle.std.specs.Prelude.{ℕ, Bool, true, false, Option, Some, None, Result, Ok, Err}
use Rattle.job.specs.declared.Refusal.{Refusal}
use Rattle.job.specs.Refusals.{number_of}

-- ask: whether the form is accepted
pub record Asked : Type 0 where
  pub number : ℕ
  pub place : ℕ
  pub accepted : Bool

abbrev pub asked_of : Result Bool Refusal → Asked
asked_of (Ok accepted) = record { number = 0; place = 0; accepted = accepted }
asked_of (Err r) = record { number = number_of r.cause; place = r.place; accepted = false }

-- explain: whether the form is accepted, and the number of listing records
pub record Explained : Type 0 where
  pub number : ℕ
  pub place : ℕ
  pub accepted : Bool
  pub records : ℕ

-- a form that is accepted has some number of them
abbrev pub explained_of : Result (Option ℕ) Refusal → Explained
explained_of (Ok None) = record { number = 0; place = 0; accepted = false; records = 0 }
explained_of (Ok (Some records)) = record { number = 0; place = 0; accepted = true; records = records }
explained_of (Err r) = record { number = number_of r.cause; place = r.place; accepted = false; records = 0 }
