-- What the done count answers, as numbers: of a refused call its number and place, and 0 for the rest. Assumes nothing.
use Rattle.std.specs.Prelude.{ℕ, Result, Ok, Err}
use Rattle.job.specs.declared.Refusal.{Refusal}
use Rattle.job.specs.Refusals.{number_of}

pub record Counted : Type 0 where
  pub number : ℕ
  pub place : ℕ
  pub count : ℕ

abbrev pub counted_of : Result ℕ Refusal → Counted
counted_of (Ok n) = record { number = 0; place = 0; count = n }
counted_of (Err r) = record { number = number_of r.cause; place = r.place; count = 0 }
