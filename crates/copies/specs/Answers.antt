-- What clean answers, as numbers: of a refused call its number and place, and 0 for the rest. Assumes nothing.
use Rattle.std.specs.Prelude.{ℕ, Result, Ok, Err}
use Rattle.job.specs.declared.Refusal.{Refusal}
use Rattle.job.specs.Refusals.{number_of}

-- the number of records written
pub record Cleaned : Type 0 where
  pub number : ℕ
  pub place : ℕ
  pub records : ℕ

abbrev pub cleaned_of : Result ℕ Refusal → Cleaned
cleaned_of (Ok n) = record { number = 0; place = 0; records = n }
cleaned_of (Err r) = record { number = number_of r.cause; place = r.place; records = 0 }
