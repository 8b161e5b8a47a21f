-- What the verdicts answer, as numbers: of a refused call its number and place, and no for the rest. Assumes nothing.
use Rattle.std.specs.Prelude.{ℕ, Bool, false, Result, Ok, Err}
use Rattle.job.specs.declared.Refusal.{Refusal}
use Rattle.job.specs.Refusals.{number_of}
use Rattle.verdicts.specs.declared.Judged.{Judged}

pub record Verdicts : Type 0 where
  pub number : ℕ
  pub place : ℕ
  pub empty : Bool
  pub growing : Bool

abbrev pub verdicts_answer : Result Judged Refusal → Verdicts
verdicts_answer (Ok j) = record { number = 0; place = 0; empty = j.empty; growing = j.growing }
verdicts_answer (Err r) = record { number = number_of r.cause; place = r.place; empty = false; growing = false }
