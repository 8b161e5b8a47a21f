-- What start and advance answer, as numbers: of a refused call its number and place, and 0 and no for the rest. Assumes
-- nothing.
use Rattle.std.specs.Prelude.{ℕ, Bool, false, Result, Ok, Err}
use Rattle.job.specs.declared.Refusal.{Refusal}
use Rattle.job.specs.Refusals.{number_of}
use Rattle.machine.specs.declared.Ended.{Ended}

-- start: the number of states
pub record Started : Type 0 where
  pub number : ℕ
  pub place : ℕ
  pub states : ℕ

abbrev pub started_of : Result ℕ Refusal → Started
started_of (Ok n) = record { number = 0; place = 0; states = n }
started_of (Err r) = record { number = number_of r.cause; place = r.place; states = 0 }

-- advance: whether no pending byte is left, the steps made and the rise in pair meetings
pub record Advanced : Type 0 where
  pub number : ℕ
  pub place : ℕ
  pub finished : Bool
  pub steps : ℕ
  pub meetings : ℕ

abbrev pub advanced_of : Result Ended Refusal → Advanced
advanced_of (Ok e) =
    record { number = 0; place = 0; finished = e.finished; steps = e.steps; meetings = e.meetings }
advanced_of (Err r) =
    record { number = number_of r.cause; place = r.place; finished = false; steps = 0; meetings = 0 }
