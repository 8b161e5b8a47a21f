-- What reading an ABNF text answers, as numbers: of a refused call its number and place, and 0 for the rest. Assumes
-- nothing.
use Rattle.std.specs.Prelude.{ℕ, Result, Ok, Err}
use Rattle.job.specs.declared.Refusal.{Refusal}
use Rattle.job.specs.Refusals.{number_of}
use Rattle.abnf_jobs.specs.declared.Counts.{Counts}

-- the number of records written and the number of characters in the map
pub record TextRead : Type 0 where
  pub number : ℕ
  pub place : ℕ
  pub records : ℕ
  pub characters : ℕ

abbrev pub text_read_of : Result Counts Refusal → TextRead
text_read_of (Ok n) = record { number = 0; place = 0; records = n.records; characters = n.characters }
text_read_of (Err r) = record { number = number_of r.cause; place = r.place; records = 0; characters = 0 }
