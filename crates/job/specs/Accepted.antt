-- What an accepted job is, free of the order of its records. Assumes nothing.
use Rattle.std.specs.Prelude.{◌≡◌, Bool, true, ℕ, ◌%◌, ◌<◌, ◌≤◌, length}
use mathlib.Core.List.{List, Memᴰ}
use Rattle.grammar.specs.Counting.{NoRepeat}
use Rattle.job.specs.declared.JobRecord.{JobRecord}
use Rattle.job.specs.Format.{field_classes, records_of, row_of, bad_field_lem, byte_i, byte_s}
use Rattle.job.specs.Check.{count_kind, count_rules}

-- Refused calls, 1 to 9: whole records, each of a known kind and with its fields in their classes, none twice, one S,
-- at most one I and one where it is needed, at most 256 rules
pub record Accepted (needed : Bool) (job : List ℕ) : Type 0 where
  pub within : length job ≤ 16384
  pub whole : length job % 4 ≡ 0
  pub known : (r : JobRecord) → Memᴰ r (records_of job) → row_of r.kind < 7
  pub fitting : (r : JobRecord) → Memᴰ r (records_of job) → bad_field_lem field_classes r ≡ 0
  pub distinct : NoRepeat (records_of job)
  pub one_start : count_kind byte_s (records_of job) ≡ 1
  pub one_initial : count_kind byte_i (records_of job) ≤ 1
  pub initial_if_needed : needed ≡ true → count_kind byte_i (records_of job) ≡ 1
  pub few_rules : count_rules (records_of job) ≤ 256
