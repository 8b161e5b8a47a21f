-- What single functions of the copy take and give. Assumes nothing.
use Rattle.std.specs.Prelude.{◌≡◌, ℕ, ◌<◌, Bool, List, ◌∷◌, map, length, get_or}
use Rattle.grammar.specs.Rule.{Rule}
use Rattle.job.specs.declared.JobRecord.{JobRecord}
use Rattle.job.specs.Job.{sort_key_lem, start_record, record_of_lem}
use Rattle.job.specs.Inside.Keys.{rule_of_key}
use Rattle.copies.specs.Copy.{new_number, renumbered}

-- 64 numbers: the new number of each symbol, by the set of useful ones
pub record Numbers (useful : ℕ → Bool) (numbers : List ℕ) : Type 0 where
  pub long : length numbers ≡ 64
  pub at : (X : ℕ) → X < 64 → get_or numbers X 0 ≡ new_number useful X

-- the numbers of a list, by symbol
abbrev pub number_in : List ℕ → ℕ → ℕ
number_in numbers X = get_or numbers X 0

-- the record of a rule under the numbers of a list
abbrev pub renumbered_record : List ℕ → Rule → JobRecord
renumbered_record numbers ρ = record_of_lem (renumbered (number_in numbers) ρ)

-- the sort key of a rule, given by its own, under the numbers of a list
abbrev pub renumbered_key : List ℕ → ℕ → ℕ
renumbered_key numbers k = sort_key_lem (renumbered_record numbers (rule_of_key k))

-- the records of rules under the numbers of a list
abbrev pub rule_records : List ℕ → List Rule → List JobRecord
rule_records numbers = map (renumbered_record numbers)

-- S and the rules
abbrev pub copy_records : List ℕ → ℕ → List Rule → List JobRecord
copy_records numbers S rules = start_record (number_in numbers S) ∷ rule_records numbers rules
