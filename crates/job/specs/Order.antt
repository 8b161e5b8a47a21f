-- The same records in another order, and the same grammar. Assumes nothing.
use Rattle.std.specs.Prelude.{◌≡◌, true, ◌||◌, ℕ, eqb, length}
use mathlib.Core.List.{List, Permᴰ}
use Rattle.job.specs.declared.JobRecord.{JobRecord}
use Rattle.job.specs.Format.{records_of, is_rule_lem, has, byte_s}

-- The two runs: as many bytes, and the records of one are a permutation of the other's
pub record SameRecords (a b : List ℕ) : Type 0 where
  pub long : length a ≡ length b
  pub permuted : Permᴰ (records_of a) (records_of b)

-- Clean copies: a record of a rule or of the start symbol stands in one job just where it stands in the other. Nothing
-- is said of their order, or of other records.
abbrev pub SameGrammar : List ℕ → List ℕ → Type 0
SameGrammar a b =
    (r : JobRecord) → (is_rule_lem r || eqb r.kind byte_s) ≡ true → has (records_of a) r ≡ has (records_of b) r
