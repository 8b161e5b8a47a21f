-- Clean copies: the useful rules under new numbers, behind the start symbol. Assumes nothing.
use Rattle.std.specs.Prelude.{ℕ, Bool, cond, List, ◌∷◌, map, ltb}
use Rattle.grammar.specs.Rule.{Rule, empty, unit, pair}
use Rattle.grammar.specs.Counting.{count}
use Rattle.job.specs.declared.JobRecord.{JobRecord}
use Rattle.job.specs.Job.{start_record, record_of_lem}
use Rattle.usefulness.specs.Usefulness.{useful, useful_rules}

-- Clean copies: the new number of a variable is how many useful variables have a lower number; a terminal keeps its
-- number
abbrev pub new_number : (ℕ → Bool) → ℕ → ℕ
new_number useful X = cond (ltb X 32) (count useful X) X

-- a rule under other numbers
abbrev pub renumbered : (ℕ → ℕ) → Rule → Rule
renumbered number (empty A) = empty (number A)
renumbered number (unit A X) = unit (number A) (number X)
renumbered number (pair A X Y) = pair (number A) (number X) (number Y)

-- Clean copies: the start symbol, and the rules whose symbols are all useful, in the order of their ranks. Where the
-- language is empty no symbol is useful, so that the start symbol gets 0 and no rule is left.
unfoldable pub clean_start : List Rule → ℕ → ℕ
clean_start rules S = new_number (useful rules S) S

unfoldable pub clean_rules : List Rule → ℕ → List Rule
clean_rules rules S = map (renumbered (new_number (useful rules S))) (useful_rules rules S)

-- Clean copies: S comes first, then the rules
unfoldable pub clean_records : List Rule → ℕ → List JobRecord
clean_records rules S = start_record (clean_start rules S) ∷ map record_of_lem (clean_rules rules S)
