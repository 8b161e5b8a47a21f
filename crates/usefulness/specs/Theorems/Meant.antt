-- The computed sets are the papers'. Each statement is the contract of a function of src/theorems.rt, so it is proved.
-- Assumes nothing.
use Rattle.std.specs.Prelude.{◌≡◌, ℕ, ◌↔◌, true, List}
use Rattle.grammar.specs.Rule.{Rule, Among}
use Rattle.grammar.specs.Useful.{Productive, Useful, UsefulRules}
use Rattle.job.specs.Theorems.InRange.{RulesInRange}
use Rattle.usefulness.specs.Usefulness.{productive, useful, useful_rules}

unfoldable pub ProductiveIsMeant : Type 0
ProductiveIsMeant =
    (rules : List Rule) → RulesInRange rules → (X : ℕ) → (productive rules X ≡ true) ↔ Productive (Among rules) X

unfoldable pub UsefulIsMeant : Type 0
UsefulIsMeant =
    (rules : List Rule) → RulesInRange rules → (S X : ℕ) → (useful rules S X ≡ true) ↔ Useful (Among rules) S X

unfoldable pub UsefulRulesAreMeant : Type 0
UsefulRulesAreMeant =
    (rules : List Rule) → RulesInRange rules →
    (S : ℕ) (ρ : Rule) → Among (useful_rules rules S) ρ ↔ UsefulRules (Among rules) S ρ
