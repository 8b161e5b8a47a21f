-- No new number is greater than the old one, so that the clean rules and their start symbol are in range.
-- Assumes nothing.
use Rattle.grammar.proofs.Basics.{Bool, List, ℕ, ◌<◌, arith}
use Rattle.grammar.specs.Rule.{Rule, empty, unit, pair}
use Rattle.job.specs.Theorems.InRange.{RuleInRange}
use Rattle.usefulness.specs.Usefulness.{useful}
use Rattle.job.specs.Theorems.InRange.{RulesInRange}
use Rattle.copies.specs.Copy.{new_number, renumbered, clean_start, clean_rules}
use Rattle.copies.proofs.Numbering.{new_at_most}
use Rattle.copies.proofs.CleanRules.{each_clean}

new_below : (set : ℕ → Bool) {n : ℕ} (X : ℕ) → X < n → new_number set X < n
new_below set X l = omega (arith, new_at_most set X)

rule_in_range : (set : ℕ → Bool) (ρ : Rule) → RuleInRange ρ → RuleInRange (renumbered (new_number set) ρ)
rule_in_range set (empty A) r = new_below set A r
rule_in_range set (unit A X) r = (new_below set A r.0, new_below set X r.1)
rule_in_range set (pair A X Y) r = (new_below set A r.0, new_below set X r.1, new_below set Y r.2)

pub clean_in_range : (rules : List Rule) (S : ℕ) → RulesInRange rules → RulesInRange (clean_rules rules S)
clean_in_range rules S range =
    each_clean rules S RuleInRange (λ ρ m e. rule_in_range (useful rules S) ρ (range ρ m))

pub clean_start_below : (rules : List Rule) (S : ℕ) → S < 32 → clean_start rules S < 32
unfolding clean_start
clean_start_below rules S l = new_below (useful rules S) S l
