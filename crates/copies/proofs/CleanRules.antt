-- Each clean rule is a useful rule under the new numbers, and each useful rule gives one. Assumes nothing.
use Rattle.grammar.proofs.Basics.{◌≡◌, true, List, Memᴰ·of-map, ℕ, and_left}
use mathlib.Core.List.Memᴰ
use Rattle.grammar.specs.Rule.{Rule, Among, head}
use Rattle.grammar.specs.Useful.{UsefulRules}
use Rattle.usefulness.specs.Sets.{all_in_lem, rule_in}
use Rattle.usefulness.specs.Usefulness.{useful, useful_rules}
use Rattle.job.specs.Theorems.InRange.{RulesInRange}
use Rattle.usefulness.proofs.Tests.{within_among}
use Rattle.usefulness.proofs.Bodies.{range_below}
use Rattle.usefulness.proofs.Papers.{useful_is, useful_rules_are}
use Rattle.copies.specs.Copy.{new_number, renumbered, clean_rules}
use Rattle.grammar.proofs.UsefulDerivations.{useful_start}

module _ (rules : List Rule) (S : ℕ) where
  -- what holds of the useful rules under their new numbers holds of the clean rules
  pub each_clean : (C : Rule → Type 0) →
      ((ρ : Rule) → Among rules ρ → rule_in (useful rules S) ρ ≡ true →
      C (renumbered (new_number (useful rules S)) ρ)) →
      (σ : Rule) → Among (clean_rules rules S) σ → C σ
  unfolding clean_rules
  each_clean C c σ m =
      let (ρ, n, e) = Memᴰ·of-map (renumbered (new_number (useful rules S))) (useful_rules rules S) m in
      let (among, all) = within_among (useful rules S) rules ρ n in
      rw (← e) (c ρ among all)

  -- a useful rule under its new numbers is a clean rule
  pub useful_clean : RulesInRange rules → (ρ : Rule) → UsefulRules (Among rules) S ρ →
      Among (clean_rules rules S) (renumbered (new_number (useful rules S)) ρ)
  unfolding clean_rules
  useful_clean range ρ u =
      Memᴰ.map (renumbered (new_number (useful rules S))) ((useful_rules_are rules (range_below range) S ρ).1 u)

  -- where any symbol is useful, the start symbol is
  pub start_useful : RulesInRange rules → (X : ℕ) → useful rules S X ≡ true → useful rules S S ≡ true
  start_useful range X e =
      (useful_is rules (range_below range) S S).1
      (useful_start (Among rules) S X ((useful_is rules (range_below range) S X).0 e))

  -- so it is where there is a clean rule
  pub clean_rule_useful : RulesInRange rules → (σ : Rule) → Among (clean_rules rules S) σ → useful rules S S ≡ true
  unfolding all_in_lem
  clean_rule_useful range =
      each_clean (λ σ. useful rules S S ≡ true) (λ ρ m e. start_useful range (head ρ) (and_left _ _ e))
