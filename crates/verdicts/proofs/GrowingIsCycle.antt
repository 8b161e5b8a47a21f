-- A cycle of the useful rules that grows, as it is computed, is what growing means. Assumes nothing.
use Rattle.grammar.proofs.Basics.{◌≡◌, ⊎_elim, ◌↔◌, Iff·trans, inl, inr, true, ◌&&◌, false≢true, List, ℕ, eqb}
use Rattle.grammar.proofs.Basics.{and_split, or_exact}
use mathlib.Core.Logic.Iff
use Rattle.grammar.specs.Rule.{Rule, Rules, Among, pair, unit, empty}
use Rattle.grammar.specs.Growing.{Growing}
use Rattle.grammar.specs.Theorems.Inductive.{Leads, LeadsToTerminal, OneLeads, GrowingCycle}
use Rattle.grammar.proofs.Graph.{leads_grows}
use Rattle.grammar.proofs.Growth.{growing_is_cycle_lem}
use Rattle.usefulness.specs.Usefulness.{useful, useful_rules, leads, to_terminal}
use Rattle.usefulness.proofs.Tests.{any_rule_lem, rule_any, within_among}
use Rattle.usefulness.proofs.Rounds.{Below}
use Rattle.usefulness.proofs.Papers.{leads_to_is, to_terminal_is, useful_rules_are}
use Rattle.verdicts.specs.Verdicts.{on_cycle, cyclic, growing}

module _ (rules : List Rule) (below : Below 64 rules) where
  each_leads : (A X Y : ℕ) → ((leads rules (λ Z. eqb A Z) X && to_terminal rules Y) ≡ true)
      ↔ (Leads (Among rules) X A × LeadsToTerminal (Among rules) Y)
  each_leads A X Y = Iff·trans (and_split _ _) (Iff.and (leads_to_is rules below A X) (to_terminal_is rules below Y))

  one_leads : (A X Y : ℕ) → (on_cycle rules (pair A X Y) ≡ true) ↔ OneLeads (Among rules) A X Y
  one_leads A X Y = (
    λ e. ⊎_elim (λ h. inl ((each_leads A X Y).0 h)) (λ h. inr ((each_leads A Y X).0 h)) ((or_exact _ _).0 e),
    λ o. (or_exact _ _).1 (⊎_elim (λ h. inl ((each_leads A X Y).1 h)) (λ h. inr ((each_leads A Y X).1 h)) o),
  )

  cycle_of : (ρ : Rule) → Among rules ρ → on_cycle rules ρ ≡ true → GrowingCycle (Among rules)
  cycle_of (empty A) m e = absurd (false≢true e)
  cycle_of (unit A X) m e = absurd (false≢true e)
  cycle_of (pair A X Y) m e = (A, X, Y, m, (one_leads A X Y).0 e)

  cyclic_is : (cyclic rules ≡ true) ↔ GrowingCycle (Among rules)
  unfolding cyclic
  cyclic_is = (
    λ e. let (ρ, m, t) = any_rule_lem (on_cycle rules) rules e in cycle_of ρ m t,
    λ c. rule_any (on_cycle rules) rules _ c.3 ((one_leads c.0 c.1 c.2).1 c.4),
  )

-- a cycle grows with the rules
module _ {R R' : Rules} (rules : (ρ : Rule) → R ρ → R' ρ) where
  to_terminal_grows : {X : ℕ} → LeadsToTerminal R X → LeadsToTerminal R' X
  to_terminal_grows (a, t, l) = (a, t, leads_grows rules l)

  cycle_grows : GrowingCycle R → GrowingCycle R'
  cycle_grows (A, X, Y, m, inl (l, t)) = (A, X, Y, rules _ m, inl (leads_grows rules l, to_terminal_grows t))
  cycle_grows (A, X, Y, m, inr (l, t)) = (A, X, Y, rules _ m, inr (leads_grows rules l, to_terminal_grows t))

pub growing_is : (rules : List Rule) (S : ℕ) → Below 64 rules → (growing rules S ≡ true) ↔ Growing (Among rules) S
growing_is rules S below =
    let is = cyclic_is (useful_rules rules S) (λ ρ m. below ρ (within_among (useful rules S) rules ρ m).0) in
    let cycle = growing_is_cycle_lem rules S in (
      λ e. cycle.1 (cycle_grows (λ ρ. (useful_rules_are rules below S ρ).0) (is.0 e)),
      λ g. is.1 (cycle_grows (λ ρ. (useful_rules_are rules below S ρ).1) (cycle.0 g)),
    )
