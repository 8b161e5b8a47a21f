-- The clean rules derive from their start symbol what the rules derive from theirs: derivations by useful rules go
-- over to the new numbers, and those by clean rules back to the old ones. Assumes nothing.
use Rattle.grammar.proofs.Basics.{◌≡◌, refl, ◌∙◌, ⊎_elim, ◌↔◌, inl, inr, ◌⊎◌, true, Bool, List, Memᴰ·cast, ℕ, ◌<◌}
use Rattle.grammar.proofs.Basics.{arith}
use Rattle.grammar.specs.Symbol.{Terminals}
use Rattle.grammar.specs.Rule.{Rule, Rules, Among, ProductionsOf, of_rule}
use Rattle.grammar.specs.Derivation.{by_production, Derives, none, more}
use Rattle.grammar.specs.Useful.{UsefulRules}
use Rattle.grammar.specs.Language.{Language}
use Rattle.usefulness.specs.Usefulness.{useful}
use Rattle.job.specs.Theorems.InRange.{RulesInRange}
use Rattle.copies.specs.Copy.{new_number, renumbered, clean_start, clean_rules}
use Rattle.grammar.proofs.UsefulDerivations.{useful_derives}
use Rattle.copies.proofs.Renumbered.{renumbered_language, renumbered_twice, renumbered_self}
use Rattle.copies.proofs.Numbering.{old_number, old_terminal, new_terminal, new_at_most, old_new}
use Rattle.copies.proofs.CleanRules.{each_clean, useful_clean, clean_rule_useful}

-- a derivation has no step, or there is a rule
any_step : {R : Rules} {α β : List ℕ} → Derives (ProductionsOf R) α β → (α ≡ β) ⊎ ((ρ : Rule) × R ρ)
any_step none = inl refl
any_step (more (by_production α γ (of_rule ρ r)) d) = inr (ρ, r)

module _ (rules : List Rule) (S : ℕ) (range : RulesInRange rules) (variable : S < 32) where
  -- the useful symbols
  abbrev set : ℕ → Bool
  set = useful rules S

  -- under the old numbers a clean rule is one of the rules
  clean_back : (σ : Rule) → Among (clean_rules rules S) σ → Among rules (renumbered (old_number set) σ)
  clean_back =
      each_clean rules S (λ σ. Among rules (renumbered (old_number set) σ))
      (λ ρ m e.
      let back = renumbered_twice set (new_number set) (old_number set) (λ X. X) (old_new set) ρ e in
      Memᴰ·cast (back ∙ renumbered_self ρ) m)

  -- a string of the clean rules has a derivation with a step, as their start symbol is no terminal
  start_is_useful : (w : List ℕ) → Language (Among (clean_rules rules S)) (clean_start rules S) w → set S ≡ true
  unfolding clean_start Terminals
  start_is_useful w (t, d) =
      ⊎_elim
      (λ e. let t' = rw (← e) at t in absurd (omega (arith, t'.0, new_at_most set S)))
      (λ r. clean_rule_useful rules S range r.0 r.1) (any_step d)

  -- the language of the clean rules is that of the rules
  pub same_language_lem : (w : List ℕ) →
      Language (Among rules) S w ↔ Language (Among (clean_rules rules S)) (clean_start rules S) w
  unfolding clean_start
  same_language_lem w = (
    λ (t, d).
        let by-useful = useful_derives (Among rules) S w t none d none in
        renumbered_language (new_number set) (UsefulRules (Among rules) S) (Among (clean_rules rules S))
        (useful_clean rules S range) (new_terminal set) w (t, by-useful),
    λ l.
        let back = renumbered_language (old_number set) _ (Among rules) clean_back (old_terminal set) w l in
        rw (old_new set S (start_is_useful w l)) at back,
  )
