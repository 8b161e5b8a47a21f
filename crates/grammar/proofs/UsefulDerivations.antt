-- What is derived on the way from the start symbol to a terminal string is derived by useful rules alone: each symbol
-- of a rule that is used stands in a form on that way. Assumes nothing.
use Rattle.grammar.proofs.Basics.{List, ◌∷◌, [], ◌++◌, append_assoc, ℕ}
use Rattle.grammar.specs.Symbol.{Terminals}
use Rattle.grammar.specs.Rule.{Rules, ProductionsOf, of_rule, head, body}
use Rattle.grammar.specs.Derivation.{by_production, Derives, none, more}
use Rattle.grammar.specs.Useful.{Useful, AllUseful, UsefulRules}
use Rattle.grammar.proofs.Derivations.{derives_trans}

module _ (R : Rules) (S : ℕ) (w : List ℕ) (t : Terminals w) where
  -- S derives the form, and the form the string
  abbrev OnWay : List ℕ → Type 0
  OnWay α = Derives (ProductionsOf R) (S ∷ []) α × Derives (ProductionsOf R) α w

  -- each symbol of such a form is useful
  all_useful : (α β γ : List ℕ) → OnWay (α ++ (β ++ γ)) → AllUseful R S β
  unfolding Useful AllUseful
  all_useful α [] γ o = tt
  all_useful α (X ∷ β) γ o =
      ((α, β ++ γ, w, t, o.0, o.1), all_useful (α ++ (X ∷ [])) β γ (rw append_assoc o))

  -- so a step between two such forms is by a useful rule
  pub useful_derives : {α β : List ℕ} → Derives (ProductionsOf R) (S ∷ []) α → Derives (ProductionsOf R) α β →
      Derives (ProductionsOf R) β w → Derives (ProductionsOf (UsefulRules R S)) α β
  unfolding AllUseful
  useful_derives c none e = none
  useful_derives c (more (by_production α γ (of_rule ρ r)) d) e =
      let s = more (by_production α γ (of_rule ρ r)) none in
      let before = all_useful α (head ρ ∷ []) γ (c, derives_trans s (derives_trans d e)) in
      let after = all_useful α (body ρ) γ (derives_trans c s, derives_trans d e) in
      more (by_production α γ (of_rule ρ (r, (before.0, after)))) (useful_derives (derives_trans c s) d e)

module _ (R : Rules) (S : ℕ) where
  -- what is useful is so by the useful rules
  pub useful_by_useful : (X : ℕ) → Useful R S X → Useful (UsefulRules R S) S X
  unfolding Useful
  useful_by_useful X (α, β, w, t, d, e) =
      (α, β, w, t, useful_derives R S w t none d e, useful_derives R S w t d e none)

  -- where any symbol is useful, the start symbol is
  pub useful_start : (X : ℕ) → Useful R S X → Useful R S S
  unfolding Useful
  useful_start X (α, β, w, t, d, e) = ([], [], w, t, none, derives_trans d e)
