-- Rules under other numbers, by any function on symbols: derivations are carried over, and where terminals keep their
-- numbers, so are the language and the useful symbols. Assumes nothing.
use Rattle.grammar.proofs.Basics.{◌≡◌, refl, true, Bool, List, ◌∷◌, [], map, ℕ, and_split}
use mathlib.Core.List.{map-append}
use Rattle.grammar.specs.Symbol.{IsTerminal, Terminals}
use Rattle.grammar.specs.Rule.{Rule, Rules, ProductionsOf, of_rule, empty, unit, pair}
use Rattle.grammar.specs.Derivation.{by_production, Derives, none, more}
use Rattle.grammar.specs.Useful.{Useful}
use Rattle.grammar.specs.Language.{Language}
use Rattle.usefulness.specs.Sets.{all_in_lem, rule_in}
use Rattle.copies.specs.Copy.{renumbered}

-- a function that keeps the terminals keeps their strings
word_kept : (f : ℕ → ℕ) → ((x : ℕ) → IsTerminal x → f x ≡ x) → (w : List ℕ) → Terminals w → map f w ≡ w
unfolding Terminals
word_kept f keeps [] t = refl
word_kept f keeps (x ∷ w) t = rw (keeps x t.0, word_kept f keeps w t.1)

module _ (f : ℕ → ℕ) (R R' : Rules) (each : (ρ : Rule) → R ρ → R' (renumbered f ρ)) where
  production : {A : ℕ} {β : List ℕ} → ProductionsOf R A β → ProductionsOf R' (f A) (map f β)
  production (of_rule (empty A) r) = of_rule (empty (f A)) (each (empty A) r)
  production (of_rule (unit A X) r) = of_rule (unit (f A) (f X)) (each (unit A X) r)
  production (of_rule (pair A X Y) r) = of_rule (pair (f A) (f X) (f Y)) (each (pair A X Y) r)

  -- a derivation goes over step by step
  renumbered_derives :
      {α β : List ℕ} → Derives (ProductionsOf R) α β → Derives (ProductionsOf R') (map f α) (map f β)
  renumbered_derives none = none
  renumbered_derives (more (by_production α γ p) d) =
      let e = renumbered_derives d in
      simp map-append (more (by_production (map f α) (map f γ) (production p)) (simp map-append at e))

  module _ (keeps : (x : ℕ) → IsTerminal x → f x ≡ x) where
    -- so a string of the language stays one, and a useful symbol is useful under its new number
    pub renumbered_language : {S : ℕ} (w : List ℕ) → Language R S w → Language R' (f S) w
    renumbered_language w (t, d) = (t, rw (word_kept f keeps w t) at (renumbered_derives d))

    pub renumbered_useful : (S X : ℕ) → Useful R S X → Useful R' (f S) (f X)
    unfolding Useful
    renumbered_useful S X (α, β, w, t, d, e) =
        let d' = simp map-append at (renumbered_derives d) in
        let e' = simp (map-append, word_kept f keeps w t) at (renumbered_derives e) in
        (map f α, map f β, w, t, d', e')

pub renumbered_self : (ρ : Rule) → renumbered (λ X. X) ρ ≡ ρ
renumbered_self (empty A) = refl
renumbered_self (unit A X) = refl
renumbered_self (pair A X Y) = refl

-- a rule whose symbols are all in a set
module _ (set : ℕ → Bool) (f : ℕ → ℕ) where
  -- one numbering after another, where on the set both together are a third
  pub renumbered_twice : (g h : ℕ → ℕ) → ((X : ℕ) → set X ≡ true → g (f X) ≡ h X) →
      (ρ : Rule) → rule_in set ρ ≡ true → renumbered g (renumbered f ρ) ≡ renumbered h ρ
  unfolding all_in_lem
  renumbered_twice g h same (empty A) e = let (a, _) = simp and_split at e in rw (same A a)
  renumbered_twice g h same (unit A X) e = let (a, (x, _)) = simp and_split at e in rw (same A a, same X x)
  renumbered_twice g h same (pair A X Y) e =
      let (a, (x, (y, _))) = simp and_split at e in rw (same A a, same X x, same Y y)

  -- its new symbols are all in a set that has the new symbol of each of the first
  pub renumbered_in : (set' : ℕ → Bool) → ((X : ℕ) → set X ≡ true → set' (f X) ≡ true) →
      (ρ : Rule) → rule_in set ρ ≡ true → rule_in set' (renumbered f ρ) ≡ true
  unfolding all_in_lem
  renumbered_in set' new (empty A) e = let (a, _) = simp and_split at e in rw (new A a)
  renumbered_in set' new (unit A X) e = let (a, (x, _)) = simp and_split at e in rw (new A a, new X x)
  renumbered_in set' new (pair A X Y) e =
      let (a, (x, (y, _))) = simp and_split at e in rw (new A a, new X x, new Y y)
