-- The productive symbols are the generating ones: a derivation of a terminal string carries 'every symbol generates'
-- backwards, and each way to generate is a derivation. Assumes nothing.
use Rattle.grammar.proofs.Basics.{◌↔◌, List, ◌∷◌, [], ◌++◌, ℕ}
use Rattle.grammar.specs.Symbol.{Terminals}
use Rattle.grammar.specs.Rule.{Rule, Rules, ProductionsOf, of_rule, head, body, empty, unit, pair}
use Rattle.grammar.specs.Derivation.{Derives, none}
use Rattle.grammar.specs.Useful.{Productive}
use Rattle.grammar.specs.Theorems.Inductive.{Generating}
use Rattle.grammar.proofs.Strings.{All, nil, cons}
use Rattle.grammar.proofs.Derivations.{derives_append, derives_rule}
use Rattle.grammar.proofs.Backwards.{Up, before_derivation, all_before}

pub terminals_append : (v w : List ℕ) → Terminals v → Terminals w → Terminals (v ++ w)
unfolding Terminals
terminals_append [] w s t = t
terminals_append (x ∷ v) w s t = (s.0, terminals_append v w s.1 t)

pub terminals_generate : {R : Rules} (w : List ℕ) → Terminals w → All (Generating R) w
unfolding Terminals
terminals_generate [] t = nil
terminals_generate (x ∷ w) t = cons (Generating.terminal t.0) (terminals_generate w t.1)

module _ {R : Rules} where
  pub generating_rule : (ρ : Rule) → R ρ → All (Generating R) (body ρ) → Generating R (head ρ)
  generating_rule (empty A) r nil = Generating.by_empty r
  generating_rule (unit A X) r (cons g nil) = Generating.by_unit r g
  generating_rule (pair A X Y) r (cons g (cons h nil)) = Generating.by_pair r g h

  pub generating_up : Up (ProductionsOf R) (All (Generating R)) (Generating R)
  generating_up A β (of_rule ρ r) = generating_rule ρ r

  -- each symbol of a form that derives a terminal string generates
  pub derives_generate : {α : List ℕ} (w : List ℕ) → Terminals w → Derives (ProductionsOf R) α w → All (Generating R) α
  derives_generate w t d = before_derivation (All (Generating R)) (all_before generating_up) d (terminals_generate w t)

  productive_above :
      (ρ : Rule) → R ρ → (w : List ℕ) × Terminals w × Derives (ProductionsOf R) (body ρ) w → Productive R (head ρ)
  unfolding Productive
  productive_above ρ r d = (d.0, d.1, derives_rule ρ r d.2)

  pub generating_derives : {X : ℕ} → Generating R X → Productive R X
  unfolding Productive Terminals
  generating_derives (Generating.terminal {X = X} t) = (X ∷ [], (t, tt), none)
  generating_derives (Generating.by_empty {A = A} r) = productive_above (empty A) r ([], tt, none)
  generating_derives (Generating.by_unit {A = A} {X = X} r g) = productive_above (unit A X) r (generating_derives g)
  generating_derives (Generating.by_pair {A = A} {X = X} {Y = Y} r g h) =
      let p = generating_derives g in
      let q = generating_derives h in
      productive_above (pair A X Y) r (
        p.0 ++ q.0,
        terminals_append p.0 q.0 p.1 q.1,
        derives_append {α = X ∷ []} {γ = Y ∷ []} p.2 q.2,
      )

pub productive_generates : (R : Rules) (X : ℕ) → Productive R X → Generating R X
unfolding Productive
productive_generates R X p = first (derives_generate p.0 p.1 p.2) where
  first : All (Generating R) (X ∷ []) → Generating R X
  first (cons g nil) = g

pub productive_is_generating_lem : (R : Rules) (X : ℕ) → Productive R X ↔ Generating R X
productive_is_generating_lem R X = (productive_generates R X, generating_derives)
