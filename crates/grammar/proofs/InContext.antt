-- The symbols in a terminal context are the reached ones: a derivation carries backwards 'one symbol reaches X, all
-- others generate', and each way to reach puts one terminal context into another. Assumes nothing.
use Rattle.grammar.proofs.Basics.{◌↔◌, List, ◌∷◌, [], ◌++◌, ℕ}
use Rattle.grammar.specs.Symbol.{Terminals}
use Rattle.grammar.specs.Rule.{Rules, ProductionsOf, of_rule, unit, pair}
use Rattle.grammar.specs.Derivation.{Derives, none}
use Rattle.grammar.specs.Useful.{Productive, InContext}
use Rattle.grammar.specs.Theorems.Inductive.{Generating, Reached}
use Rattle.grammar.proofs.Strings.{All, nil, cons, Focus, on, past, focus_at}
use Rattle.grammar.proofs.Derivations.{derives_rule, derives_inside, derives_left, derives_right}
use Rattle.grammar.proofs.Backwards.{Up, before_derivation, focus_before}
use Rattle.grammar.proofs.Productive.{terminals_append, terminals_generate, generating_up, generating_derives}

module _ {R : Rules} where
  pub reached_trans : {S A X : ℕ} → Reached R S A → Reached R A X → Reached R S X
  reached_trans c Reached.start = c
  reached_trans c (Reached.by_unit r d) = Reached.by_unit r (reached_trans c d)
  reached_trans c (Reached.by_left r g d) = Reached.by_left r g (reached_trans c d)
  reached_trans c (Reached.by_right r g d) = Reached.by_right r g (reached_trans c d)

-- X is reached from one symbol of the string, and all others generate
abbrev Reaches : Rules → ℕ → List ℕ → Type 0
Reaches R X = Focus (λ Z. Reached R Z X) (Generating R)

reached_up : {R : Rules} (X : ℕ) → Up (ProductionsOf R) (Reaches R X) (λ A. Reached R A X)
reached_up X _ _ (of_rule (unit A Y) r) (on c nil) = reached_trans (Reached.by_unit r Reached.start) c
reached_up X _ _ (of_rule (pair A Y Z) r) (on c (cons g nil)) = reached_trans (Reached.by_left r g Reached.start) c
reached_up X _ _ (of_rule (pair A Y Z) r) (past g (on c nil)) = reached_trans (Reached.by_right r g Reached.start) c
reached_up {R = R} X _ _ (of_rule (Rattle.grammar.specs.Rule.empty _) r) x6 = elim x6 [ ]
reached_up {R = R} X _ _ (of_rule (unit A Y) r) (past g x11) = elim x11 [ ]
reached_up {R = R} X _ _ (of_rule (pair A Y Z) r) (past g (past _ x16)) = elim x16 [ ]

-- X is reached from S where S derives a form around X whose other symbols generate
pub around_reached : {R : Rules} {S : ℕ} {α β : List ℕ} (X : ℕ) →
    All (Generating R) α → All (Generating R) β → Derives (ProductionsOf R) (S ∷ []) (α ++ (X ∷ β)) → Reached R S X
around_reached {R} {S} X g h d =
    first
    (before_derivation (Reaches R X) (focus_before generating_up (reached_up X)) d (focus_at X g Reached.start h))
  where
    first : Reaches R X (S ∷ []) → Reached R S X
    first (on c nil) = c
    first (past _ x6) = elim x6 [ ]

module _ (R : Rules) (S X : ℕ) where
  pub in_context_reached : InContext R S X → Reached R S X
  unfolding InContext
  in_context_reached c = around_reached X (terminals_generate c.0 c.2) (terminals_generate c.1 c.3) c.4

  in_context_trans : (A : ℕ) → InContext R S A → InContext R A X → InContext R S X
  unfolding InContext
  in_context_trans A c d = (
    c.0 ++ d.0,
    d.1 ++ c.1,
    terminals_append c.0 d.0 c.2 d.2,
    terminals_append d.1 c.1 d.3 c.3,
    derives_inside X c.0 c.1 d.0 d.1 c.4 d.4,
  )

pub reached_in_context : {R : Rules} {S X : ℕ} → Reached R S X → InContext R S X
unfolding InContext Productive Terminals
reached_in_context Reached.start = ([], [], tt, tt, none)
reached_in_context {R} {S} (Reached.by_unit {A = A} {X = X} r c) =
    in_context_trans R S X A (reached_in_context c) ([], [], tt, tt, derives_rule (unit A X) r none)
reached_in_context {R} {S} (Reached.by_left {A = A} {X = X} {Y = Y} r g c) =
    let p = generating_derives g in
    in_context_trans R S X A (reached_in_context c) ([], p.0, tt, p.1, derives_left A X Y r p.2)
reached_in_context {R} {S} (Reached.by_right {A = A} {X = X} {Y = Y} r g c) =
    let p = generating_derives g in
    in_context_trans R S Y A (reached_in_context c) (p.0, [], p.1, tt, derives_right A X Y r p.2)

pub in_context_is_reached_lem : (R : Rules) (S X : ℕ) → InContext R S X ↔ Reached R S X
in_context_is_reached_lem R S X = (in_context_reached R S X, reached_in_context)
