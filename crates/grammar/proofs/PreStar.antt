-- Paths of the closure are derivations into paths of the given automaton. There, each transition of the closure
-- unfolds into a derivation of its symbol; back, saturation takes a path backwards over each step. Assumes nothing.
use Rattle.grammar.proofs.Basics.{◌↔◌, List, ◌∷◌, [], ◌++◌, ℕ, ◌<◌}
use Rattle.grammar.specs.Rule.{Rule, Rules, head, body, empty, unit, pair, ProductionsOf, of_rule}
use Rattle.grammar.specs.Derivation.{Derives, none}
use Rattle.grammar.specs.Automaton.{Transitions, Path, here, along, StatesBelow}
use Rattle.grammar.specs.Closure.{Closure}
use Rattle.grammar.proofs.Derivations.{derives_append, derives_rule}
use Rattle.grammar.proofs.Backwards.{Carried, before_derivation}
use Rattle.grammar.proofs.Paths.{path_append, path_split, path_below, path_grows}
use Rattle.grammar.proofs.Smallest.{closure_below, closure_closed}

-- α derives a string that leads from q to r
abbrev pub DerivesPath : Rules → Transitions → ℕ → List ℕ → ℕ → Type 0
DerivesPath R D q α r = (β : List ℕ) × Derives (ProductionsOf R) α β × Path D q β r

module _ {R : Rules} {D : Transitions} where
  derives_beside :
      {q m r : ℕ} {α β : List ℕ} → DerivesPath R D q α m → DerivesPath R D m β r → DerivesPath R D q (α ++ β) r
  derives_beside d e = (d.0 ++ e.0, derives_append d.1 e.1, path_append d.2 e.2)

  derives_above : (ρ : Rule) {q r : ℕ} → R ρ → DerivesPath R D q (body ρ) r → DerivesPath R D q (head ρ ∷ []) r
  derives_above ρ r d = (d.0, derives_rule ρ r d.1, d.2)

  closure_derives : {s q X r : ℕ} → Closure R D s q X r → DerivesPath R D q (X ∷ []) r
  closure_derives (Closure.given {X = X} d) = (X ∷ [], none, along d here)
  closure_derives (Closure.by_empty {A = A} ρ l) = derives_above (empty A) ρ ([], none, here)
  closure_derives (Closure.by_unit {A = A} {X = X} ρ c) = derives_above (unit A X) ρ (closure_derives c)
  closure_derives (Closure.by_pair {A = A} {X = X} {Y = Y} ρ c d) =
      derives_above (pair A X Y) ρ (derives_beside {α = X ∷ []} {β = Y ∷ []} (closure_derives c) (closure_derives d))

  -- [Esparza], Lemma 3.1
  pub path_derives : {s q r : ℕ} {α : List ℕ} → Path (Closure R D s) q α r → DerivesPath R D q α r
  path_derives here = ([], none, here)
  path_derives (along {X = X} {w = w} c p) = derives_beside {α = X ∷ []} {β = w} (closure_derives c) (path_derives p)

  module _ {s : ℕ} (below : StatesBelow D s) where
    -- [Esparza], Lemma 3.2
    pub derives_path :
        {q r : ℕ} {α β : List ℕ} → q < s → Derives (ProductionsOf R) α β → Path D q β r → Path (Closure R D s) q α r
    derives_path {q} {r} l d p =
        before_derivation (λ α. Path (Closure R D s) q α r) back d (path_grows (λ q X r. Closure.given) p)
      where
        back : Carried (ProductionsOf R) (λ α. Path (Closure R D s) q α r)
        back α A β γ (of_rule ρ member) p =
            let (m, left, on) = path_split α p in
            let (k, inside, right) = path_split (body ρ) on in
            path_append left
            (along (closure_closed.saturated ρ m k member (path_below (closure_below below) l left) inside) right)

    pub pre_star_lem : (q : ℕ) (α : List ℕ) (r : ℕ) → q < s → Path (Closure R D s) q α r ↔ DerivesPath R D q α r
    pre_star_lem q α r l = (path_derives, λ d. derives_path l d.1 d.2)
