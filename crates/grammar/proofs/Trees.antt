-- Derivation trees: the derivation of a terminal string gives one, by its steps backwards, and the tree of a useful
-- symbol has useful rules alone. Assumes nothing.
use Rattle.grammar.proofs.Basics.{List, ◌∷◌, [], ◌++◌, append-nil, append_assoc, ℕ}
use Rattle.grammar.specs.Symbol.{IsTerminal, Terminals}
use Rattle.grammar.specs.Rule.{Rules, ProductionsOf, of_rule, empty, unit, pair}
use Rattle.grammar.specs.Derivation.{Derives}
use Rattle.grammar.specs.Useful.{AllUseful, UsefulRules}
use Rattle.grammar.specs.Theorems.Inductive.{Generating, Reached}
use Rattle.grammar.proofs.Backwards.{Carried, before_derivation}
use Rattle.grammar.proofs.Graph.{generates_useful}

-- a tree with the root A whose leaves, from left to right, are the terminal string w
pub data Tree (R : Rules) : ℕ → List ℕ → Type 0 where
  leaf : {X : ℕ} → IsTerminal X → Tree R X (X ∷ [])
  by_empty : {A : ℕ} → R (empty A) → Tree R A []
  by_unit : {A X : ℕ} {w : List ℕ} → R (unit A X) → Tree R X w → Tree R A w
  by_pair : {A X Y : ℕ} {v w : List ℕ} → R (pair A X Y) → Tree R X v → Tree R Y w → Tree R A (v ++ w)

-- trees side by side, one for each symbol of a form
data Forest (R : Rules) : List ℕ → List ℕ → Type 0 where
  nil : Forest R [] []
  cons : {X : ℕ} {α v w : List ℕ} → Tree R X v → Forest R α w → Forest R (X ∷ α) (v ++ w)

module _ {R : Rules} where
  word_forest : (w : List ℕ) → Terminals w → Forest R w w
  unfolding Terminals
  word_forest [] t = nil
  word_forest (x ∷ w) t = cons (leaf t.0) (word_forest w t.1)

  -- a rule joins the trees of its body to one of its head
  forest_before : (w : List ℕ) → Carried (ProductionsOf R) (λ α. Forest R α w)
  forest_before _ [] _ _ γ (of_rule (empty A) r) f = cons (by_empty r) f
  forest_before _ [] _ _ γ (of_rule (unit A X) r) (cons t f) = cons (by_unit r t) f
  forest_before _ [] _ _ γ (of_rule (pair A X Y) r) (cons {v = v} t (cons {v = v'} {w = w'} t' f)) =
      let joined : Forest R (A ∷ γ) ((v ++ v') ++ w') = cons (by_pair r t t') f in
      rw append_assoc at joined
  forest_before _ (X ∷ α) A β γ p (cons {w = w} t f) = cons t (forest_before w α A β γ p f)

  single : {A : ℕ} {w : List ℕ} → Forest R (A ∷ []) w → Tree R A w
  single (cons t nil) = rw append-nil t

  pub derives_tree : {A : ℕ} (w : List ℕ) → Terminals w → Derives (ProductionsOf R) (A ∷ []) w → Tree R A w
  derives_tree w t d = single (before_derivation (λ α. Forest R α w) (forest_before w) d (word_forest w t))

  tree_generates : {A : ℕ} {w : List ℕ} → Tree R A w → Generating R A
  tree_generates (leaf t) = Generating.terminal t
  tree_generates (by_empty r) = Generating.by_empty r
  tree_generates (by_unit r t) = Generating.by_unit r (tree_generates t)
  tree_generates (by_pair r t u) = Generating.by_pair r (tree_generates t) (tree_generates u)

  -- all symbols of a tree generate, and are reached where its root is
  pub useful_tree : {S A : ℕ} {w : List ℕ} → Reached R S A → Tree R A w → Tree (UsefulRules R S) A w
  unfolding AllUseful
  useful_tree {S} c (leaf t) = leaf t
  useful_tree {S} c (by_empty r) = by_empty (r, (generates_useful R S (Generating.by_empty r) c, tt))
  useful_tree {S} c (by_unit r t) =
      let g = tree_generates t in
      let c' = Reached.by_unit r c in
      let above = generates_useful R S (Generating.by_unit r g) c in
      by_unit (r, (above, (generates_useful R S g c', tt))) (useful_tree c' t)
  useful_tree {S} c (by_pair r t u) =
      let g = tree_generates t in
      let h = tree_generates u in
      let left = Reached.by_left r h c in
      let right = Reached.by_right r g c in
      let above = generates_useful R S (Generating.by_pair r g h) c in
      by_pair (r, (above, (generates_useful R S g left, (generates_useful R S h right, tt))))
      (useful_tree left t) (useful_tree right u)
