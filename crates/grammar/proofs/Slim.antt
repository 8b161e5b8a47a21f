-- Trees in which no symbol stands below itself. Such a tree is short. Any other becomes one from the bottom up: where
-- A stands below itself with nothing beside, the lower one takes the place of the upper; with something beside, the
-- rules have a cycle that grows. Assumes nothing.
use Rattle.grammar.proofs.Basics.{◌≡◌, refl, ⊎_elim, inl, inr, ◌⊎◌, true, Bool, List, ◌∷◌, [], ◌++◌}
use Rattle.grammar.proofs.Basics.{append-nil, ℕ, ◌<◌, ◌≤◌, ◌+◌, suc, zero, arith, eqb, length, length-append}
use Rattle.grammar.proofs.Basics.{eqb-true, cases, Subset, and_split}
use Rattle.grammar.specs.Symbol.{IsTerminal}
use Rattle.grammar.specs.Rule.{Rule, Rules, head, empty, unit, pair}
use Rattle.grammar.specs.Counting.{count}
use Rattle.grammar.specs.Theorems.Inductive.{Leads, LeadsToTerminal, OneLeads, GrowingCycle}
use Rattle.grammar.proofs.Counting.{count-all}
use Rattle.grammar.proofs.NoRepeat.{without, count_without}
use Rattle.grammar.proofs.Graph.{leads_trans, terminal_trans}
use Rattle.grammar.proofs.Trees.{Tree}
use Rattle.grammar.proofs.Trees as trees

-- a tree whose inner symbols pass the test, each once on a path from the root down
data Slim (R : Rules) : (ℕ → Bool) → ℕ → List ℕ → Type 0 where
  leaf : {t : ℕ → Bool} {X : ℕ} → IsTerminal X → Slim R t X (X ∷ [])
  by_empty : {t : ℕ → Bool} {A : ℕ} → R (empty A) → Slim R t A []
  by_unit : {t : ℕ → Bool} {A X : ℕ} {w : List ℕ} → R (unit A X) → t A ≡ true → Slim R (without A t) X w → Slim R t A w
  by_pair : {t : ℕ → Bool} {A X Y : ℕ} {v w : List ℕ} → R (pair A X Y) → t A ≡ true →
      Slim R (without A t) X v → Slim R (without A t) Y w → Slim R t A (v ++ w)

-- the test that all pass
abbrev all : ℕ → Bool
all _ = true

without_subset : (A : ℕ) {s t : ℕ → Bool} → Subset s t → Subset (without A s) (without A t)
unfolding without
without_subset A sub X e = let (h, d) = simp and_split at e in simp and_split (sub X h, d)

without_swap : (A B : ℕ) (t : ℕ → Bool) → Subset (without A (without B t)) (without B (without A t))
unfolding without
without_swap A B t X e = let ((h, b), a) = simp and_split at e in simp and_split ((h, a), b)

-- where A stands in a tree of B with the string w: with nothing beside it, so that A has the string too; or below a
-- pair rule whose other symbol leads to a terminal
data Found (R : Rules) (A B : ℕ) (w : List ℕ) : Type 0 where
  alone : Leads R B A → Slim R all A w → Found R A B w
  beside : (C X Y : ℕ) → Leads R B C → R (pair C X Y) → OneLeads R A X Y → Found R A B w

module _ {R : Rules} where
  slim_wider : {s t : ℕ → Bool} {A : ℕ} {w : List ℕ} → Subset s t → Slim R s A w → Slim R t A w
  slim_wider sub (leaf x) = leaf x
  slim_wider sub (by_empty r) = by_empty r
  slim_wider sub (by_unit {A = A} r e z) = by_unit r (sub A e) (slim_wider (without_subset A sub) z)
  slim_wider sub (by_pair {A = A} r e y z) =
      by_pair r (sub A e) (slim_wider (without_subset A sub) y) (slim_wider (without_subset A sub) z)

  -- a string that is not empty has a terminal
  slim_terminal : {t : ℕ → Bool} {A : ℕ} {w : List ℕ} → Slim R t A w → 0 < length w → LeadsToTerminal R A
  slim_terminal (leaf {X = X} x) l = (X, x, Leads.here)
  slim_terminal (by_empty r) l = absurd (omega arith)
  slim_terminal (by_unit r e z) l = terminal_trans (Leads.by_unit r Leads.here) (slim_terminal z l)
  slim_terminal (by_pair {v = []} r e y z) l = terminal_trans (Leads.by_right r Leads.here) (slim_terminal z l)
  slim_terminal (by_pair {v = x ∷ v} r e y z) l =
      terminal_trans (Leads.by_left r Leads.here) (slim_terminal y (omega arith))

  -- it is found below B as below a symbol that B leads to
  found_by : {A B X : ℕ} {w : List ℕ} → Leads R B X → Found R A X w → Found R A B w
  found_by l (alone m z) = alone (leads_trans l m) z
  found_by l (beside C X Y m r one) = beside C X Y (leads_trans l m) r one

  -- A in one of the two trees below a pair rule: the other has the empty string, or a terminal
  found_left : {t : ℕ → Bool} {A B X Y : ℕ} {v : List ℕ} (w : List ℕ) → R (pair B X Y) → Slim R t Y w →
      Found R A X v → Found R A B (v ++ w)
  found_left w r z (beside C X Y m s one) = beside C X Y (Leads.by_left r m) s one
  found_left [] r z (alone m y) = alone (Leads.by_left r m) (rw append-nil y)
  found_left {B = B} {X = X} {Y = Y} (x ∷ w) r z (alone m y) =
      beside B X Y Leads.here r (inl (m, slim_terminal z (omega arith)))

  found_right : {t : ℕ → Bool} {A B X Y : ℕ} (v : List ℕ) {w : List ℕ} → R (pair B X Y) → Slim R t X v →
      Found R A Y w → Found R A B (v ++ w)
  found_right v r z (beside C X Y m s one) = beside C X Y (Leads.by_right r m) s one
  found_right [] r z (alone m y) = alone (Leads.by_right r m) y
  found_right {B = B} {X = X} {Y = Y} (x ∷ v) r z (alone m y) =
      beside B X Y Leads.here r (inr (m, slim_terminal z (omega arith)))

  -- A in neither, or found
  in_neither : {t : ℕ → Bool} {A B X Y : ℕ} {v w : List ℕ} → R (pair B X Y) → Slim R t X v → Slim R t Y w →
      Slim R (without A t) X v ⊎ Found R A X v → Slim R (without A t) Y w ⊎ Found R A Y w →
      (Slim R (without A t) X v × Slim R (without A t) Y w) ⊎ Found R A B (v ++ w)
  in_neither {w = w} r y z (inr f) other = inr (found_left w r z f)
  in_neither {v = v} r y z (inl y') (inr f) = inr (found_right v r y f)
  in_neither r y z (inl y') (inl z') = inl (y', z')

  -- the root is A itself
  found_root : {t : ℕ → Bool} {A B : ℕ} {w : List ℕ} → B ≡ A → Slim R t B w → Found R A B w
  found_root e z = rw e (alone Leads.here (slim_wider (λ X h. refl) (rw e at z)))

  -- A is nowhere in a tree, or it is found
  search_for : (A : ℕ) {t : ℕ → Bool} {B : ℕ} {w : List ℕ} → Slim R t B w → Slim R (without A t) B w ⊎ Found R A B w
  unfolding without
  search_for A (leaf x) = inl (leaf x)
  search_for A (by_empty r) = inl (by_empty r)
  search_for A {t} (by_unit {A = B} r e z) =
      cases (eqb B A)
      (λ same. inr (found_root {t = t} (eqb-true B A same) (by_unit r e z)))
      (λ other. ⊎_elim
      (λ z'. inl (by_unit r (rw (e, other)) (slim_wider (without_swap A B t) z')))
      (λ f. inr (found_by (Leads.by_unit r Leads.here) f)) (search_for A z))
  search_for A {t} (by_pair {A = B} r e y z) =
      cases (eqb B A)
      (λ same. inr (found_root {t = t} (eqb-true B A same) (by_pair r e y z)))
      (λ other.
      let swap = without_swap A B t in
      ⊎_elim (λ s. inl (by_pair r (rw (e, other)) (slim_wider swap s.0) (slim_wider swap s.1))) inr
      (in_neither r y z (search_for A y) (search_for A z)))

  -- A below itself
  found_again : {A : ℕ} {w : List ℕ} → Found R A A w → GrowingCycle R ⊎ Slim R all A w
  found_again (alone m z) = inr z
  found_again (beside C X Y m r (inl (l, t))) = inl (C, X, Y, r, inl (leads_trans l m, t))
  found_again (beside C X Y m r (inr (l, t))) = inl (C, X, Y, r, inr (leads_trans l m, t))

  slim : {A : ℕ} {w : List ℕ} → Tree R A w → GrowingCycle R ⊎ Slim R all A w
  slim (trees.leaf x) = inr (leaf x)
  slim (trees.by_empty r) = inr (by_empty r)
  slim (trees.by_unit {A = A} r t) =
      ⊎_elim inl
      (λ z. ⊎_elim
      (λ z'. inr (by_unit r refl z'))
      (λ f. found_again (found_by (Leads.by_unit r Leads.here) f)) (search_for A z)) (slim t)
  slim (trees.by_pair {A = A} r t u) =
      ⊎_elim inl
      (λ y. ⊎_elim inl
      (λ z. ⊎_elim (λ s. inr (by_pair r refl s.0 s.1)) found_again
      (in_neither r y z (search_for A y) (search_for A z))) (slim u)) (slim t)

-- 2 to the power k: as many leaves at most below a path of k symbols
unfoldable pub bound : ℕ → ℕ
bound zero = 1
bound (suc k) = bound k + bound k

bound_positive : (k : ℕ) → 1 ≤ bound k
unfolding bound
bound_positive zero = omega arith
bound_positive (suc k) = omega (arith, bound_positive k)

module _ {R : Rules} (n : ℕ) (heads : (ρ : Rule) → R ρ → head ρ < n) where
  slim_short : {t : ℕ → Bool} {A : ℕ} {w : List ℕ} → Slim R t A w → length w ≤ bound (count t n)
  unfolding bound
  slim_short {t} (leaf x) = bound_positive (count t n)
  slim_short (by_empty r) = omega arith
  slim_short {t} (by_unit {A = A} {X = X} r e z) =
      rw (count_without t n A (heads (unit A X) r) e) (omega (arith, slim_short z))
  slim_short {t} (by_pair {A = A} {X = X} {Y = Y} r e y z) =
      rw (count_without t n A (heads (pair A X Y) r) e, length-append) (omega (arith, slim_short y, slim_short z))

  -- a tree shows a cycle that grows, or is short
  pub tree_short : {A : ℕ} {w : List ℕ} → Tree R A w → GrowingCycle R ⊎ (length w ≤ bound n)
  tree_short {w = w} t =
      ⊎_elim inl (λ z. inr (rw (count-all all n (λ X l. refl)) at (slim_short {t = all} {w = w} z))) (slim t)
