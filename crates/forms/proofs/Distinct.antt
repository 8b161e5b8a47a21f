-- Lists of different numbers: they are no longer than the set that they are of, and an element tells its index.
-- Assumes nothing.
use Rattle.grammar.proofs.Basics.{◌≡◌, refl, sym, ⊎_elim, true, false, Bool, ◌||◌, false≢true, List, ◌∷◌, []}
use Rattle.grammar.proofs.Basics.{List·Memᴰ, ◌++◌, List·Memᴰ·head, List·Memᴰ·tail, List·Memᴰ·not-nil}
use Rattle.grammar.proofs.Basics.{List·Memᴰ·cases-cons, List·Memᴰ·eq-of-singleton, List·Memᴰ·append-cases, ℕ, ◌<◌, ◌≤◌}
use Rattle.grammar.proofs.Basics.{suc, arith, eqb, length, get_or, eq-eqb, eqb-true, or_split, or_left, or_right}
use Rattle.grammar.specs.Counting.{count, NoRepeat}
use Rattle.grammar.proofs.Counting.{count_bound, count_monotone}
use Rattle.grammar.proofs.NoRepeat.{count_list}

-- the number is in the list
holds : List ℕ → ℕ → Bool
holds [] i = false
holds (x ∷ xs) i = eqb i x || holds xs i

holds_sound : (l : List ℕ) (i : ℕ) → holds l i ≡ true → List·Memᴰ i l
unfolding holds
holds_sound [] i e = absurd (false≢true e)
holds_sound (x ∷ xs) i e =
    ⊎_elim
    (λ h. List·Memᴰ·head (eqb-true i x h))
    (λ h. List·Memᴰ·tail (holds_sound xs i h)) (or_split _ _ e)

holds_complete : (l : List ℕ) (i : ℕ) → List·Memᴰ i l → holds l i ≡ true
unfolding holds
holds_complete [] i m = absurd (List·Memᴰ·not-nil m)
holds_complete (x ∷ xs) i m =
    ⊎_elim
    (λ e. or_left _ _ (eq-eqb i x e))
    (λ m'. or_right (eqb i x) _ (holds_complete xs i m')) (List·Memᴰ·cases-cons m)

-- different members of a set below n are no more than it has there
pub distinct_counted : (t : ℕ → Bool) (n : ℕ) (l : List ℕ) → NoRepeat l → ((i : ℕ) → List·Memᴰ i l → i < n) →
    ((i : ℕ) → List·Memᴰ i l → t i ≡ true) → length l ≤ count t n
distinct_counted t n l apart below members =
    omega (
      arith,
      count_list (holds l) n l apart below (λ i m. holds_complete l i m) (λ i h e. holds_sound l i e),
      count_monotone (holds l) t n (λ i h e. members i (holds_sound l i e)),
    )

pub no_more_than : (n : ℕ) (l : List ℕ) → NoRepeat l → ((i : ℕ) → List·Memᴰ i l → i < n) → length l ≤ n
no_more_than n l apart below =
    omega (arith, distinct_counted (λ i. true) n l apart below (λ i m. refl), count_bound (λ i. true) n)

-- one more behind
pub no_repeat_behind : (l : List ℕ) (p : ℕ) → NoRepeat l → (List·Memᴰ p l → ⊥) → NoRepeat (l ++ (p ∷ []))
unfolding NoRepeat
no_repeat_behind [] p apart other = (λ m. List·Memᴰ·not-nil m, tt)
no_repeat_behind (x ∷ xs) p apart other = (
  λ m. ⊎_elim
      (λ i. apart.0 i)
      (λ i. other (List·Memᴰ·head (sym (List·Memᴰ·eq-of-singleton i)))) (List·Memᴰ·append-cases xs m),
  no_repeat_behind xs p apart.1 (λ m. other (List·Memᴰ·tail m)),
)

-- members and indices
pub index_of : {q : ℕ} {l : List ℕ} → List·Memᴰ q l → (j : ℕ) × (j < length l) × (get_or l j 0 ≡ q)
index_of (List·Memᴰ·head e) = (0, omega arith, sym e)
index_of (List·Memᴰ·tail m) = let (j, h, e) = index_of m in (suc j, omega arith, e)
