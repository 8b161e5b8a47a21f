-- The free variables: no record names them, they are variables, and none stands twice. Assumes nothing.
use Rattle.grammar.proofs.Basics.{◌≡◌, sym, ⊎_elim, false, List, ◌∷◌, [], List·Memᴰ, ◌++◌, List·Memᴰ·not-nil}
use Rattle.grammar.proofs.Basics.{List·Memᴰ·append-cases, append-nil, ℕ, ◌<◌, ltb, List·Memᴰ·eq-of-singleton}
use Rattle.grammar.proofs.Basics.{List·Memᴰ·head, List·Memᴰ·tail, suc, zero, arith, length, ltb-true, ltb-false, cases}
use lib.ListN.{get_or-eq_default}
use Rattle.grammar.specs.Counting.{NoRepeat}
use Rattle.grammar.proofs.NoRepeat.{member_at}
use Rattle.long_jobs.specs.Fresh.{is_named_lem, unnamed_below, free_in}
use Rattle.long_jobs.specs.Walk.{next_free}

pub no_repeat_behind : {A : Type 0} (l : List A) (x : A) → NoRepeat l → (List·Memᴰ x l → ⊥) → NoRepeat (l ++ (x ∷ []))
unfolding NoRepeat
no_repeat_behind [] x d n = (List·Memᴰ·not-nil, tt)
no_repeat_behind (y ∷ ys) x d n = (
  λ m. ⊎_elim d.0 (λ k. n (List·Memᴰ·head (sym (List·Memᴰ·eq-of-singleton k)))) (List·Memᴰ·append-cases ys m),
  no_repeat_behind ys x d.1 (λ m. n (List·Memᴰ·tail m)),
)

module _ (rs : List (List ℕ)) where
  pub free_member : (n v : ℕ) → List·Memᴰ v (unnamed_below rs n) → (v < n) × (is_named_lem rs v ≡ false)
  unfolding unnamed_below
  free_member zero v m = absurd (List·Memᴰ·not-nil m)
  free_member (suc n) v m =
      let earlier : List·Memᴰ v (unnamed_below rs n) → (v < suc n) × (is_named_lem rs v ≡ false) =
      λ k. let (l, u) = free_member n v k in (omega arith, u) in
      cases (is_named_lem rs n)
      (λ t. earlier (rw append-nil at (rw t at m)))
      (λ t. ⊎_elim earlier
      (λ k. let e = List·Memᴰ·eq-of-singleton k in (omega (arith, e), rw e t))
      (List·Memᴰ·append-cases (unnamed_below rs n) (rw t at m)))

  pub free_distinct : (n : ℕ) → NoRepeat (unnamed_below rs n)
  unfolding unnamed_below NoRepeat
  free_distinct zero = tt
  free_distinct (suc n) =
      cases (is_named_lem rs n)
      (λ t. rw (t, append-nil) (free_distinct n))
      (λ t. rw t (no_repeat_behind (unnamed_below rs n) n (free_distinct n) (λ m. omega (arith, (free_member n n m).0))))

  -- what is given in turn is a variable, the 0 past the last too
  pub free_variable : (k : ℕ) → next_free (free_in rs) k < 32
  free_variable k =
      cases (ltb k (length (free_in rs)))
      (λ t. (free_member 32 _ (member_at 0 (free_in rs) k (ltb-true k (length (free_in rs)) t))).0)
      (λ t. rw (get_or-eq_default (free_in rs) 0 (ltb-false k (length (free_in rs)) t)) (omega arith))
