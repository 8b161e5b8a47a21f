-- Laws of `first_from`: the first number that passes a test passes, and comes before every other that does. By
-- induction on how many numbers are tried. Assumes nothing.
use Rattle.grammar.proofs.Basics.{◌≡◌, refl, true, false, Bool, cond, ℕ, ◌<◌, ◌≤◌, ◌+◌, suc, zero}
use Rattle.grammar.proofs.Basics.{arith, eqb, ltb, eqb-true, eqb-false, ltb-false, ltb-true, cases, true_and_false}
use Rattle.grammar.proofs.Basics.{not_true_false}
use Rattle.machine.specs.Step.{first_from}

-- one step of the search
pub first_here : (f : ℕ → Bool) (i k : ℕ) → f i ≡ true → first_from f i (suc k) ≡ i
unfolding first_from
first_here f i k e = rw e

pub first_later : (f : ℕ → Bool) (i k : ℕ) → f i ≡ false → first_from f i (suc k) ≡ first_from f (suc i) k
unfolding first_from
first_later f i k e = rw e

-- tests that agree find the same first
pub first_cong : (f g : ℕ → Bool) (i k : ℕ) → ((j : ℕ) → j < i + k → f j ≡ g j) → first_from f i k ≡ first_from g i k
unfolding first_from
first_cong f g i zero same = refl
first_cong f g i (suc k) same =
    λ d. cond (same i (omega arith) d) i (first_cong f g (suc i) k (λ j l. same j (omega arith)) d)

module _ (f : ℕ → Bool) where
  pub first_within : (i k : ℕ) → first_from f i k ≤ i + k
  unfolding first_from
  first_within i zero = omega arith
  first_within i (suc k) = cases (f i) (λ c. rw c (omega arith)) (λ c. rw c (omega (arith, first_within (suc i) k)))

  -- the first that passes comes before every other
  pub first_least : (i k j : ℕ) → i ≤ j → j < i + k → f j ≡ true → first_from f i k ≤ j
  first_least i zero j a b e = absurd (omega arith)
  first_least i (suc k) j a b e =
      cases (f i)
      (λ c. omega (arith, first_here f i k c))
      (λ c. cases (eqb i j)
      (λ s. true_and_false (rw (← eqb-true i j s) at e) c)
      (λ s.
      let other = eqb-false i j s in
      omega (arith, first_later f i k c, first_least (suc i) k j (omega arith) (omega arith) e)))

  -- and it passes, if there is one
  pub first_passes : (i k : ℕ) → first_from f i k < i + k → f (first_from f i k) ≡ true
  unfolding first_from
  first_passes i zero l = absurd (omega arith)
  first_passes i (suc k) l =
      cases (f i)
      (λ c. rw first_here c)
      (λ c. rw first_later (first_passes (suc i) k (omega (arith, first_later f i k c))))

  -- none before it passes
  pub none_before_first : (n k : ℕ) → k < first_from f 0 n → f k ≡ false
  none_before_first n k l =
      not_true_false (f k)
      (λ e. omega (arith, first_within 0 n, first_least 0 n k (omega arith) (omega (arith, first_within 0 n)) e))

  -- a number below n that passes, with none before it, is the first; and n is where none passes
  pub is_first : (n p : ℕ) → p ≤ n → (p < n → f p ≡ true) → ((k : ℕ) → k < p → f k ≡ false) → p ≡ first_from f 0 n
  is_first n p within found none =
      let first = first_from f 0 n in
      cases (ltb first p)
      (λ c. let l = ltb-true first p c in true_and_false (first_passes 0 n (omega arith)) (none first l))
      (λ c. cases (ltb p first)
      (λ d.
      let l = ltb-true p first d in
      true_and_false (found (omega (arith, first_within 0 n))) (none_before_first n p l))
      (λ d. omega (arith, ltb-false first p c, ltb-false p first d)))
