-- Laws of `some`: a number that passes is found, and what is found passes. Assumes nothing.
use Rattle.grammar.proofs.Basics.{◌≡◌, refl, ⊎_elim, true, Bool, ◌||◌, false≢true, ℕ, ◌<◌, suc, zero, arith, eqb}
use Rattle.grammar.proofs.Basics.{eqb-true, eqb-false, cases, or_split, or_left, or_right}
use Rattle.grammar.specs.Counting.{some}

-- a number that passes is found
pub some_found : (f : ℕ → Bool) (n i : ℕ) → i < n → f i ≡ true → some f n ≡ true
unfolding some
some_found f zero i l e = absurd (omega arith)
some_found f (suc n) i l e =
    cases (eqb i n)
    (λ c. let same : i ≡ n = eqb-true i n c in or_right (some f n) (f n) (rw (← same) e))
    (λ c. let other : ¬ (i ≡ n) = eqb-false i n c in or_left _ (f n) (some_found f n i (omega arith) e))

-- what is found passes
pub some_passes : (f : ℕ → Bool) (n : ℕ) → some f n ≡ true → (i : ℕ) × (i < n) × (f i ≡ true)
unfolding some
some_passes f zero e = absurd (false≢true e)
some_passes f (suc n) e =
    ⊎_elim
    (λ below. let found = some_passes f n below in (found.0, omega (arith, found.1), found.2))
    (λ last. (n, omega arith, last)) (or_split _ (f n) e)

-- tests that agree below n find alike
pub some_cong : (f g : ℕ → Bool) (n : ℕ) → ((i : ℕ) → i < n → f i ≡ g i) → some f n ≡ some g n
unfolding some
some_cong f g zero same = refl
some_cong f g (suc n) same = λ i. some_cong f g n (λ k l. same k (omega arith)) i || same n (omega arith) i
