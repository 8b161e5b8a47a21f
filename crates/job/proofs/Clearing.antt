-- Clearing the front of a list is writing zeros: what stands in it then. Assumes nothing.
use Rattle.grammar.proofs.Basics.{◌≡◌, refl, ap, List, ◌∷◌, [], ◌++◌, ℕ, ◌<◌, ◌≤◌, suc, zero, arith, length, get_or, take, set}
use Rattle.grammar.proofs.Basics.{replicate}
use Rattle.grammar.proofs.Basics.{drop}
use Rattle.job.specs.Written.{written, cleared}
use Rattle.job.proofs.Filling.{written_long, written_next, written_past, written_rest, written_alike}

pub cleared_length : (n : ℕ) (xs : List ℕ) → length (cleared n xs) ≡ length xs
unfolding cleared
cleared_length n xs = written_long (λ i. 0) 0 n xs

-- one more is cleared
pub cleared_more : (n : ℕ) (xs : List ℕ) → n < length xs → set (cleared n xs) n 0 ≡ cleared (suc n) xs
unfolding cleared
cleared_more n xs h = written_next (λ i. 0) 0 n xs h

-- the front is 0
zeros : (i n : ℕ) (xs : List ℕ) (k : ℕ) → k < n → get_or (written (λ j. 0) i n xs) k 0 ≡ 0
unfolding written
zeros i zero xs k h = omega arith
zeros i (suc n) [] k h = refl
zeros i (suc n) (x ∷ xs) zero h = refl
zeros i (suc n) (x ∷ xs) (suc k) h = zeros (suc i) n xs k (omega arith)

pub cleared_front : (n : ℕ) (xs : List ℕ) (i : ℕ) → i < n → get_or (cleared n xs) i 0 ≡ 0
unfolding cleared
cleared_front n xs i h = zeros 0 n xs i h

-- the rest is as before, by place and as a list
pub cleared_rest : (n : ℕ) (xs : List ℕ) (i : ℕ) → n ≤ i → get_or (cleared n xs) i 0 ≡ get_or xs i 0
unfolding cleared
cleared_rest n xs i h = written_past (λ j. 0) 0 n xs i h

pub cleared_past : (n : ℕ) (xs : List ℕ) → drop n (cleared n xs) ≡ drop n xs
unfolding cleared
cleared_past n xs = written_rest (λ i. 0) 0 n xs

-- what is left in front depends on the length alone
pub cleared_alike : (n : ℕ) (xs ys : List ℕ) → length xs ≡ length ys → take n (cleared n xs) ≡ take n (cleared n ys)
unfolding cleared
cleared_alike n xs ys e = written_alike (λ i. 0) 0 n xs ys e

-- cleared is filled with zeros
filled_from : (i n : ℕ) (xs : List ℕ) → replicate (length (take n xs)) 0 ++ drop n xs ≡ written (λ j. 0) i n xs
unfolding written
filled_from i zero xs = refl
filled_from i (suc n) [] = refl
filled_from i (suc n) (x ∷ xs) = ap (λ ys. 0 ∷ ys) (filled_from (suc i) n xs)

pub filled_front : (n : ℕ) (xs : List ℕ) → replicate (length (take n xs)) 0 ++ drop n xs ≡ cleared n xs
unfolding cleared
filled_front n xs = filled_from 0 n xs
