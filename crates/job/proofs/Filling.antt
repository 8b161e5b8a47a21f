-- Writing the first n numbers of a list, one after the other. Assumes nothing.
use Rattle.grammar.proofs.Basics.{◌≡◌, refl, ap, List, ◌∷◌, [], ℕ, ◌<◌, ◌≤◌, ◌+◌, suc, zero, add-zero, zero-add}
use Rattle.grammar.proofs.Basics.{add-one, arith, length, get_or, take, set, drop}
use Rattle.job.specs.Written.{written}

pub written_long : (f : ℕ → ℕ) (i n : ℕ) (xs : List ℕ) → length (written f i n xs) ≡ length xs
unfolding written
written_long f i zero xs = refl
written_long f i (suc n) [] = refl
written_long f i (suc n) (x ∷ xs) = ap suc (written_long f (suc i) n xs)

-- the first n are given by their places
written_from :
    (f : ℕ → ℕ) (i n : ℕ) (xs : List ℕ) (k : ℕ) → k < n → k < length xs → get_or (written f i n xs) k 0 ≡ f (i + k)
unfolding written
written_from f i zero xs k l m = absurd (omega arith)
written_from f i (suc n) [] k l m = absurd (omega arith)
written_from f i (suc n) (x ∷ xs) zero l m = rw add-zero
written_from f i (suc n) (x ∷ xs) (suc k) l m =
    let e : suc i + k ≡ i + suc k = omega arith in
    rw e at (written_from f (suc i) n xs k (omega arith) (omega arith))

pub written_at : (f : ℕ → ℕ) (n : ℕ) (xs : List ℕ) (k : ℕ) → k < n → k < length xs → get_or (written f 0 n xs) k 0 ≡ f k
written_at f n xs k l m = rw (zero-add k) at (written_from f 0 n xs k l m)

-- one more is written
pub written_next :
    (f : ℕ → ℕ) (i n : ℕ) (xs : List ℕ) → n < length xs → set (written f i n xs) n (f (i + n)) ≡ written f i (suc n) xs
unfolding written
written_next f i n [] l = absurd (omega arith)
written_next f i zero (x ∷ xs) l = rw add-zero
written_next f i (suc n) (x ∷ xs) l =
    let e : i + suc n ≡ suc i + n = omega arith in
    rw (e, written_next f (suc i) n xs (omega arith))

pub written_more :
    (f : ℕ → ℕ) (n : ℕ) (xs : List ℕ) {ys : List ℕ} {v : ℕ} → n < length xs → ys ≡ written f 0 n xs → v ≡ f n →
    set ys n v ≡ written f 0 (n + 1) xs
written_more f n xs l e p = rw (e, p, add-one n) (rw (zero-add n) at (written_next f 0 n xs l))

-- past them all is as before
pub written_past : (f : ℕ → ℕ) (i n : ℕ) (xs : List ℕ) (k : ℕ) → n ≤ k → get_or (written f i n xs) k 0 ≡ get_or xs k 0
unfolding written
written_past f i zero xs k h = refl
written_past f i (suc n) [] k h = refl
written_past f i (suc n) (x ∷ xs) zero h = omega arith
written_past f i (suc n) (x ∷ xs) (suc k) h = written_past f (suc i) n xs k (omega arith)

-- what is written depends on the length alone, and the rest is the rest
pub written_alike : (f : ℕ → ℕ) (i n : ℕ) (xs ys : List ℕ) → length xs ≡ length ys →
    take n (written f i n xs) ≡ take n (written f i n ys)
unfolding written
written_alike f i zero xs ys e = refl
written_alike f i (suc n) [] [] e = refl
written_alike f i (suc n) [] (y ∷ ys) e = absurd (omega arith)
written_alike f i (suc n) (x ∷ xs) [] e = absurd (omega arith)
written_alike f i (suc n) (x ∷ xs) (y ∷ ys) e = rw (written_alike f (suc i) n xs ys (omega arith))

pub written_rest : (f : ℕ → ℕ) (i n : ℕ) (xs : List ℕ) → drop n (written f i n xs) ≡ drop n xs
unfolding written
written_rest f i zero xs = refl
written_rest f i (suc n) [] = refl
written_rest f i (suc n) (x ∷ xs) = written_rest f (suc i) n xs
