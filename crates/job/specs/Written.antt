-- Writing the front of a buffer, number by number. Assumes nothing.
use Rattle.std.specs.Prelude.{List, [], ◌∷◌, ℕ, zero, suc}

-- the first n numbers become f i, f (i + 1) and so on, the rest stay
unfoldable pub written : (ℕ → ℕ) → ℕ → ℕ → List ℕ → List ℕ
written f i zero xs = xs
written f i (suc n) [] = []
written f i (suc n) (x ∷ xs) = f i ∷ written f (suc i) n xs

-- the first n numbers become 0, the rest stay
unfoldable pub cleared : ℕ → List ℕ → List ℕ
cleared n xs = written (λ i. 0) 0 n xs
