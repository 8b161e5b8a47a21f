-- Lists of strings: one that has all terminal strings up to a length, and a length that no string of a list passes.
-- Assumes nothing.
use Rattle.grammar.proofs.Basics.{refl, ap, ⊎_elim, List, ◌∷◌, [], List·Memᴰ, ◌++◌, List·Memᴰ·head}
use Rattle.grammar.proofs.Basics.{List·Memᴰ·tail, map, Memᴰ·append-left, Memᴰ·append-right, ℕ, ◌<◌, ◌≤◌, ◌+◌}
use Rattle.grammar.proofs.Basics.{suc, zero, eq-or-lt_of_le, arith, length}
use mathlib.Core.List.Memᴰ
use Rattle.grammar.specs.Symbol.{Terminals}

-- the numbers below n
unfoldable below : ℕ → List ℕ
below zero = []
below (suc n) = n ∷ below n

below_has : (n x : ℕ) → x < n → List·Memᴰ x (below n)
unfolding below
below_has zero x l = absurd (omega arith)
below_has (suc n) x l =
    ⊎_elim (λ e. List·Memᴰ·head (omega (arith, e))) (λ h. List·Memᴰ·tail (below_has n x (omega arith)))
    (eq-or-lt_of_le l)

-- each string with each of the symbols in front
unfoldable extended : List ℕ → List (List ℕ) → List (List ℕ)
extended [] ws = []
extended (x ∷ xs) ws = map (λ w. x ∷ w) ws ++ extended xs ws

extended_has : {x : ℕ} {xs : List ℕ} {w : List ℕ} (ws : List (List ℕ)) → List·Memᴰ x xs → List·Memᴰ w ws →
    List·Memᴰ (x ∷ w) (extended xs ws)
unfolding extended
extended_has {xs = y ∷ ys} ws (List·Memᴰ·head e) m =
    rw e (Memᴰ·append-left (extended ys ws) (Memᴰ.map (λ w. y ∷ w) m))
extended_has {xs = y ∷ ys} ws (List·Memᴰ·tail k) m = Memᴰ·append-right (map (λ w. y ∷ w) ws) (extended_has ws k m)
extended_has {xs = []} {w = w} ws x6 m = elim x6 [ ]

-- the strings of at most n symbols
unfoldable pub strings : ℕ → List (List ℕ)
unfolding below extended
strings zero = [] ∷ []
strings (suc n) = [] ∷ extended (below 64) (strings n)

pub strings_has : (n : ℕ) (w : List ℕ) → Terminals w → length w ≤ n → List·Memᴰ w (strings n)
unfolding strings Terminals
strings_has zero [] t l = List·Memᴰ·head refl
strings_has zero (x ∷ w) t l = absurd (omega arith)
strings_has (suc n) [] t l = List·Memᴰ·head refl
strings_has (suc n) (x ∷ w) t l =
    List·Memᴰ·tail (extended_has (strings n) (below_has 64 x t.0.1) (strings_has n w t.1 (omega arith)))

-- all lengths together
unfoldable pub lengths : List (List ℕ) → ℕ
lengths [] = 0
lengths (w ∷ ws) = length w + lengths ws

pub lengths_bound : {w : List ℕ} {ws : List (List ℕ)} → List·Memᴰ w ws → length w ≤ lengths ws
unfolding lengths
lengths_bound (List·Memᴰ·head e) = omega (arith, ap length e)
lengths_bound (List·Memᴰ·tail m) = omega (arith, lengths_bound m)
