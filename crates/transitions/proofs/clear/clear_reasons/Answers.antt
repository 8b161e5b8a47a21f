-- `clear_reasons` fills the front with zeros. Assumes nothing.
use Rattle.grammar.proofs.Basics.{◌≡◌, refl, ap, List, [], ◌∷◌, ◌++◌, ℕ, suc, zero, ◌≤◌, arith, length, take, drop, replicate}
use Rattle.grammar.proofs.Basics.{length-take}
use Rattle.job.specs.Written.{written, cleared}
use Rattle.transitions.proofs.clear.clear_reasons.Goals as goal

-- zeros and what stands behind them
zeros_and_rest : (i n : ℕ) (xs : List ℕ) → n ≤ length xs → replicate n 0 ++ drop n xs ≡ written (λ j. 0) i n xs
unfolding written
zeros_and_rest i zero xs h = refl
zeros_and_rest i (suc n) [] h = absurd (omega arith)
zeros_and_rest i (suc n) (x ∷ xs) h = ap (λ l. 0 ∷ l) (zeros_and_rest (suc i) n xs (omega arith))

filled_front : (n : ℕ) (xs front : List ℕ) → n ≤ length xs → front ≡ replicate (length (take n xs)) 0 →
    front ++ drop n xs ≡ cleared n xs
unfolding cleared
filled_front n xs front h e =
    let long : length (take n xs) ≡ n = simp length-take (omega arith) in
    rw (e, long) (zeros_and_rest 0 n xs h)

pub returns : goal.returns
returns c = record { cleared = filled_front 32768 _ _ c.requires.long (c.fill.ensures.after (λ y e. e)) }
