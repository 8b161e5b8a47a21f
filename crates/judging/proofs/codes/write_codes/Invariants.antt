-- `codes::write_codes` meets its contract: the first x codes are written. Assumes nothing.
use Rattle.grammar.proofs.Basics.{◌≡◌, Bool, cond, ℕ}
use Rattle.job.specs.Written.{written}
use Rattle.usefulness.specs.Inside.Flags.{Flags}
use Rattle.judging.proofs.codes.write_codes.Given as goal

abbrev pub code : (ℕ → Bool) → (ℕ → Bool) → (ℕ → Bool) → ℕ → ℕ
code n p u X = cond (n X) (cond (p X) (cond (u X) 1 3) 2) 0

abbrev pub invariant-loop-x : goal.invariant-loop-x
invariant-loop-x l =
    (n p u : ℕ → Bool) → Flags n l.named.word → Flags p l.productive.word → Flags u l.useful.word →
    l.codes ≡ written (code n p u) 0 l.x l.initial.codes
