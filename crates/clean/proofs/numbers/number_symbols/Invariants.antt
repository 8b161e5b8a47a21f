-- `numbers::number_symbols`. The invariant: the first x numbers are written, and so many useful variables are below x.
-- Assumes nothing.
use Rattle.grammar.proofs.Basics.{◌≡◌, replicate}
use Rattle.grammar.specs.Counting.{count}
use Rattle.job.specs.Written.{written}
use Rattle.usefulness.specs.Inside.Flags.{flagged}
use Rattle.copies.specs.Copy.{new_number}
use Rattle.clean.proofs.numbers.number_symbols.Given as goal

abbrev pub invariant-loop-x : goal.invariant-loop-x
invariant-loop-x l =
    (l.below ≡ count (flagged l.useful.word) l.x)
    × (l.numbers ≡ written (new_number (flagged l.useful.word)) 0 l.x (replicate 64 0))
