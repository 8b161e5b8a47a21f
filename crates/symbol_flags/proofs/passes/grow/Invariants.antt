-- `passes::grow` meets its contract: the set lies between the first and what it grows to; each pass that goes on adds to
-- it. Assumes nothing.
use Rattle.grammar.proofs.Basics.{Bool, ℕ, ◌-◌}
use Rattle.grammar.specs.Counting.{count}
use Rattle.job.specs.Inside.Keys.{rules_of_keys}
use Rattle.usefulness.specs.Inside.Flags.{Flags, flagged}
use Rattle.usefulness.proofs.InPlace.{PartGrown}
use Rattle.symbol_flags.proofs.passes.grow.Given as goal

abbrev pub invariant-loop-direction : goal.invariant-loop-direction
invariant-loop-direction l =
    (s : ℕ → Bool) → Flags s l.initial.set.word → PartGrown l.direction (rules_of_keys l.keys) s l.set.word

abbrev pub decreases-loop-direction : goal.decreases-loop-direction
decreases-loop-direction l = 64 - count (flagged l.set.word) 64
