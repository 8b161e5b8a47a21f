-- The invariant: the rest of the body, split from here, comes to what the whole body comes to. Assumes nothing.
use Rattle.grammar.proofs.Basics.{◌≡◌, ◌+◌, length}
use Rattle.long_jobs.proofs.ConversionSteps.{Splitting}
use Rattle.binarize.proofs.convert.split_long.Given as goal

abbrev pub invariant-loop-k : goal.invariant-loop-k
invariant-loop-k l =
    Splitting l.free l.body l.initial.written l.head l.p l.written l.variable l.k × (l.last + 2 ≡ length l.body)
