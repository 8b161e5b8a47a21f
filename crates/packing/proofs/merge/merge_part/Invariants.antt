-- `merge::merge_part` meets its contract: a part that is the same is merged as it stands, another row by row. The
-- loop's invariant: all rows below k are merged. Assumes nothing.
use Rattle.grammar.proofs.Basics.{List, ℕ, ◌*◌}
use Rattle.packing.specs.Merging.{Merges, RowsMerged}
use Rattle.packing.proofs.merge.merge_part.Given as goal

abbrev pub invariant-loop-k : goal.invariant-loop-k
invariant-loop-k l =
    (before : List ℕ) → Merges l.old l.new before → RowsMerged l.new (l.n * 32) before l.initial.table →
    RowsMerged l.new l.k before l.table
