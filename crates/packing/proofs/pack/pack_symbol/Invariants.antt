-- `pack::pack_symbol` packs row by row. The loop's invariant: the rows of the symbol at the states below q are packed
-- besides what was. Assumes nothing.
use Rattle.grammar.proofs.Basics.{Bool, ◌&&◌, ◌||◌, ℕ, ◌/◌, ◌%◌, eqb, ltb}
use Rattle.packing.specs.Packing.{PackedRows}
use Rattle.packing.proofs.pack.pack_symbol.Given as goal

abbrev pub invariant-loop-q : goal.invariant-loop-q
invariant-loop-q l =
    (rows : ℕ → Bool) → PackedRows rows l.table l.initial.bits →
    PackedRows (λ r. (ltb (r / 64) l.q && eqb (r % 64) l.symbol) || rows r) l.table l.bits
