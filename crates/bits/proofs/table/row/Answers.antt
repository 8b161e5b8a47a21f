-- `row` reads the four bytes of the word. Assumes nothing.
use Rattle.grammar.proofs.Basics.{ℕ, ap, arith, ◌*◌, ◌+◌}
use Rattle.bits.proofs.RowBytes.{row_bit}
use Rattle.bits.proofs.table.row.Goals as goal

pub returns : goal.returns
returns c =
    record {
      bits =
          row_bit c.args.bits.now _ (c.begin.result + c.args.k * 4) c.args.k _ (λ i. omega (arith, c.type_inv.bits i))
          (ap (λ (n : ℕ). n + c.args.k * 4) c.begin.ensures.begins) c.from_le_bytes.ensures;
    }
