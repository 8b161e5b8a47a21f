-- `write_row` writes the four bytes of the word. Assumes nothing.
use Rattle.grammar.proofs.Basics.{◌∙◌, ℕ, ap, ◌+◌, ◌*◌}
use Rattle.bits.proofs.RowBytes.{row_put, two_halves}
use Rattle.bits.proofs.table.write_row.Goals as goal

pub returns : goal.returns
returns c =
    record {
      written =
          row_put c.requires.within.1 (two_halves c.args.half) c.requires.within.0
          (ap (λ (n : ℕ). n + c.args.k * 4) c.begin.ensures.begins)
          (c.copy_from_slice.ensures.after ∙ c.to_le_bytes.ensures);
    }
