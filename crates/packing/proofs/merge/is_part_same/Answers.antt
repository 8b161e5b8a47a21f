-- `is_part_same` meets its contract: the part is the same where the bytes of both halves are. Assumes nothing.
use Rattle.packing.proofs.Merged.{part_same}
use Rattle.packing.proofs.merge.is_part_same.Goals as goal

pub returns-then-is_same : goal.returns-then-is_same
returns-then-is_same c =
    record {
      same = λ e.
          part_same _ _ _ _ _ _ _ c.part.ensures.part c.part-2.ensures.part c.part-then-is_same.ensures.part
          c.part-then-is_same-2.ensures.part (c.is_same.ensures.same c.if-is_same.true) (c.is_same-then-is_same.ensures.same e);
    }
