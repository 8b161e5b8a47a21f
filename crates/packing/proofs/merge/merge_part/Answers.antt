use Rattle.grammar.proofs.Basics.{refl}
use Rattle.packing.proofs.Merged.{part_merged}
use Rattle.packing.proofs.merge.merge_part.Goals as goal

pub returns-then-is_part_same : goal.returns-then-is_part_same
returns-then-is_part_same c = let same = c.is_part_same.ensures.same c.if-is_part_same.true in
    record {
      merged = λ before merges rows. part_merged c.args.n c.requires.within.0 same merges rows;
      long = refl;
    }
