use Rattle.grammar.proofs.Basics.{◌≡◌, ◌*◌, arith}
use Rattle.packing.proofs.Merged.{none_merged, all_merged}
use Rattle.packing.proofs.merge.merge.Goals as goal

pub loop-n-init : goal.loop-n-init
loop-n-init c = none_merged _ _

pub returns : goal.returns
returns c =
    record {
      merged =
          let l = c.loop-n in
          let end : l.n * 32 ≡ 2048 = omega arith in
          all_merged (rw end at l.invariant);
    }
