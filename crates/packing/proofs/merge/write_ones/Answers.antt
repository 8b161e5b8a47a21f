use Rattle.grammar.proofs.Basics.{arith}
use Rattle.packing.proofs.Merged.{writing_goes, writing_ends}
use Rattle.packing.proofs.merge.write_ones.Goals as goal

pub loop-j-preserved : goal.loop-j-preserved
loop-j-preserved c =
    let taken = c.in-Some.ensures.steps in
    writing_goes c.loop-j.invariant taken.first taken.some
    (omega (arith, taken.first.found taken.some, c.requires.within, c.loop-j.auto.table))
    taken.less

pub returns : goal.returns
returns c = record { written = writing_ends c.loop-j.invariant c.in-None.ensures.steps }
