-- `walk::convert_next`: the record is converted, then 14, 5 and 7 are tried. Assumes nothing.
use Rattle.long_jobs.specs.Walk.{next_free}
use Rattle.long_jobs.proofs.WalkSteps.{part_ready, stepped}
use Rattle.binarize.proofs.walk.convert_next.Goals as goal

pub check_from-requires-clause-whole : goal.check_from-requires-clause-whole
check_from-requires-clause-whole c =
    let ready = part_ready _ _ (next_free c.args.free.now.variables) _ _ _ c.requires.underway _ _
    c.convert-p.ensures.reached c.requires.early in
    ready.0

pub check_from-requires-clause-counted : goal.check_from-requires-clause-counted
check_from-requires-clause-counted c =
    let ready = part_ready _ _ (next_free c.args.free.now.variables) _ _ _ c.requires.underway _ _
    c.convert-p.ensures.reached c.requires.early in
    ready.1

pub returns-in-Ok : goal.returns-in-Ok
returns-in-Ok c = record {
  stepped =
      stepped _ _ (next_free c.args.free.now.variables) _ _ _ c.requires.underway _ _ c.convert-p.ensures.reached
      c.requires.early c.if-free-p.false _ c.in-Ok.ensures.fault c.in-Ok.ensures.counted.0 c.in-Ok.ensures.counted.1;
}
