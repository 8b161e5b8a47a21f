-- Four stores, at the next places one by one. Assumes nothing.
use Rattle.grammar.proofs.Basics.{arith, length-set}
use Rattle.job.proofs.Bytes.{stored}
use Rattle.records.proofs.format.put_record.Goals as goal

pub bounds-out-at-2 : goal.bounds-out-at-2
bounds-out-at-2 c = simp length-set (omega arith)

pub bounds-out-at-3 : goal.bounds-out-at-3
bounds-out-at-3 c = simp length-set (omega arith)

pub bounds-out-at-4 : goal.bounds-out-at-4
bounds-out-at-4 c = simp length-set (omega arith)

pub returns : goal.returns
returns c = record { put = stored _ _ c.requires.within _ _ _ _ }
