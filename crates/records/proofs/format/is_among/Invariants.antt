-- `format::is_among`. The invariant: none of the records before i is the one looked for. Assumes nothing.
use Rattle.grammar.proofs.Basics.{◌≡◌, false}
use Rattle.grammar.proofs.Basics.{take}
use Rattle.job.specs.Format.{records_of, has}
use Rattle.records.proofs.format.is_among.Given as goal

abbrev pub invariant-loop-i : goal.invariant-loop-i
invariant-loop-i l = (has (take l.i (records_of l.job)) l.r ≡ false)
