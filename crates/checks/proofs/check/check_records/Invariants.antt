-- `check::check_records`. The walk's invariant: the records before i are counted and marked, none was a repeat, and the
-- first refusal is that of the records from i on. The search's: none of the first j records is record i. Each way on and
-- out is a law of `Walk`. Assumes nothing.
use Rattle.grammar.proofs.Basics.{◌≡◌, false, take}
use Rattle.std.specs.Prelude.{None}
use Rattle.job.specs.Format.{records_of, has}
use Rattle.job.proofs.Marks.{Marked}
use Rattle.job.proofs.Walk.{Walked}
use Rattle.checks.proofs.check.check_records.Given as goal

abbrev pub invariant-loop-j : goal.invariant-loop-j
invariant-loop-j l = (has (take l.j (records_of l.job)) l.r ≡ false) × (l.repeated ≡ None)

abbrev pub invariant-walk : goal.invariant-walk
invariant-walk l =
    Walked l.limits (records_of l.job) l.i l.seen × Marked l.marks (records_of l.job) l.i × (l.repeated ≡ None)
