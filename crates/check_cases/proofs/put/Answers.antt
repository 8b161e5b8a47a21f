-- `put` writes within the job, whose length stays. Assumes nothing.
use native.Mathlib.Omega.{arith}
use lib.ListN.{length-set}
use Rattle.check_cases.proofs.put.Goals as goal

pub bounds-job-at-2 : goal.bounds-job-at-2
bounds-job-at-2 c = simp length-set (omega arith)

pub bounds-job-at-3 : goal.bounds-job-at-3
bounds-job-at-3 c = simp length-set (omega arith)

pub bounds-job-at-4 : goal.bounds-job-at-4
bounds-job-at-4 c = simp length-set (omega arith)
