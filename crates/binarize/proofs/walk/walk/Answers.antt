use Rattle.grammar.proofs.Basics.{arith}
use Rattle.long_jobs.proofs.WalkSteps.{walking_none}
use Rattle.binarize.proofs.walk.walk.Goals as goal

pub loop-i-init : goal.loop-i-init
loop-i-init c = walking_none _ _ _ _ c.free_in-free.ensures.front (omega arith)
