-- `verdicts::theorems::growing_is_meant` meets its contract: a cycle of the useful rules that grows is what
-- growing means. Assumes nothing.
use Rattle.usefulness.proofs.Bodies.{range_below}
use Rattle.verdicts.specs.Theorems.Meant.{GrowingIsMeant}
use Rattle.verdicts.proofs.GrowingIsCycle.{growing_is}
use Rattle.verdicts.proofs.theorems.growing_is_meant.Statement.{statement}
use Rattle.verdicts.proofs.theorems.growing_is_meant.Tie as tie

returns : tie.Need-returns
unfolding GrowingIsMeant
returns c = λ rules r S. growing_is rules S (range_below r)

pub growing_is_meant_spec : {M : Type 1} → statement M
growing_is_meant_spec = tie.close (tie.spec returns)
