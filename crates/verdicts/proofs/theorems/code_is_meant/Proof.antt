-- `verdicts::theorems::code_is_meant` meets its contract: the tests of the code are the papers' sets. Assumes nothing.
use Rattle.usefulness.proofs.Bodies.{range_below}
use Rattle.verdicts.specs.Theorems.Meant.{CodeIsMeant}
use Rattle.verdicts.proofs.Meant.{code_meant}
use Rattle.verdicts.proofs.theorems.code_is_meant.Statement.{statement}
use Rattle.verdicts.proofs.theorems.code_is_meant.Tie as tie

returns : tie.Need-returns
unfolding CodeIsMeant
returns c = λ rules r S. code_meant rules S (range_below r)

pub code_is_meant_spec : {M : Type 1} → statement M
code_is_meant_spec = tie.close (tie.spec returns)
