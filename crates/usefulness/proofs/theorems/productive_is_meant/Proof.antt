-- `usefulness::theorems::productive_is_meant` meets its contract: the computed set is closed under the rules and
-- within the papers' set. Assumes nothing.
use Rattle.usefulness.specs.Theorems.Meant.{ProductiveIsMeant}
use Rattle.usefulness.proofs.Papers.{productive_is}
use Rattle.usefulness.proofs.Bodies.{range_below}
use Rattle.usefulness.proofs.theorems.productive_is_meant.Statement.{statement}
use Rattle.usefulness.proofs.theorems.productive_is_meant.Tie as tie

returns : tie.Need-returns
unfolding ProductiveIsMeant
returns c = λ rules r. productive_is rules (range_below r)

pub productive_is_meant_spec : {M : Type 1} → statement M
productive_is_meant_spec = tie.close (tie.spec returns)
