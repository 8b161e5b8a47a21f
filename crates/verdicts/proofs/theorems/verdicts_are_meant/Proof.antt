-- `verdicts::theorems::verdicts_are_meant` meets its contract: what a call leaves is what its definition computes, and
-- that is what is meant. Assumes nothing.
use Rattle.verdicts.specs.Theorems.Meant.{VerdictsAreMeant}
use Rattle.verdicts.proofs.Meant.{verdicts_meant}
use Rattle.verdicts.proofs.theorems.verdicts_are_meant.Statement.{statement}
use Rattle.verdicts.proofs.theorems.verdicts_are_meant.Tie as tie

returns : tie.Need-returns
unfolding VerdictsAreMeant
returns c = verdicts_meant

pub verdicts_are_meant_spec : {M : Type 1} → statement M
verdicts_are_meant_spec = tie.close (tie.spec returns)
