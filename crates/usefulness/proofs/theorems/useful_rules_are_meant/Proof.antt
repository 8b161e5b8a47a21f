-- `usefulness::theorems::useful_rules_are_meant` meets its contract: their symbols are all useful. Assumes nothing.
use Rattle.usefulness.specs.Theorems.Meant.{UsefulRulesAreMeant}
use Rattle.usefulness.proofs.Papers.{useful_rules_are}
use Rattle.usefulness.proofs.Bodies.{range_below}
use Rattle.usefulness.proofs.theorems.useful_rules_are_meant.Statement.{statement}
use Rattle.usefulness.proofs.theorems.useful_rules_are_meant.Tie as tie

returns : tie.Need-returns
unfolding UsefulRulesAreMeant
returns c = λ rules r. useful_rules_are rules (range_below r)

pub useful_rules_are_meant_spec : {M : Type 1} → statement M
useful_rules_are_meant_spec = tie.close (tie.spec returns)
