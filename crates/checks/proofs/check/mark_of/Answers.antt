-- `check::mark_of` computes the definition. Assumes nothing.
use Rattle.grammar.proofs.Basics.{refl, arith}
use Rattle.job.specs.Inside.Walk.{mark_of}
use Rattle.checks.proofs.check.mark_of.Goals as goal

pub returns : goal.returns
unfolding mark_of
returns c = record { mark = (refl, omega arith) }
