use mathlib.Core.Path.{refl, ◌∙◌}
use Rattle.check_cases.proofs.fill.Goals as goal

pub loop-i-init : goal.loop-i-init
loop-i-init c = refl

pub loop-i-preserved : goal.loop-i-preserved
loop-i-preserved c = c.put.auto.job ∙ c.loop-i.invariant

pub shape_of-job : goal.shape_of-job
shape_of-job c = c.loop-i.invariant
