-- `call::limits_of`: level by level. Assumes nothing.
use Rattle.grammar.proofs.Basics.{◌≡◌, refl}
use Rattle.job.specs.declared.Level.{Level}
use Rattle.job.specs.declared.Level.TheVariants.{Full}
use Rattle.job.specs.Check.{full_limits, limits_of_lem}
use Rattle.checks.proofs.call.limits_of.Goals as goal

each_level : (level : Level) → full_limits ≡ limits_of_lem level
each_level Full = refl

pub returns : goal.returns
returns c = record { limits = each_level c.args.level }
