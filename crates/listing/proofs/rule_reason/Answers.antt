-- The body decides, as in the definition of a rule by its key. Assumes nothing.
use Rattle.job.proofs.KeyRules.{read_body}
use Rattle.listing.proofs.rule_reason.Goals as goal

pub returns-in-Empty : goal.returns-in-Empty
returns-in-Empty c = record { bytes = rw (read_body _ c.unpack-rule.ensures.rule c.in-Empty.is) }

pub returns-in-Unit : goal.returns-in-Unit
returns-in-Unit c = record { bytes = rw (read_body _ c.unpack-rule.ensures.rule c.in-Unit.is) }

pub returns-in-Pair : goal.returns-in-Pair
returns-in-Pair c = record { bytes = rw (read_body _ c.unpack-rule.ensures.rule c.in-Pair.is) }
