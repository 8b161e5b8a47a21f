-- `facts::field_of`. The invariant: no record before i has the kind, so the records from i on decide. Assumes
-- nothing.
use Rattle.grammar.proofs.Basics.{◌≡◌, drop}
use Rattle.job.specs.Format.{records_of}
use Rattle.job.specs.Job.{field_of}
use Rattle.lookup.proofs.facts.field_of.Given as goal

abbrev pub invariant-loop-i : goal.invariant-loop-i
invariant-loop-i l = field_of l.kind (records_of l.job) ≡ field_of l.kind (drop l.i (records_of l.job))
