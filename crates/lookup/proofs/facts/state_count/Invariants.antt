-- `facts::state_count`. The invariant, of `states`:
-- after the first k records it holds one more than the largest state in their T, I and F records, 0 if there is none
-- Assumes nothing.
use Rattle.grammar.proofs.Basics.{◌≡◌}
use Rattle.grammar.proofs.Basics.{take}
use Rattle.job.specs.Format.{records_of}
use Rattle.job.specs.Job.{states_of}
use Rattle.lookup.proofs.facts.state_count.Given as goal

abbrev pub invariant-loop-k : goal.invariant-loop-k
invariant-loop-k l =
    (l.states ≡ states_of (take l.k (records_of l.job)))
