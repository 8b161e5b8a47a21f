-- What the ranges of a job make of its smallest set: its transitions are between states of the job, its labels are
-- symbols, and its meetings are bounded. Assumes nothing.
use Rattle.grammar.proofs.Basics.{ℕ, ◌<◌, ◌≤◌, ◌*◌, arith}
use native.Mathlib.Nat.{mul-le-mul}
use Rattle.grammar.specs.Rule.{empty}
use Rattle.grammar.specs.Automaton.{Holds, StatesBelow}
use Rattle.grammar.specs.Closure.{Closure}
use Rattle.grammar.specs.Counting.{pair_rules}
use Rattle.grammar.proofs.Smallest.{closure_below}
use Rattle.job.specs.Job.{Job}
use Rattle.job.specs.Theorems.InRange.{InRange}
use Rattle.machine.specs.Smallest.{Smallest}
use Rattle.machine.proofs.Growing.Invariant.{GivenInRange}
use Rattle.machine.proofs.Steps.Running.{pair_rules_within}

pub job_in_range : (J : Job) → InRange J → GivenInRange (Holds J.given) J.states
job_in_range J range =
    record {
      small = range.states;
      states = λ q X r d. (range.given_from q X r d, range.given_to q X r d);
      symbols = range.given_symbol;
    }

-- 256 pair rules and 32 states
pub pair_states_bound : (J : Job) → InRange J → pair_rules J.rules * (J.states * J.states * J.states) ≤ 8388608
pair_states_bound J range =
    mul-le-mul {n₂ = 256} {m₂ = 32768} (omega (arith, pair_rules_within J.rules, range.rule_count))
    (mul-le-mul (mul-le-mul range.states range.states) range.states)

pub smallest_states : (J : Job) → InRange J → StatesBelow (Smallest J) J.states
smallest_states J range = closure_below (job_in_range J range).states

pub smallest_symbol : (J : Job) → InRange J → (q X r : ℕ) → Smallest J q X r → X < 64
smallest_symbol J range q X r (Closure.given d) = range.given_symbol q X r d
smallest_symbol J range q X r (Closure.by_empty member l) = omega (arith, range.rules (empty X) member)
smallest_symbol J range q X r (Closure.by_unit {X = Y} member c) = omega (arith, (range.rules _ member).0)
smallest_symbol J range q X r (Closure.by_pair {X = Y} {Y = Z} member c d) = omega (arith, (range.rules _ member).0)
