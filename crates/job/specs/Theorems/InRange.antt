-- The numbers of an accepted job are in range. Assumes nothing.
use Rattle.std.specs.Prelude.{◌≡◌, ◌↔◌, Bool, true, List, ℕ, ◌≤◌, ◌<◌, length}
use Rattle.grammar.specs.Rule.{Rule, empty, unit, pair, Among}
use Rattle.job.specs.Check.{job_check, accepted}
use Rattle.job.specs.Accepted.{Accepted}
use Rattle.job.specs.Job.{Job, job_of}

-- The job: a rule's head is a variable, its body's are symbols
abbrev pub RuleInRange : Rule → Type 0
RuleInRange (empty A) = A < 32
RuleInRange (unit A X) = (A < 32) × (X < 64)
RuleInRange (pair A X Y) = (A < 32) × (X < 64) × (Y < 64)

abbrev pub RulesInRange : List Rule → Type 0
RulesInRange rules = (ρ : Rule) → Among rules ρ → RuleInRange ρ

-- The job: at most 256 rules and 32 states, and the states of given transitions are below the number of states
pub record InRange (J : Job) : Type 0 where
  pub rules : RulesInRange J.rules
  pub rule_count : length J.rules ≤ 256
  pub states : J.states ≤ 32
  pub given_from : (q X r : ℕ) → J.given q X r ≡ true → q < J.states
  pub given_symbol : (q X r : ℕ) → J.given q X r ≡ true → X < 64
  pub given_to : (q X r : ℕ) → J.given q X r ≡ true → r < J.states

-- the checks accept a job exactly where it is `Accepted`
abbrev pub CheckAccepts : Type 0
CheckAccepts = (needed : Bool) (job : List ℕ) → (job_check needed job ≡ accepted) ↔ Accepted needed job

-- an accepted job is in range, and so is its initial state where an I is needed
abbrev pub AcceptedInRange : Type 0
AcceptedInRange =
    (needed : Bool) (job : List ℕ) → Accepted needed job →
    InRange (job_of job) × (needed ≡ true → (job_of job).initial < (job_of job).states)
