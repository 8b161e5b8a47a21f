-- Demand 2 as a claim. As it speaks of all closed sets, it is one of Type 1. Assumes nothing.
use Rattle.std.specs.Prelude.{◌≡◌, ◌↔◌, true, List, [], ◌∷◌, ℕ, ◌<◌}
use Rattle.grammar.specs.Rule.{Among}
use Rattle.grammar.specs.Automaton.{Transitions, Holds}
use Rattle.grammar.specs.Closure.{SmallestClosed}
use Rattle.job.specs.Check.{job_check, accepted}
use Rattle.job.specs.Job.{job_of}
use Rattle.machine.specs.Table.{Lent, Statuses, done_in}
use Rattle.machine.specs.Smallest.{DecidesSmallest}
use Rattle.forms.specs.Acceptance.{DerivesGiven}
use Rattle.forms.specs.Operations.{form_check_lem, explain_check_lem, explain_of}
use Rattle.claims.specs.Call.{Kind, bytes, says_of, start_on, advance_on, ask_on}

-- the lent memory after advances by these numbers
unfoldable pub advances : Kind → List ℕ → Lent → List ℕ → Lent
advances k job m [] = m
advances k job m (n ∷ ns) = advances k job (advance_on k job_check job m n).lent ns

-- the set of the transitions that a table says are done
abbrev pub DoneSet : Statuses → Transitions
DoneSet v q X r = (q < 32) × (X < 64) × (r < 32) × (done_in v q X r ≡ true)

-- The demands, 2: the done transitions of a finished table have the given ones, are closed under the rules and lie in
-- every set of which that holds, whether a test decides it or not; they are the closure that is built up rule by rule;
-- and a form is accepted on the table exactly where a string of the given automaton can be derived from it
pub record Finished (k : Kind) (job : List ℕ) (m : Lent) : Type 1 where
  pub smallest :
      SmallestClosed (Among (job_of job).rules) (Holds (job_of job).given) (job_of job).states
      (DoneSet (says_of k m.table))
  pub closure : DecidesSmallest (job_of job) (done_in (says_of k m.table))
  pub accepts :
      (form : List ℕ) → form_check_lem form ≡ accepted →
      ((ask_on k job_check job m.table form).accepted ≡ true) ↔ DerivesGiven (job_of job) form

-- for every start that is not refused and all advances after it of which the last says finished, on bytes and on bits
abbrev pub AfterAdvances : Type 1
AfterAdvances =
    (k : Kind) (job : List ℕ) (m : Lent) (ns : List ℕ) (n : ℕ) → (start_on k job_check job m).answer.number ≡ 0 →
    let now = advances k job (start_on k job_check job m).lent ns in
    (advance_on k job_check job now n).answer.finished ≡ true → Finished k job (advance_on k job_check job now n).lent

-- From papers to product: explain starts and runs to the end. So for every explain that is not refused, or refused by
-- 13, what it leaves is finished, and stays as it is through all advances after it; and one that is not refused says
-- by its own answer whether the form is accepted
pub record ExplainRight (job : List ℕ) (m : Lent) (form listing : List ℕ) : Type 1 where
  pub finished : Finished bytes job (explain_of job m form listing).lent
  pub stays : (ns : List ℕ) → advances bytes job (explain_of job m form listing).lent ns
      ≡ (explain_of job m form listing).lent
  pub answered :
      (explain_of job m form listing).answer.number ≡ 0 →
      ((explain_of job m form listing).answer.accepted ≡ true) ↔ DerivesGiven (job_of job) form

abbrev pub AfterExplain : Type 1
AfterExplain =
    (job : List ℕ) (m : Lent) (form listing : List ℕ) → (explain_check_lem job m form).number ≡ 0 →
    ExplainRight job m form listing

unfoldable pub FinishedTables : Type 1
FinishedTables = AfterAdvances × AfterExplain
