-- The computed verdicts are the papers'. Each statement is the contract of a function of src/theorems.rt, so it is
-- proved. Assumes nothing.
use Rattle.std.specs.Prelude.{◌≡◌, ℕ, ◌<◌, ◌↔◌, true, false, List, get_or}
use Rattle.grammar.specs.Rule.{Rule, Among}
use Rattle.grammar.specs.Useful.{Productive}
use Rattle.grammar.specs.Growing.{Growing}
use Rattle.grammar.specs.Language.{Infinite, Finite}
use Rattle.job.specs.Job.{job_of}
use Rattle.job.specs.Theorems.InRange.{RulesInRange}
use Rattle.verdicts.specs.Verdicts.{growing, code_of}
use Rattle.verdicts.specs.Operation.{verdicts_check_lem, verdicts_of}
use Rattle.verdicts.specs.Meaning.{CodeIs}

-- the computed verdicts on a grammar are the papers'
unfoldable pub CodeIsMeant : Type 0
CodeIsMeant =
    (rules : List Rule) → RulesInRange rules → (S X c : ℕ) → (code_of rules S X ≡ c) ↔ CodeIs rules S X c

unfoldable pub GrowingIsMeant : Type 0
GrowingIsMeant =
    (rules : List Rule) → RulesInRange rules → (S : ℕ) → (growing rules S ≡ true) ↔ Growing (Among rules) S

-- What a call that is not refused says of its job. Not empty: the start symbol derives a terminal string. Growing: the
-- language has infinitely many strings; not growing: it has finitely many.
pub record Meant (job table codes : List ℕ) : Type 0 where
  pub code :
      (X c : ℕ) → X < 64 →
      (get_or (verdicts_of job table codes).codes X 0 ≡ c) ↔ CodeIs (job_of job).rules (job_of job).start X c
  pub empty :
      ((verdicts_of job table codes).answer.empty ≡ true)
      ↔ (Productive (Among (job_of job).rules) (job_of job).start → ⊥)
  pub not_empty :
      ((verdicts_of job table codes).answer.empty ≡ false) ↔ Productive (Among (job_of job).rules) (job_of job).start
  pub growing :
      ((verdicts_of job table codes).answer.growing ≡ true) ↔ Growing (Among (job_of job).rules) (job_of job).start
  pub infinite :
      ((verdicts_of job table codes).answer.growing ≡ true) ↔ Infinite (Among (job_of job).rules) (job_of job).start
  pub finite :
      ((verdicts_of job table codes).answer.growing ≡ false) ↔ Finite (Among (job_of job).rules) (job_of job).start

unfoldable pub VerdictsAreMeant : Type 0
VerdictsAreMeant = (job table codes : List ℕ) → (verdicts_check_lem job table codes).number ≡ 0 → Meant job table codes
