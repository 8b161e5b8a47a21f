-- `show::shown_part`: where the check answers 3 to 7 it names one of at most 4,096 records. Assumes nothing.
use Rattle.grammar.proofs.Basics.{◌≡◌, ◌∙◌, ap, false, List, ℕ, ◌<◌, ◌≤◌}
use Rattle.std.specs.Prelude.{Option, Result, Ok, Err}
use Rattle.std.specs.Result.{result_err}
use Rattle.job.specs.Records.{Checked}
use Rattle.job.specs.declared.Refusal.{Refusal}
use Rattle.job.specs.Refusals.{checked_of, refused_or_none}
use Rattle.job.specs.declared.Part.{Part}
use Rattle.job.specs.Check.{full_limits, job_check}
use Rattle.job.specs.Show.{part_of_lem, shown_part_lem}
use Rattle.job.proofs.RefusedPlace.{place_below}
use Rattle.checks.proofs.show.shown_part.Goals as goal

module _ (c : Checked) (job : List ℕ) (is : c ≡ job_check false job) where
  few : 3 ≤ c.number → c.number ≤ 7 → c.place < 4096
  few h k = rw is (place_below full_limits false job (rw is at h) (rw is at k))

  shown : (p : Part) → p ≡ part_of_lem c → p ≡ shown_part_lem job
  unfolding shown_part_lem
  shown p e = e ∙ ap part_of_lem is

-- the two numbers of an answer say what it says
told : {T : Type 0} (answer : Result T Refusal) {of : Option Refusal} {c : Checked} → of ≡ result_err answer
    → c ≡ refused_or_none of → c ≡ checked_of answer
told (Ok _) e n = n ∙ ap refused_or_none e
told (Err _) e n = n ∙ ap refused_or_none e

pub part_of-requires : goal.part_of-requires
part_of-requires c =
    record {
      within =
          few _ _ (told c.job_check.result c.err.ensures.value c.numbers_of-number.ensures.numbers
          ∙ c.job_check.ensures.checked);
    }

pub returns : goal.returns
returns c =
    record {
      part =
          shown _ _ (told c.job_check.result c.err.ensures.value c.numbers_of-number.ensures.numbers
          ∙ c.job_check.ensures.checked) _ c.part_of.ensures.part;
    }
