-- The sample job's report: its values mean what the filed facts say, and so they are those. Assumes nothing.
use Rattle.grammar.proofs.Basics.{◌≡◌, refl, ◌∙◌, sym, ap, true, false, List, ℕ}
use Rattle.grammar.proofs.Counting.{has_count_unique}
use Rattle.job.specs.Format.{records_of}
use Rattle.job.specs.Job.{field_of, job_of, job_of_records}
use Rattle.machine.specs.Table.{Lent}
use Rattle.spelling.specs.Words.{ascii, digits, decimal}
use Rattle.spelling.specs.Lines.{number_line_lem, answer_line_lem}
use Rattle.printing.specs.declared.Report.{Report}
use Rattle.printing.specs.Outputs.{report_output_lem}
use Rattle.claims.specs.Filed.{AllRight, AllFiledRight, FiledGrammars, report_job}
use Rattle.claims.proofs.FiledCertificates.{filed_grammars_lem'}
use Rattle.reports.specs.Operation.{report_check_lem}
use Rattle.reports.specs.Theorems.{SampleReport}
use Rattle.reports.proofs.Through.{Passed, report_passed}
use Rattle.reports.proofs.Means.{means, decides, values, values_given}

-- the six values
abbrev six : Report
six =
    record {
      number = 0;
      place = 0;
      states = 3;
      examined = 11;
      joins = 8;
      start = true;
      empty = false;
      growing = true;
    }

printed : report_output_lem six ≡ ascii "states 3\nexamined 11\njoins 8\nstart yes\nempty no\ngrowing yes\n"
unfolding report_output_lem number_line_lem answer_line_lem decimal digits
printed = refl

start_symbol : (job_of report_job.job).start ≡ 0
unfolding job_of job_of_records records_of field_of
start_symbol = refl

module _ (m : Lent) (codes : List ℕ) (e : (report_check_lem report_job.job m codes).number ≡ 0) where
  abbrev p : Passed report_job.job m codes
  p = report_passed report_job.job m codes e

  are_six : values p ≡ six
  unfolding FiledGrammars AllFiledRight AllRight
  are_six =
      let (states, rest) = filed_grammars_lem'.1 in
      let (examined, rest) = rest in
      let (joins, rest) = rest in
      let (accepts, rest) = rest in
      let (not_empty, rest) = rest in
      let (grows, rest) = rest in
      let r = means p in
      let n = has_count_unique r.examined examined in
      let met = r.joins _ (decides p) ∙ joins _ (decides p) in
      let start = r.start.1 (rw start_symbol accepts) in
      let empty = r.not_empty.1 not_empty in
      let growing = r.growing.1 grows in
      λ i. record {
        number = 0;
        place = 0;
        states = (r.states ∙ states) i;
        examined = n i;
        joins = met i;
        start = start i;
        empty = empty i;
        growing = growing i;
      }

pub sample_report_lem : SampleReport
unfolding SampleReport
sample_report_lem m codes e =
    ap report_output_lem (sym (values_given (report_passed report_job.job m codes e) e) ∙ are_six m codes e) ∙ printed
