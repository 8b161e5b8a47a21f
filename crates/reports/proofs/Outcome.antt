-- What the report leaves, by whether it is refused. Assumes nothing.
use Rattle.grammar.proofs.Basics.{◌≡◌, ◌∙◌, ap, List, ◌∷◌, [], ℕ, eq-eqb, ne_eqb}
use Rattle.job.specs.Records.{Checked}
use Rattle.job.specs.Job.{job_of}
use Rattle.machine.specs.Table.{Lent}
use Rattle.machine.specs.Operations.{StartOutcome, AdvanceOutcome, start_of, advance_of}
use Rattle.forms.specs.Answers.{Asked}
use Rattle.forms.specs.Operations.{ask_of}
use Rattle.verdicts.specs.Operation.{VerdictsOutcome, verdicts_of}
use Rattle.printing.specs.declared.Report.{Report}
use Rattle.reports.specs.Operation.{report_check_lem, refused_report, report_leaves, report_from, run_to_end, report_on}
use Rattle.reports.specs.Operation.{report_of}

module _ (job : List ℕ) (m : Lent) (codes : List ℕ) where
  -- the four operations, each on what the one before left
  pub composed : {s : StartOutcome} {a : AdvanceOutcome} {S : ℕ} {q : Asked} {v : VerdictsOutcome} →
      s ≡ start_of job m → a ≡ advance_of job s.lent 65536 → S ≡ (job_of job).start →
      q ≡ ask_of job a.lent.table (S ∷ []) → v ≡ verdicts_of job a.lent.table codes →
      report_from s a q v ≡ report_on job m codes
  unfolding report_on run_to_end
  composed {s} {a} {S} {q} {v} start advance symbol ask judge =
      let run : a ≡ advance_of job (start_of job m).lent 65536 =
      advance ∙ ap (λ (o : StartOutcome). advance_of job o.lent 65536) start in
      λ i. report_from (start i) (run i) ((ask ∙ (λ k. ask_of job (run k).lent.table (symbol k ∷ []))) i)
      ((judge ∙ (λ k. verdicts_of job (run k).lent.table codes)) i)

  module _ (c : Checked) (checked : c ≡ report_check_lem job m codes) where
    pub report_refused :
        (c.number ≡ 0 → ⊥) → {r : Report} → r ≡ refused_report c → report_leaves r m codes ≡ report_of job m codes
    unfolding report_of
    report_refused d e = rw (← checked, ne_eqb c.number 0 d, e)

    pub report_given : c.number ≡ 0 → report_on job m codes ≡ report_of job m codes
    unfolding report_of
    report_given e = rw (← checked, eq-eqb c.number 0 e)
