-- Explain from start to end: a refusal leaves all as it was; else the job is started and run, and the form is
-- explained on the table that this leaves. Assumes nothing.
use Rattle.grammar.proofs.Basics.{◌≡◌, ◌∙◌, sym, ap, true, false, List, ℕ, ◌≤◌, length, eq-eqb, ne_eqb}
use Rattle.job.specs.Records.{Checked}
use Rattle.job.specs.Accepted.{Accepted}
use Rattle.job.specs.Job.{job_of}
use Rattle.machine.specs.Table.{Lent, table_size, reasons_size}
use Rattle.machine.specs.Start.{started}
use Rattle.machine.specs.Advance.{steps}
use Rattle.forms.specs.Operations.{explain_check_lem, ExplainOutcome, explain_leaves, explain_finished_lem, explain_of}
use Rattle.forms.specs.Operations.{explain_by}
use Rattle.forms.specs.Inside.AcceptanceParts.{FormFits}
use Rattle.forms.specs.Inside.ExplainParts.{Explainable}
use Rattle.forms.proofs.ExplainChecks.{explain_passed}
use Rattle.forms.proofs.Unlisted.{run_explainable}

-- what start and run ask
abbrev pub MayRun : List ℕ → Lent → Type 0
MayRun job m = (table_size ≤ length m.table) × (reasons_size ≤ length m.reasons) × Accepted true job

module _ (job : List ℕ) (m : Lent) (form : List ℕ) {c : Checked} (checked : c ≡ explain_check_lem job m form) where
  pub refuses : (out : List ℕ) → (c.number ≡ 0 → ⊥) →
      explain_leaves (record { number = c.number; place = c.place; accepted = false; records = 0 }) m out
      ≡ explain_of job m form out
  unfolding explain_by
  refuses out refusal = rw (← checked, ne_eqb c.number 0 refusal)

  -- nothing is refused
  module _ (none : c.number ≡ 0) where
    pub may_start : MayRun job m
    may_start = let p = (explain_passed job m form c checked none).0 in (p.long, p.long_reasons, p.ok)

    -- the job is started and run to the end
    module _ {m₁ : Lent} (ended : m₁ ≡ steps (job_of job).rules 65536 (started (job_of job) m)) where
      pub may_explain : Explainable job m₁ × FormFits form
      may_explain =
          let (p, fits) = explain_passed job m form c checked none in
          (rw ended (run_explainable job m p 65536), fits)

      pub explains : (out : List ℕ) {after : ExplainOutcome} → after ≡ explain_finished_lem (job_of job) m₁ form out →
          after ≡ explain_of job m form out
      unfolding explain_by
      explains out e = rw (eq-eqb _ 0 (ap (λ k. k.number) (sym checked) ∙ none), ← ended) e
