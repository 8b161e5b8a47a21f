-- What explain answers on a finished table: the bit of the whole form at the initial state says whether there is a
-- route to list. Assumes nothing.
use Rattle.grammar.proofs.Basics.{◌≡◌, refl, ◌∙◌, sym, ap, true, false, List, ℕ, ◌<◌, arith, length, get_or, take}
use Rattle.grammar.proofs.Basics.{drop-length}
use Rattle.job.specs.Job.{job_of}
use Rattle.machine.specs.Table.{done_in, done_at_lem, lent_of}
use Rattle.bit_machine.specs.BitTable.{bit_of, bit_statuses}
use Rattle.forms.specs.Acceptance.{SymbolsFit, can_finish, route}
use Rattle.forms.specs.Operations.{accepts_on, ExplainOutcome, explain_leaves, listed_for, explain_listed}
use Rattle.forms.specs.Operations.{explain_finished_lem}
use Rattle.forms.specs.Inside.AcceptanceParts.{final_of, FinishWords}
use Rattle.forms.specs.Inside.ExplainParts.{BitsSay, OnRoute}
use Rattle.forms.proofs.Agreeing.{bits_agree, finish_agree, route_agree}
use Rattle.forms.specs.Inside.AcceptanceParts.{Filled}
use Rattle.forms.proofs.AskAnswers.{accepts_alike, state_below, initial_bit}

module _ {job bits form finish : List ℕ} {q : ℕ} (f : Filled job bits form finish q) where
  -- the word of the form's end has the job's final states
  ends_agree : (s : ℕ) → s < 32 → final_of form finish s ≡ (job_of job).final s
  unfolding can_finish
  ends_agree s l = rw (drop-length form) at (f.words (length form) s (omega arith) l)

  pub may_fill : bit_of (get_or finish 0 0) q ≡ true →
      FinishWords (final_of form finish) bits form finish × (bit_of (get_or finish 0 0) q ≡ true)
  may_fill some = (
    λ i s l below. f.words i s l below
        ∙ sym (finish_agree _ _ ends_agree (done_in (bit_statuses bits)) _ _ (λ j u v h m n. refl) s below),
    some,
  )

  -- a table that says what the bits say
  module _ (t : List ℕ) (same : BitsSay bits t) (fit : SymbolsFit form) where
    accepts_bit : bit_of (get_or finish 0 0) q ≡ accepts_on (job_of job) t form
    accepts_bit = initial_bit f ∙ accepts_alike bits t form f.ok same fit

    -- no route
    pub not_accepted_lem : (rs out : List ℕ) → bit_of (get_or finish 0 0) q ≡ false →
        explain_leaves (record { number = 0; place = 0; accepted = false; records = 0 }) (lent_of t rs) out
        ≡ explain_finished_lem (job_of job) (lent_of t rs) form out
    unfolding explain_finished_lem
    not_accepted_lem rs out none = rw (sym accepts_bit ∙ none)

    -- a route
    module _ (some : bit_of (get_or finish 0 0) q ≡ true) where
      is_accepted_lem' : accepts_on (job_of job) t form ≡ true
      is_accepted_lem' = sym accepts_bit ∙ (may_fill some).1

      pub on_route : (places : List ℕ) →
          take (length form) places ≡ route (final_of form finish) (done_in (bit_statuses bits)) form q →
          OnRoute job t form places
      on_route places e =
          let (words, can) = may_fill some in
          let below = state_below f in
          record {
            accepts = is_accepted_lem';
            along = e
                ∙ route_agree _ (job_of job).final ends_agree (done_in (bit_statuses bits)) (done_at_lem t) form
                (bits_agree bits t form same fit) q below (sym (words 0 q (omega arith) below) ∙ can)
                ∙ ap (route _ (done_at_lem t) form) f.initial;
          }

      pub explained : (rs out : List ℕ) (after : ExplainOutcome) →
          after ≡ explain_listed (job_of job).rules rs (listed_for (job_of job) (lent_of t rs) form) out →
          after ≡ explain_finished_lem (job_of job) (lent_of t rs) form out
      unfolding explain_finished_lem
      explained rs out after e = rw is_accepted_lem' e
