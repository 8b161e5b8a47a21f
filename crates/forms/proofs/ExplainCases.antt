-- What explain leaves on a finished table, by cases: the form is not accepted, or the listing fits its buffer or not.
-- So its number is 0 or 13, the listing buffer matters by its length alone, and past the records it is kept. Assumes
-- nothing.
use Rattle.grammar.proofs.Basics.{◌≡◌, refl, ◌∙◌, sym, true, false, Bool, cond, ◌||◌, List, ◌++◌, ℕ, ◌*◌, arith, eqb}
use Rattle.grammar.proofs.Basics.{ltb, length, take, drop, take_at, cases, true_and_false}
use lib.Seq.{drop_at}
use Rattle.grammar.specs.Rule.{Rule}
use Rattle.job.specs.Check.{refused}
use Rattle.job.specs.Job.{Job}
use Rattle.machine.specs.Table.{Lent, lent_of}
use Rattle.forms.specs.Listing.{Listed, records_at}
use Rattle.forms.specs.Operations.{accepts_on, ExplainOutcome, explain_leaves, explain_refused, listed_for}
use Rattle.forms.specs.Operations.{explain_listed, explain_finished_lem}
use Rattle.forms.proofs.Passes.{records_length}

-- the number
abbrev pub zero_or_thirteen : ExplainOutcome → Bool
zero_or_thirteen o = eqb o.answer.number 0 || eqb o.answer.number 13

-- past the records
abbrev pub PastKept : List ℕ → ExplainOutcome → Type 0
PastKept out o = drop (8 * o.answer.records) o.listing ≡ drop (8 * o.answer.records) out

-- two outcomes are alike but for the rest of the listing buffers
pub record SameListing (o p : ExplainOutcome) : Type 0 where
  pub answer : o.answer ≡ p.answer
  pub lent : o.lent ≡ p.lent
  pub written : take (8 * o.answer.records) o.listing ≡ take (8 * o.answer.records) p.listing

-- what an accepted form leaves, by whether the buffer is too short
abbrev pub leaves_by : Bool → List Rule → List ℕ → Listed → List ℕ → ExplainOutcome
leaves_by short ρs reasons l out =
    cond short (explain_refused (refused 13 (length l.places)) (lent_of l.table reasons) out)
    (explain_leaves (record { number = 0; place = 0; accepted = true; records = length l.places })
    (lent_of l.table reasons) (records_at ρs reasons l.places ++ drop (8 * length l.places) out))

module _ (J : Job) (m : Lent) (form : List ℕ) where
  abbrev listed : Listed
  listed = listed_for J m form

  abbrev size : ℕ
  size = 8 * length listed.places

  abbrev records : List ℕ
  records = records_at J.rules m.reasons listed.places

  module _ (out : List ℕ) where
    -- a property of outcomes, by cases
    pub explain_cases : (P : ExplainOutcome → Type 0) →
        (accepts_on J m.table form ≡ true → P (leaves_by true J.rules m.reasons listed out)) →
        (accepts_on J m.table form ≡ true → P (leaves_by false J.rules m.reasons listed out)) →
        (accepts_on J m.table form ≡ false →
        P (explain_leaves (record { number = 0; place = 0; accepted = false; records = 0 }) m out)) →
        P (explain_finished_lem J m form out)
    unfolding explain_finished_lem explain_listed
    explain_cases P long fits none =
        cases (accepts_on J m.table form)
        (λ e. rw e (cases (ltb (length out) size) (λ s. rw s (long e)) (λ s. rw s (fits e))))
        (λ e. rw e (none e))

    pub explain_settles : zero_or_thirteen (explain_finished_lem J m form out) ≡ true
    explain_settles = explain_cases (λ o. zero_or_thirteen o ≡ true) (λ e. refl) (λ e. refl) (λ e. refl)

    -- the answer
    pub explain_answer : (explain_finished_lem J m form out).answer.number ≡ 0 →
        (explain_finished_lem J m form out).answer.accepted ≡ accepts_on J m.table form
    explain_answer =
        explain_cases (λ o. o.answer.number ≡ 0 → o.answer.accepted ≡ accepts_on J m.table form)
        (λ e z. absurd (omega arith)) (λ e z. sym e) (λ e z. sym e)

    pub explain_past : PastKept out (explain_finished_lem J m form out)
    explain_past =
        explain_cases (PastKept out) (λ e. refl)
        (λ e. drop_at records _ size (records_length J.rules m.reasons listed.places))
        (λ e. refl)

    -- an accepted form's marks are left, and what is not refused is counted and written
    pub accepted_leaves : accepts_on J m.table form ≡ true →
        ((explain_finished_lem J m form out).lent ≡ lent_of listed.table m.reasons)
        × ((explain_finished_lem J m form out).answer.number ≡ 0 →
        ((explain_finished_lem J m form out).answer.records ≡ length listed.places)
        × ((explain_finished_lem J m form out).listing ≡ records ++ drop size out))
    accepted_leaves accepts =
        explain_cases
        (λ o. (o.lent ≡ lent_of listed.table m.reasons)
        × (o.answer.number ≡ 0 →
        (o.answer.records ≡ length listed.places) × (o.listing ≡ records ++ drop size out)))
        (λ e. (refl, λ z. absurd (omega arith))) (λ e. (refl, λ z. (refl, refl))) (true_and_false accepts)

    -- the listing buffer matters by its length
    pub same_listing : (other : List ℕ) → length out ≡ length other →
        SameListing (explain_finished_lem J m form out) (explain_finished_lem J m form other)
    unfolding explain_finished_lem explain_listed
    same_listing other same =
        let long = records_length J.rules m.reasons listed.places in
        rw same
        (cases (accepts_on J m.table form)
        (λ e. rw e
        (cases (ltb (length other) size) (λ s. rw s (record { answer = refl; lent = refl; written = refl }))
        (λ s. rw s
        (record {
          answer = refl;
          lent = refl;
          written = take_at records _ size long ∙ sym (take_at records _ size long);
        }))))
        (λ e. rw e (record { answer = refl; lent = refl; written = refl })))
