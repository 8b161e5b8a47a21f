-- What ask answers: the refusal of its checks, or whether the form can finish from the initial state, as the bit of
-- that state says. Assumes nothing.
use Rattle.grammar.proofs.Basics.{◌≡◌, refl, ◌∙◌, sym, true, false, Bool, List, ℕ, ◌<◌, arith, get_or, eq-eqb}
use Rattle.grammar.proofs.Basics.{ne_eqb}
use Rattle.job.specs.Records.{Checked}
use Rattle.job.specs.Accepted.{Accepted}
use Rattle.job.specs.Format.{byte_i, records_of}
use Rattle.job.specs.Job.{field_of, job_of}
use Rattle.job.proofs.AcceptedFacts.{in_range, initial_below, job_initial}
use Rattle.machine.specs.Table.{done_in, done_at_lem}
use Rattle.bit_machine.specs.BitTable.{bit_of, bit_statuses}
use Rattle.forms.specs.Answers.{Asked}
use Rattle.forms.specs.Acceptance.{SymbolsFit}
use Rattle.forms.specs.Operations.{ask_answer, accepts_by, accepts_on}
use Rattle.forms.specs.Inside.AcceptanceParts.{FinishWords, Filled, AgreeOn}
use Rattle.forms.specs.Inside.ExplainParts.{BitsSay}
use Rattle.forms.proofs.Agreeing.{bits_agree, finish_agree}

module _ (c : Checked) (accepts : Bool) where
  pub ask_refused_lem : {d : Checked} → d ≡ c → (d.number ≡ 0 → ⊥) →
      ◌≡◌ {A = Asked} (record { number = d.number; place = d.place; accepted = false }) (ask_answer c accepts)
  ask_refused_lem {d} e refusal = rw (← e, ne_eqb d.number 0 refusal)

  pub ask_answered : {b : Bool} → c.number ≡ 0 → b ≡ accepts →
      ◌≡◌ {A = Asked} (record { number = 0; place = 0; accepted = b }) (ask_answer c accepts)
  ask_answered none e = rw (eq-eqb c.number 0 none, e)

-- the initial state is below 32
pub initial_state : {job : List ℕ} → Accepted true job → (job_of job).initial < 32
initial_state ok = omega (arith, initial_below ok refl, (in_range ok).states)

-- a form is accepted alike on a bit table and on a byte table that say the same
module _ {job : List ℕ} (bits table form : List ℕ) (ok : Accepted true job) where
  pub accepts_on_lem : AgreeOn (done_in (bit_statuses bits)) (done_at_lem table) form →
      accepts_by (job_of job) (bit_statuses bits) form ≡ accepts_on (job_of job) table form
  accepts_on_lem agree =
      finish_agree (job_of job).final _ (λ q l. refl) (done_in (bit_statuses bits)) (done_at_lem table) form agree _
      (initial_state ok)

  pub accepts_alike : BitsSay bits table → SymbolsFit form →
      accepts_by (job_of job) (bit_statuses bits) form ≡ accepts_on (job_of job) table form
  accepts_alike same fit = accepts_on_lem (bits_agree bits table form same fit)

-- the words of a form are filled, and the initial state is read
pub filled : {job : List ℕ} (bits form finish : List ℕ) (final : ℕ) {q : ℕ} → Accepted true job →
    ((s : ℕ) → s < 32 → bit_of final s ≡ (job_of job).final s) → FinishWords (bit_of final) bits form finish →
    q ≡ field_of byte_i (records_of job) → Filled job bits form finish q
filled {job} bits form finish final ok word words at =
    record {
      ok = ok;
      words = λ i q l below. words i q l below
          ∙ finish_agree (bit_of final) (job_of job).final word (done_in (bit_statuses bits)) _ _ (λ j s t h m n. refl) q
          below;
      initial = at ∙ sym (job_initial job);
    }

module _ {job bits form finish : List ℕ} {q : ℕ} (f : Filled job bits form finish q) where
  pub state_below : q < 32
  state_below = omega (arith, f.initial, initial_state f.ok)

  -- the bit of the whole form at the initial state
  pub initial_bit : bit_of (get_or finish 0 0) q ≡ accepts_by (job_of job) (bit_statuses bits) form
  initial_bit = rw (← f.initial) (f.words 0 q (omega arith) state_below)

-- of an answer that equals the checks
pub none_refused : {c d : Checked} → c ≡ d → c.number ≡ 0 → d.number ≡ 0
none_refused e none = rw (← e) none
