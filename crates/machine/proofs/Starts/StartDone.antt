-- Start writes what it is to write: cleared memory, then the records one after the other, then the rules in the order
-- of their ranks. Also what the functions called one after the other want of an accepted job, and leave, on a table of
-- bytes or of bits. Assumes nothing.
use Rattle.grammar.proofs.Basics.{◌≡◌, true, false, Bool, List, ℕ, ◌<◌, ◌≤◌, arith, length, get_or}
use Rattle.grammar.specs.Rule.{Rule, empty}
use Rattle.grammar.proofs.NoRepeat.{member_at}
use Rattle.job.specs.Format.{records_of, no_record}
use Rattle.job.specs.Accepted.{Accepted}
use Rattle.job.specs.Written.{cleared}
use Rattle.job.specs.Job.{states_of, job_of, job_of_records}
use Rattle.job.proofs.AcceptedFacts.{in_range, transition_fits}
use Rattle.machine.specs.Table.{Lent, lent_of, table_size, reasons_size}
use Rattle.machine.specs.Start.{started}
use Rattle.machine.specs.Inside.StartParts.{TransitionFits, giving_all, looping_all}
use Rattle.machine.proofs.Starts.StartGiven.{cleared_written, giving_all_written}
use Rattle.machine.proofs.Starts.StartRules.{looping_all_written, started_written}

pub all_written : {needed : Bool} (job : List ℕ) → Accepted needed job →
    (m : Lent) → table_size ≤ length m.table → reasons_size ≤ length m.reasons →
    looping_all (job_of job).states 0 (job_of job).rules
    (giving_all (records_of job) (lent_of (cleared table_size m.table) (cleared reasons_size m.reasons)))
    ≡ started (job_of job) m
unfolding job_of job_of_records
all_written job ok m long long_reasons =
    let range = in_range ok in
    rw (
      cleared_written m,
      giving_all_written m long long_reasons (λ q X r. false) (λ q X. 0) (records_of job) (transition_fits ok),
      looping_all_written m long long_reasons (job_of job).given (λ q X. 0) (job_of job).states 0 (job_of job).rules
          range.states (λ A. range.rules (empty A)),
      started_written (job_of job) m,
    )

module _ (job : List ℕ) (ok : Accepted true job) where
  pub records_fit : (i : ℕ) → i < length (records_of job) → TransitionFits (get_or (records_of job) i no_record)
  records_fit i h = transition_fits ok (get_or (records_of job) i no_record) (member_at no_record (records_of job) i h)

  module _ (s : ℕ) (counted : s ≡ states_of (records_of job)) where
    pub states_counted : s ≡ (job_of job).states
    unfolding job_of job_of_records
    states_counted = counted

    pub few_states : s ≤ 32
    few_states = omega (arith, states_counted, (in_range ok).states)

    pub begun : {rules : List Rule} → rules ≡ (job_of job).rules → (t rs t₁ rs₁ : List ℕ) (m₂ m₃ : Lent) →
        65536 ≤ length t → 32768 ≤ length rs → t₁ ≡ cleared table_size t → rs₁ ≡ cleared reasons_size rs →
        m₂ ≡ giving_all (records_of job) (lent_of t₁ rs₁) → m₃ ≡ looping_all s 0 rules m₂ →
        m₃ ≡ started (job_of job) (lent_of t rs)
    begun all t rs t₁ rs₁ m₂ m₃ long long_reasons clear clear-reasons given looped =
        rw (looped, given, clear, clear-reasons, states_counted, all)
        (all_written job ok (lent_of t rs) long long_reasons)
