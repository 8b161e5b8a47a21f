-- `begin::begin` meets its contract: what the calls leave, one after the other, says the start of the job, and no
-- place has both bits. Assumes nothing.
use Rattle.grammar.proofs.Basics.{◌≡◌, ◌∙◌, ap, ap₂, false, List, ℕ, ◌<◌, arith, length, get_or}
use Rattle.job.specs.Written.{cleared}
use Rattle.job.specs.Job.{Job, job_of}
use Rattle.job.specs.Inside.Keys.{rules_of_keys}
use Rattle.job.proofs.Keys.{job_keys, job_rules}
use Rattle.job.proofs.Clearing.{cleared_length, cleared_past}
use Rattle.machine.specs.Table.{lent_of}
use Rattle.machine.specs.Start.{started}
use Rattle.machine.proofs.Starts.StartDone.{records_fit, states_counted, few_states, begun}
use Rattle.bit_machine.specs.BitTable.{bits_size, table_of_bits}
use Rattle.bit_machine.specs.Machine.{started_bits}
use Rattle.bit_machine.specs.Inside.Change.{Kept}
use Rattle.bit_machine.proofs.ByteTables.{bytes_length}
use Rattle.bit_machine.proofs.ClearedBits.{cleared_none_both, cleared_none_done, cleared_bytes}
use Rattle.bit_machine.proofs.Keeping.{kept_then}
use Rattle.bit_machine.proofs.Writing.{written}
use Rattle.starting.proofs.begin.begin.Goals as goal

-- what says a start, and is kept from the clearing on, is the start in bits
begun_bits : (J : Job) (bits rs bits' rs' : List ℕ) → Kept (cleared bits_size bits) bits' →
    ((i : ℕ) → i < length bits' → get_or bits' i 0 < 256) →
    lent_of (table_of_bits bits') rs' ≡ started J (lent_of (table_of_bits bits) rs) →
    lent_of bits' rs' ≡ started_bits J (lent_of bits rs)
unfolding started_bits
begun_bits J bits rs bits' rs' kept below e =
    ap₂ lent_of
    (written (λ p. false) bits bits' _ (kept.long ∙ cleared_length bits_size bits)
    (kept.rest ∙ cleared_past bits_size bits) below (ap (λ m. m.table) e)
    (λ p l. kept.both p l ∙ cleared_none_both bits p l))
    (ap (λ m. m.reasons) e)

pub give_all-requires-clause-fit : goal.give_all-requires-clause-fit
give_all-requires-clause-fit c =
    (records_fit _ c.requires.able.2, rw c.clear_front.ensures.cleared (cleared_none_done c.args.bits.now))

pub loop_rules-requires : goal.loop_rules-requires
loop_rules-requires c = let ok = c.requires.able.2 in record {
  long = (omega arith, omega arith, few_states _ ok _ c.state_count-states.ensures.states);
  rules = rw c.as_slice.ensures (job_keys ok c.sorted_rules-keys.ensures.sorted);
}

pub returns : goal.returns
returns c = let ok = c.requires.able.2 in
    let given = c.give_all.ensures in
    let looped = c.loop_rules.ensures in
    let clear = c.clear_front.ensures.cleared in
    let rules : rules_of_keys c.as_slice.result.now ≡ (job_of c.args.job.now).rules =
    rw c.as_slice.ensures (job_rules ok c.sorted_rules-keys.ensures.sorted) in
    let counted = c.state_count-states.ensures.states in record {
      states = states_counted _ ok _ counted;
      written = begun_bits _ _ _ _ _ (rw clear at (kept_then _ _ _ given.kept looped.kept))
          (λ i h. omega (arith, c.slice_known-7-1.given i))
          (begun _ ok _ counted
          rules _ _ _ _ _ _
          (omega (arith, bytes_length c.args.bits.now)) c.requires.able.1 (ap table_of_bits clear ∙ cleared_bytes _)
          c.clear_reasons.ensures.cleared given.given looped.looped);
    }
