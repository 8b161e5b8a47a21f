-- Runs on a byte table by way of bits: what is merged of a run on bits is what the machine on bytes leaves, with the
-- same counts; and what is written of a start and a run is what they leave. Assumes nothing.
use Rattle.grammar.proofs.Basics.{◌≡◌, refl, ◌∙◌, sym, ap, ap₂, true, false, Bool, cond, ◌||◌, List, [], ℕ, ◌<◌, ◌≤◌}
use Rattle.grammar.proofs.Basics.{◌/◌, suc, zero, arith}
use Rattle.grammar.proofs.Basics.{leb, length, get_or, drop, replicate, leb-true, leb-false, lt-leb, le-ltb, cases}
use Rattle.grammar.specs.Rule.{Rule}
use Rattle.job.specs.Accepted.{Accepted}
use Rattle.job.specs.Written.{cleared}
use Rattle.job.specs.Job.{Job, job_of}
use Rattle.job.proofs.AcceptedFacts.{in_range}
use Rattle.job.proofs.Clearing.{cleared_length, cleared_front, cleared_rest}
use Rattle.machine.specs.Table.{Lent, lent_of, table_size, from_state, symbol_at, to_state, Status, Statuses}
use Rattle.machine.specs.Table.{byte_status}
use Rattle.machine.specs.Table.{says_absent, statuses}
use Rattle.machine.specs.Start.{is_empty_at, started}
use Rattle.machine.specs.Step.{is_finished}
use Rattle.machine.specs.Advance.{steps, steps_made, meetings_made}
use Rattle.machine.specs.Theorems.Bytes.{byte_for, rewritten}
use Rattle.machine.proofs.Tables.Each.{length_each, get_or_each_0, each_is, rest_at}
use Rattle.machine.proofs.Tables.RuleRanges.{RulesInRange}
use Rattle.machine.proofs.Starts.StartLaws.{started_keeps_rest}
use Rattle.machine.proofs.Steps.StepLaws.{steps_keep_rest}
use Rattle.machine.proofs.Steps.SameSteps.{same_finished, steps_same, steps_made_same, meetings_made_same}
use Rattle.machine.proofs.Steps.Kept.{steps_kept, steps_small}
use Rattle.bit_machine.specs.BitTable.{bits_size, bit_statuses, saying}
use Rattle.bit_machine.specs.Machine.{as_bytes, started_bits, steps_bits}
use Rattle.bit_machine.specs.Alike.{Alike}
use Rattle.bit_machine.proofs.Rewriting.{rewritten_length}
use Rattle.bit_machine.proofs.Alongside.{started_byte, starts_alike, same_tables, steps_alike}
use Rattle.packing.specs.Merging.{Merges}
use Rattle.packing.proofs.Packed.{none_packed}

-- tables rewritten to say the same are equal
rewritten_cong : (v v' : Statuses) (t : List ℕ) → ((p : ℕ) → p < table_size → v p ≡ v' p) →
    rewritten v t ≡ rewritten v' t
unfolding rewritten
rewritten_cong v v' t same =
    each_is _ t _ (sym (length_each _ 0 t))
    (λ p h.
    (cases (leb table_size p)
    (λ e. rw e)
    (λ e. rw (e, same p (leb-false table_size p e))))
    ∙ sym (get_or_each_0 _ t p h))

-- a run on bits beside one on bytes
module _ (ρs : List Rule) (range : RulesInRange ρs) (n : ℕ) (old reasons new reasons' table : List ℕ)
    (long : bits_size ≤ length old) (table_long_lem : table_size ≤ length table)
    (alike : Alike (lent_of old reasons) (lent_of table reasons))
    (ran : lent_of new reasons' ≡ steps_bits ρs n (lent_of old reasons)) where
  after : Alike (lent_of new reasons') (steps ρs n (lent_of table reasons))
  after = rw ran (steps_alike (lent_of old reasons) (lent_of table reasons) long table_long_lem alike ρs range n)

  pub run_merges : Merges old new table
  run_merges =
      record {
        says = alike.says;
        there = λ p l e.
            ap says_absent (alike.says p l)
            ∙ (steps_kept ρs (lent_of table reasons) n).there p (sym (ap says_absent (after.says p l)) ∙ e);
      }

  pub run_lent : (table' : List ℕ) → table' ≡ rewritten (bit_statuses new) table →
      lent_of table' reasons' ≡ steps ρs n (lent_of table reasons)
  run_lent table' merged =
      ap₂ lent_of
      (merged ∙ rewritten_cong _ _ table after.says ∙ sym (steps_kept ρs (lent_of table reasons) n).bytes)
      after.reasons

-- the counts of runs on tables that say the same
module _ (ρs : List Rule) (range : RulesInRange ρs) (n : ℕ) (bits m : Lent)
    (table_long_lem : table_size ≤ length m.table)
    (alike : Alike bits m) where
  pub same_end : is_finished (statuses (steps ρs n (as_bytes bits)).table)
      ≡ is_finished (statuses (steps ρs n m).table)
  same_end = same_finished (steps_same ρs range n (as_bytes bits) m (same_tables bits m table_long_lem alike))

  pub same_steps : steps_made ρs n (as_bytes bits) ≡ steps_made ρs n m
  same_steps = steps_made_same ρs range n (as_bytes bits) m (same_tables bits m table_long_lem alike)

  pub same_meetings : meetings_made ρs n (as_bytes bits) ≡ meetings_made ρs n m
  same_meetings = meetings_made_same ρs range n (as_bytes bits) m (same_tables bits m table_long_lem alike)

-- a cleared table and bits that are all 0 say the same, and anything can be merged into it
pub from_nothing : (new table : List ℕ) → Merges (replicate 16384 0) new (cleared table_size table)
unfolding bit_statuses statuses
from_nothing new table =
    record {
      says = λ p l. all_absent p l ∙ sym (ap byte_status (cleared_front table_size table p l));
      there = λ p l e. ap says_absent (all_absent p l);
    }
  where
    all_absent : (p : ℕ) → p < table_size → bit_statuses (replicate 16384 0) p ≡ Status.absent
    all_absent p l =
        rw ((none_packed []).pending p l, (none_packed []).done p l, le-ltb (p / 32) 0 (omega arith))

-- a byte of 0, 1 or 2 is the one written for what it says over a 0
byte_again : (b : ℕ) → b < 3 → byte_for (byte_status b) 0 ≡ b
byte_again zero l = refl
byte_again (suc zero) l = refl
byte_again (suc (suc zero)) l = refl
byte_again (suc (suc (suc b))) l = absurd (omega arith)

-- so a table of such bytes is written whole into a cleared one
written_whole : (v : Statuses) (table whole : List ℕ) → length whole ≡ length table →
    drop table_size whole ≡ drop table_size table → ((p : ℕ) → p < table_size → get_or whole p 0 < 3) →
    ((p : ℕ) → p < table_size → v p ≡ statuses whole p) → rewritten v (cleared table_size table) ≡ whole
unfolding rewritten statuses
written_whole v table whole long rest small says =
    each_is _ (cleared table_size table) whole (cleared_length table_size table ∙ sym long)
    (λ p h. cases (leb table_size p)
    (λ e.
    let l = leb-true table_size p e in
    rw e (cleared_rest table_size table p l ∙ sym (rest_at table_size table whole rest p l)))
    (λ e.
    let l = leb-false table_size p e in
    rw (e, says p l, cleared_front table_size table p l) (byte_again (get_or whole p 0) (small p l))))

-- a start on bits beside one on bytes
module _ (J : Job) (bits0 bits1 reasons reasons1 table : List ℕ) (long : bits_size ≤ length bits0)
    (table_long_lem : table_size ≤ length table)
    (begun : lent_of bits1 reasons1 ≡ started_bits J (lent_of bits0 reasons)) where
  pub begun_alike : Alike (lent_of bits1 reasons1) (started J (lent_of table reasons))
  begun_alike = rw begun (starts_alike J (lent_of bits0 reasons) (lent_of table reasons) long table_long_lem refl)

  pub begun_long : bits_size ≤ length bits1
  unfolding started_bits
  begun_long =
      rw (ap (λ (l : Lent). length l.table) begun
      ∙ rewritten_length (saying (λ p. false) (statuses (started J (as_bytes (lent_of bits0 reasons))).table)) bits0)
      long

-- what is written of bits that say what a start and n steps leave
module _ (J : Job) (m : Lent) (long : table_size ≤ length m.table) where
  start_small : (p : ℕ) → p < table_size → get_or (started J m).table p 0 < 3
  start_small p l =
      rw (started_byte J m p l long, lt-leb table_size p l)
      (small (J.given (from_state p) (symbol_at p) (to_state p)
      || is_empty_at J (from_state p) (symbol_at p) (to_state p)))
    where
      small : (b : Bool) → cond b 1 0 < 3
      small true = omega arith
      small false = omega arith

  pub written_run : (ρs : List Rule) (n : ℕ) (bits reasons table' : List ℕ) →
      Alike (lent_of bits reasons) (steps ρs n (started J m)) →
      table' ≡ rewritten (bit_statuses bits) (cleared table_size m.table) →
      lent_of table' reasons ≡ steps ρs n (started J m)
  written_run ρs n bits reasons table' alike written =
      let first = started_keeps_rest J m in
      let then = steps_keep_rest ρs n (started J m) in
      ap₂ lent_of
      (written
      ∙ written_whole (bit_statuses bits) m.table (steps ρs n (started J m)).table
      (then.long_table ∙ first.long_table) (then.rest_table ∙ first.rest_table)
      (λ p l. steps_small ρs (started J m) n p (start_small p l)) alike.says)
      alike.reasons

-- a start and a run on bits, written into a byte table
module _ {job : List ℕ} (ok : Accepted true job) (n : ℕ)
    (bits0 bits1 bits2 reasons reasons1 reasons2 table table' : List ℕ)
    (long : bits_size ≤ length bits0) (table_long_lem : table_size ≤ length table)
    (begun : lent_of bits1 reasons1 ≡ started_bits (job_of job) (lent_of bits0 reasons))
    (ran : lent_of bits2 reasons2 ≡ steps_bits (job_of job).rules n (lent_of bits1 reasons1))
    (written : table' ≡ rewritten (bit_statuses bits2) (cleared table_size table)) where
  abbrev begins : Lent
  begins = started (job_of job) (lent_of table reasons)

  begins_long : table_size ≤ length begins.table
  begins_long = omega (arith, (started_keeps_rest (job_of job) (lent_of table reasons)).long_table)

  first : Alike (lent_of bits1 reasons1) begins
  first = begun_alike (job_of job) bits0 bits1 reasons reasons1 table long table_long_lem begun

  last : Alike (lent_of bits2 reasons2) (steps (job_of job).rules n begins)
  last =
      rw ran
      (steps_alike (lent_of bits1 reasons1) begins
      (begun_long (job_of job) bits0 bits1 reasons reasons1 table long table_long_lem begun) begins_long first
      (job_of job).rules (in_range ok).rules n)

  pub from_start_lent : lent_of table' reasons2 ≡ steps (job_of job).rules n begins
  from_start_lent =
      written_run (job_of job) (lent_of table reasons) table_long_lem (job_of job).rules n bits2 reasons2 table' last
      written

  pub from_start_alike : Alike (lent_of bits2 reasons2) (lent_of table' reasons2)
  from_start_alike = rw from_start_lent last

  pub from_start_counts : {finished : Bool} {made met : ℕ} →
      finished ≡ is_finished (statuses (steps (job_of job).rules n (as_bytes (lent_of bits1 reasons1))).table) →
      made ≡ steps_made (job_of job).rules n (as_bytes (lent_of bits1 reasons1)) →
      met ≡ meetings_made (job_of job).rules n (as_bytes (lent_of bits1 reasons1)) →
      (finished ≡ is_finished (statuses table'))
      × ((made ≡ steps_made (job_of job).rules n begins) × (met ≡ meetings_made (job_of job).rules n begins))
  from_start_counts ends counted risen =
      let range = (in_range ok).rules in (
        ends ∙ same_end (job_of job).rules range n (lent_of bits1 reasons1) begins begins_long first
            ∙ ap (λ (l : Lent). is_finished (statuses l.table)) (sym from_start_lent),
        (
          counted ∙ same_steps (job_of job).rules range n (lent_of bits1 reasons1) begins begins_long first,
          risen ∙ same_meetings (job_of job).rules range n (lent_of bits1 reasons1) begins begins_long first,
        ),
      )
