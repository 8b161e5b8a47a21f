-- A bit table and a byte table side by side: started, they say the same, and steps on tables that say the same leave
-- such tables. The bytes of the bit table are brought beside the byte table, on which the machine takes the same steps.
-- Assumes nothing.
use Rattle.grammar.proofs.Basics.{◌≡◌, ◌∙◌, sym, ap, false, false≢true, List, ℕ, ◌<◌, ◌≤◌, arith, length, get_or, lt-leb}
use Rattle.grammar.specs.Rule.{Rule}
use Rattle.job.specs.Job.{Job}
use Rattle.machine.specs.Table.{Lent, table_size, byte_status, statuses, each}
use Rattle.machine.specs.Start.{start_byte, start_reason, started}
use Rattle.machine.specs.Advance.{steps}
use Rattle.machine.proofs.Tables.Each.{get_or_each_0}
use Rattle.machine.proofs.Tables.RuleRanges.{RulesInRange}
use Rattle.machine.proofs.Steps.SameSteps.{Same, steps_same}
use Rattle.bit_machine.specs.BitTable.{bits_size}
use Rattle.bit_machine.specs.Machine.{as_bytes, started_bits, steps_bits}
use Rattle.bit_machine.specs.Alike.{Alike}
use Rattle.bit_machine.proofs.ByteTables.{bytes_length, bytes_say}
use Rattle.bit_machine.proofs.Rewriting.{said_again}
use Rattle.bit_machine.proofs.BitSteps.{steps_say}

-- a start writes every place, whatever was there
pub started_byte : (J : Job) (m : Lent) (p : ℕ) → p < table_size → table_size ≤ length m.table →
    get_or (started J m).table p 0 ≡ start_byte J p 0
unfolding started
started_byte J m p l long = get_or_each_0 (start_byte J) m.table p (omega arith) ∙ rw (lt-leb table_size p l)

module _ (J : Job) (bits table : Lent) (long : bits_size ≤ length bits.table)
    (table_long_lem : table_size ≤ length table.table) (same-reasons : bits.reasons ≡ table.reasons) where
  pub starts_alike : Alike (started_bits J bits) (started J table)
  unfolding started_bits started statuses
  starts_alike =
      record {
        says = λ p l.
            said_again (λ q. false) (statuses (started J (as_bytes bits)).table) bits.table long
            (λ q h e. absurd (false≢true e)) p l
            ∙ ap byte_status
            (started_byte J (as_bytes bits) p l (omega (arith, bytes_length bits.table))
            ∙ sym (started_byte J table p l table_long_lem));
        reasons = ap (each (start_reason J) 0) same-reasons;
      }

-- tables that say the same, as the machine on bytes sees them
pub same_tables : (bits table : Lent) → table_size ≤ length table.table → Alike bits table → Same (as_bytes bits) table
same_tables bits table table_long_lem alike =
    record {
      long = omega (arith, bytes_length bits.table);
      other_long = table_long_lem;
      says = λ p l. bytes_say bits.table p l ∙ alike.says p l;
      reasons = alike.reasons;
    }

module _ (bits table : Lent) (long : bits_size ≤ length bits.table) (table_long_lem : table_size ≤ length table.table)
    (alike : Alike bits table) where
  pub steps_alike : (ρs : List Rule) → RulesInRange ρs → (n : ℕ) → Alike (steps_bits ρs n bits) (steps ρs n table)
  unfolding steps_bits
  steps_alike ρs range n =
      let same = steps_same ρs range n (as_bytes bits) table (same_tables bits table table_long_lem alike) in
      record { says = λ p l. steps_say ρs bits long n p l ∙ same.says p l; reasons = same.reasons }
