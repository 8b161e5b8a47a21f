-- One step, bit by bit. Assumes nothing.
use Rattle.std.specs.Prelude.{◌≡◌, true, false, cond, List, ℕ, ◌+◌, ◌≤◌, ◌<◌, eqb, length}
use Rattle.grammar.specs.Rule.{Rule}
use Rattle.machine.specs.Table.{Lent, table_size, from_state, symbol_at, to_state, Statuses, statuses}
use Rattle.machine.specs.Step.{lowest, is_finished, comes_in}
use Rattle.machine.specs.Advance.{steps_made, meetings_made}
use Rattle.bit_machine.specs.BitTable.{bits_size, pending_half, done_half, bit_at}
use Rattle.bit_machine.specs.Machine.{as_bytes, steps_bits}

-- The bit table: a step on a table that says v clears the pending bit of the place it takes and sets its done bit;
-- what comes in gets its pending bit; every other bit stays, so that a place with both bits keeps both
pub record StepInBits (ρs : List Rule) (v : Statuses) (before after : List ℕ) : Type 0 where
  pub pending : (p : ℕ) → p < table_size →
      bit_at after pending_half p
      ≡ cond (eqb p (lowest v)) false
      (cond (comes_in ρs v (lowest v) (from_state p) (symbol_at p) (to_state p)) true (bit_at before pending_half p))
  pub done : (p : ℕ) → p < table_size → bit_at after done_half p ≡ cond (eqb p (lowest v)) true (bit_at before done_half p)

unfoldable pub StepBitByBit : Type 0
StepBitByBit =
    (ρs : List Rule) (m : Lent) → bits_size ≤ length m.table → is_finished (statuses (as_bytes m).table) ≡ false →
    StepInBits ρs (statuses (as_bytes m).table) m.table (steps_bits ρs 1 m).table

-- Table and machine, The bit table: a steps and then b are a + b steps, and their counts, which are those of the byte
-- table that says the same, add up
pub record JoinedBits (ρs : List Rule) (m : Lent) (a b : ℕ) : Type 0 where
  pub lent : steps_bits ρs (a + b) m ≡ steps_bits ρs b (steps_bits ρs a m)
  pub made :
      steps_made ρs (a + b) (as_bytes m)
      ≡ steps_made ρs a (as_bytes m) + steps_made ρs b (as_bytes (steps_bits ρs a m))
  pub met :
      meetings_made ρs (a + b) (as_bytes m)
      ≡ meetings_made ρs a (as_bytes m) + meetings_made ρs b (as_bytes (steps_bits ρs a m))

unfoldable pub StepsBitsAddUp : Type 0
StepsBitsAddUp = (ρs : List Rule) (m : Lent) → bits_size ≤ length m.table → (a b : ℕ) → JoinedBits ρs m a b
