-- A cleared bit table: no place has a bit, so it says absent of each, as a cleared byte table does. Assumes nothing.
use Rattle.grammar.proofs.Basics.{◌≡◌, ◌∙◌, sym, ap, false, List, ℕ, ◌<◌, ◌+◌, ◌*◌, ◌/◌, ◌%◌, arith, ext_get_or}
use Rattle.job.specs.Written.{cleared}
use Rattle.job.proofs.Clearing.{cleared_length, cleared_front}
use Rattle.machine.specs.Table.{table_size, Status, says_done}
use Rattle.bit_machine.specs.BitTable.{bits_size, half_size, pending_half, done_half, bit_at, bit_statuses, has_both}
use Rattle.machine.specs.Table.{status_byte}
use Rattle.bit_machine.specs.BitTable.{table_of_bits}
use Rattle.bit_machine.specs.Inside.Change.{NoneDone}
use Rattle.bit_machine.proofs.BitLaws.{bit_zero}
use Rattle.bit_machine.proofs.ByteTables.{bytes_length, byte_at, byte_done}

module _ (bits : List ℕ) where
  no_bit : (half p : ℕ) → half < 2 → p < table_size → bit_at (cleared bits_size bits) half p ≡ false
  unfolding bit_at
  no_bit half p h l =
      rw (cleared_front bits_size bits (half * half_size + p / 8) (omega arith)) (bit_zero (p % 8))

  module _ (p : ℕ) (l : p < table_size) where
    all_absent : bit_statuses (cleared bits_size bits) p ≡ Status.absent
    unfolding bit_statuses
    all_absent = rw (no_bit pending_half p (omega arith) l, no_bit done_half p (omega arith) l)

    pub cleared_none_both : has_both (cleared bits_size bits) p ≡ false
    unfolding has_both
    cleared_none_both = rw (no_bit pending_half p (omega arith) l)

  pub cleared_none_done : NoneDone (cleared bits_size bits)
  cleared_none_done p l = byte_done (cleared bits_size bits) p l ∙ ap says_done (all_absent p l)

  pub cleared_bytes : table_of_bits (cleared bits_size bits) ≡ cleared table_size (table_of_bits bits)
  cleared_bytes =
      ext_get_or 0 _ _ (bytes_length _ ∙ sym (cleared_length table_size (table_of_bits bits) ∙ bytes_length bits))
      (λ i h.
      let l : i < table_size = omega (arith, bytes_length (cleared bits_size bits)) in
      byte_at (cleared bits_size bits) i l ∙ ap status_byte (all_absent i l)
      ∙ sym (cleared_front table_size (table_of_bits bits) i l))
