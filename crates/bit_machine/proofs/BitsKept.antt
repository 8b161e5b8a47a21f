-- A bit table written to say what it says, with both bits where it has both, is that table; so where the byte table
-- stands still the bits do. Assumes nothing.
use Rattle.grammar.proofs.Basics.{◌≡◌, refl, ◌∙◌, ap, true, false, Bool, ◌&&◌, ◌||◌, List, ℕ, ◌<◌, ◌+◌, ◌*◌, ◌/◌, ◌%◌}
use Rattle.grammar.proofs.Basics.{suc, zero, arith, leb, get_or, leb-false, cases}
use Rattle.grammar.specs.Rule.{Rule}
use Rattle.machine.specs.Table.{Lent, lent_of, table_size, says_pending, says_done, statuses}
use Rattle.machine.specs.Advance.{steps}
use Rattle.machine.proofs.Tables.Each.{each_is}
use Rattle.machine.proofs.Steps.FirstPart.{finished_agree}
use Rattle.machine.proofs.Steps.StepLaws.{finished_steps}
use Rattle.bit_machine.specs.BitTable.{bits_size, half_size, pending_half, done_half, bit_of, bit_at, bit_status}
use Rattle.bit_machine.specs.BitTable.{bit_statuses, has_both, write_bits, saying, table_of_bits}
use Rattle.bit_machine.specs.Machine.{as_bytes, in_bits, steps_bits}
use Rattle.bit_machine.specs.Theorems.Kept.{Bytes, StandStill}
use Rattle.bit_machine.proofs.BitLaws.{byte_of_bits_lem}
use Rattle.bit_machine.proofs.ByteTables.{bytes_say, done_says}

-- the pending bit of what two bits say
pending_again : (pending done : Bool) → (says_pending (bit_status pending done) || (pending && done)) ≡ pending
pending_again true true = refl
pending_again true false = refl
pending_again false true = refl
pending_again false false = refl

module _ (bits : List ℕ) where
  bit_again : (half p : ℕ) → half < 2 → p < table_size →
      saying (has_both bits) (statuses (table_of_bits bits)) half p ≡ bit_at bits half p
  unfolding has_both bit_statuses
  bit_again zero p h l =
      ap (λ s. says_pending s || has_both bits p) (bytes_say bits p l)
      ∙ pending_again (bit_at bits pending_half p) (bit_at bits done_half p)
  bit_again (suc zero) p h l =
      ap says_done (bytes_say bits p l) ∙ done_says (bit_at bits pending_half p) (bit_at bits done_half p)
  bit_again (suc (suc half)) p h l = absurd (omega arith)

  bit_of_index : (i j : ℕ) → i < bits_size → j < 8 →
      bit_at bits (i / half_size) (i % half_size * 8 + j) ≡ bit_of (get_or bits i 0) j
  unfolding bit_at
  bit_of_index i j l b =
      let index : i / half_size * half_size + (i % half_size * 8 + j) / 8 ≡ i = omega arith in
      let bit : (i % half_size * 8 + j) % 8 ≡ j = omega arith in
      rw (index, bit)

  -- a table of bytes, written again
  written_again : Bytes bits → write_bits (saying (has_both bits) (statuses (table_of_bits bits))) bits ≡ bits
  unfolding write_bits
  written_again bytes =
      each_is _ bits bits refl
      (λ i h. cases (leb bits_size i)
      (λ e. rw e)
      (λ e.
      let l = leb-false bits_size i e in
      rw e
      (byte_of_bits_lem (get_or bits i 0) _ (bytes i l)
      (λ j b. bit_again (i / half_size) (i % half_size * 8 + j) (omega arith) (omega arith) ∙ bit_of_index i j l b))))

module _ (ρs : List Rule) (m : Lent) (bytes : Bytes m.table) where
  stays : (n : ℕ) → steps ρs n (as_bytes m) ≡ as_bytes m → steps_bits ρs n m ≡ m
  unfolding steps_bits
  stays n e =
      ap (in_bits (has_both m.table) m.table) e ∙ ap (λ t. lent_of t m.reasons) (written_again m.table bytes)

  pub stand_still : StandStill ρs m
  unfolding steps
  stand_still =
      record {
        no_step = stays 0 refl;
        finished = λ e n.
            stays n
            (finished_steps ρs n (as_bytes m)
            (finished_agree (statuses (table_of_bits m.table)) (bit_statuses m.table) (bytes_say m.table) ∙ e));
      }
