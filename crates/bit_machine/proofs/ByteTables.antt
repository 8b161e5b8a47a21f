-- The byte table that says what a bit table says: its length, its bytes, and what becomes of it where the bit table
-- says something else of one place, or of none. Assumes nothing.
use Rattle.grammar.proofs.Basics.{◌≡◌, refl, ◌∙◌, sym, ap, true, false, Bool, List, ℕ, ◌<◌, arith, eqb, length, get_or}
use Rattle.grammar.proofs.Basics.{set, replicate, length-set, get_or-set_other, get_or-set_same, ext_get_or, eqb-true}
use Rattle.grammar.proofs.Basics.{eqb-false, cases}
use lib.ListN.{length-replicate, get_or-replicate}
use Rattle.grammar.proofs.Counting.{count_cong}
use Rattle.machine.specs.Table.{table_size, Status, byte_status, says_absent, says_pending, says_done, statuses}
use Rattle.machine.specs.Table.{done_count_lem, is_absent, is_pending_lem, is_done_lem, each}
use Rattle.machine.proofs.Tables.Each.{length_each, get_or_each_0}
use Rattle.machine.specs.Table.{status_byte}
use Rattle.bit_machine.specs.BitTable.{pending_half, done_half, bit_at, bit_status, bit_statuses, done_bits}
use Rattle.bit_machine.specs.BitTable.{table_of_bits}

-- a list made of n zeros, number by number
module _ (f : ℕ → ℕ → ℕ) (n : ℕ) where
  made_length : length (each f 0 (replicate n 0)) ≡ n
  made_length = length_each f 0 (replicate n 0) ∙ length-replicate {A = ℕ} n 0

  made_at : (p : ℕ) → p < n → get_or (each f 0 (replicate n 0)) p 0 ≡ f p 0
  made_at p h =
      get_or_each_0 f (replicate n 0) p (omega (arith, length-replicate {A = ℕ} n 0))
      ∙ ap (f p) (get_or-replicate {A = ℕ} n p 0 0 h)

-- the byte of a status says it
pub status_of_byte : (s : Status) → byte_status (status_byte s) ≡ s
status_of_byte Status.absent = refl
status_of_byte Status.pending = refl
status_of_byte Status.done = refl

pub bytes_length : (bits : List ℕ) → length (table_of_bits bits) ≡ table_size
unfolding table_of_bits
bytes_length bits = made_length (λ p old. status_byte (bit_statuses bits p)) table_size

module _ (bits : List ℕ) (p : ℕ) (h : p < table_size) where
  pub byte_at : get_or (table_of_bits bits) p 0 ≡ status_byte (bit_statuses bits p)
  unfolding table_of_bits
  byte_at = made_at (λ p old. status_byte (bit_statuses bits p)) table_size p h

  says : byte_status (get_or (table_of_bits bits) p 0) ≡ bit_statuses bits p
  says = ap byte_status byte_at ∙ status_of_byte (bit_statuses bits p)

  pub bytes_say : statuses (table_of_bits bits) p ≡ bit_statuses bits p
  unfolding statuses
  bytes_say = says

  pub byte_absent : is_absent (get_or (table_of_bits bits) p 0) ≡ says_absent (bit_statuses bits p)
  byte_absent = ap says_absent says

  pub byte_pending : is_pending_lem (get_or (table_of_bits bits) p 0) ≡ says_pending (bit_statuses bits p)
  byte_pending = ap says_pending says

  pub byte_done : is_done_lem (get_or (table_of_bits bits) p 0) ≡ says_done (bit_statuses bits p)
  byte_done = ap says_done says

-- its done places are the ones of the done half
pub done_says : (pending done : Bool) → says_done (bit_status pending done) ≡ done
done_says true true = refl
done_says false true = refl
done_says true false = refl
done_says false false = refl

pub bytes_done_count : (bits : List ℕ) → done_bits bits ≡ done_count_lem (statuses (table_of_bits bits))
unfolding done_bits done_count_lem bit_statuses
bytes_done_count bits =
    count_cong (bit_at bits done_half) _ table_size
    (λ p h. sym (ap says_done (bytes_say bits p h) ∙ done_says (bit_at bits pending_half p) (bit_at bits done_half p)))

module _ (bits bits' : List ℕ) where
  -- all such tables have one length
  pub bytes_as_long : length (table_of_bits bits') ≡ length (table_of_bits bits)
  bytes_as_long = bytes_length bits' ∙ sym (bytes_length bits)

  -- the bit table says something else of one place
  pub bytes_set : (p : ℕ) (s : Status) → p < table_size → bit_statuses bits' p ≡ s →
      ((i : ℕ) → i < table_size → (i ≡ p → ⊥) → bit_statuses bits' i ≡ bit_statuses bits i) →
      table_of_bits bits' ≡ set (table_of_bits bits) p (status_byte s)
  bytes_set p s h here there =
      ext_get_or 0 _ _ (bytes_length bits' ∙ sym (length-set (table_of_bits bits) p _ ∙ bytes_length bits))
      (λ i l.
      let b : i < table_size = omega (arith, bytes_length bits') in
      cases (eqb i p)
      (λ e.
      rw (eqb-true i p e)
      (byte_at bits' p h ∙ ap status_byte here
      ∙ sym (get_or-set_same (table_of_bits bits) p (status_byte s) 0 (omega (arith, bytes_length bits)))))
      (λ e.
      let d = eqb-false i p e in
      byte_at bits' i b ∙ ap status_byte (there i b d)
      ∙ sym (get_or-set_other (table_of_bits bits) p i (status_byte s) 0 d ∙ byte_at bits i b)))
