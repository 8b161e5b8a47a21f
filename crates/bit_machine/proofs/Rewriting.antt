-- What is read back of a bit table that was written: each bit is the one that the test said, so the table says what
-- was to be said, the places that were to have both bits have both, and its bytes are those written. Assumes nothing.
use Rattle.grammar.proofs.Basics.{◌≡◌, refl, ◌∙◌, sym, ap, true, false, false≢true, Bool, ◌&&◌, ◌||◌, List, ℕ}
use Rattle.grammar.proofs.Basics.{◌<◌, ◌≤◌, ◌+◌, ◌*◌, ◌/◌, ◌%◌, suc, zero, arith, leb, length, get_or, ext_get_or, cases}
use Rattle.grammar.proofs.Basics.{leb-true, leb-false, lt-leb, le-leb, take}
use Rattle.machine.specs.Table.{table_size, Status, byte_status, says_pending, says_done, Statuses, is_done_at, statuses}
use Rattle.machine.proofs.Tables.Each.{length_each, get_or_each_0}
use Rattle.machine.proofs.Steps.FirstPart.{take_alike}
use Rattle.bit_machine.specs.BitTable.{bits_size, half_size, pending_half, done_half, bit_of, bit_at, bit_status, bit_statuses}
use Rattle.machine.specs.Table.{status_byte}
use Rattle.bit_machine.specs.BitTable.{has_both, byte_of_bits, write_bits, saying, table_of_bits}
use Rattle.bit_machine.proofs.BitLaws.{byte_of_below, bit_of_byte, byte_of_bits_lem}
use Rattle.bit_machine.proofs.ByteTables.{bytes_length, byte_at}

-- the byte that is written at an index of the halves
abbrev byte_written : (ℕ → ℕ → Bool) → ℕ → ℕ
byte_written test i = byte_of_bits (λ j. test (i / half_size) (i % half_size * 8 + j))

module _ (test : ℕ → ℕ → Bool) (bits : List ℕ) where
  pub rewritten_length : length (write_bits test bits) ≡ length bits
  unfolding write_bits
  rewritten_length = length_each _ 0 bits

  rewritten_at : (i : ℕ) → i < bits_size → i < length bits → get_or (write_bits test bits) i 0 ≡ byte_written test i
  unfolding write_bits
  rewritten_at i l h = get_or_each_0 _ bits i h ∙ rw (lt-leb bits_size i l)

  pub rewritten_past : (i : ℕ) → bits_size ≤ i → i < length bits → get_or (write_bits test bits) i 0 ≡ get_or bits i 0
  unfolding write_bits
  rewritten_past i l h = get_or_each_0 _ bits i h ∙ rw (le-leb bits_size i l)

  pub bit_rewritten : bits_size ≤ length bits → (half p : ℕ) → half < 2 → p < table_size →
      bit_at (write_bits test bits) half p ≡ test half p
  unfolding bit_at
  bit_rewritten long half p h l =
      let i : half * half_size + p / 8 < bits_size = omega arith in
      let of_half : (half * half_size + p / 8) / half_size ≡ half = omega arith in
      let of_place : (half * half_size + p / 8) % half_size * 8 + p % 8 ≡ p = omega arith in
      ap (λ (x : ℕ). bit_of x (p % 8)) (rewritten_at (half * half_size + p / 8) i (omega arith))
      ∙ bit_of_byte _ (p % 8) (omega arith) ∙ rw (of_half, of_place)

-- what two tests that agree write is equal, whatever stood there, and what is written a second time stands alone
module _ (test test' : ℕ → ℕ → Bool)
    (agree : (half p : ℕ) → half < 2 → p < table_size → test half p ≡ test' half p) where
  byte_agree : (i : ℕ) → i < bits_size → byte_written test i ≡ byte_written test' i
  byte_agree i l =
      byte_of_bits_lem _ _ (byte_of_below (λ j. test' (i / half_size) (i % half_size * 8 + j)))
      (λ j b. agree (i / half_size) (i % half_size * 8 + j) (omega arith) (omega arith) ∙ sym (bit_of_byte _ j b))

  pub write_alike : (bits bits' : List ℕ) → length bits ≡ length bits' →
      take bits_size (write_bits test bits) ≡ take bits_size (write_bits test' bits')
  unfolding write_bits
  write_alike bits bits' long =
      take_alike bits_size _ _ bits bits' (rw long) (λ i l. rw (lt-leb bits_size i l) (byte_agree i l))

  pub write_again : (other : ℕ → ℕ → Bool) (bits : List ℕ) →
      write_bits test (write_bits other bits) ≡ write_bits test' bits
  write_again other bits =
      let once = rewritten_length other bits in
      ext_get_or 0 _ _ (rewritten_length test _ ∙ once ∙ sym (rewritten_length test' bits))
      (λ i h.
      let b : i < length bits = omega (arith, once, rewritten_length test (write_bits other bits)) in
      let b' : i < length (write_bits other bits) = omega (arith, once) in
      cases (leb bits_size i)
      (λ e.
      let l = leb-true bits_size i e in
      rewritten_past test _ i l b' ∙ rewritten_past other bits i l b ∙ sym (rewritten_past test' bits i l b))
      (λ e.
      let l = leb-false bits_size i e in
      rewritten_at test _ i l b' ∙ byte_agree i l ∙ sym (rewritten_at test' bits i l b)))

-- a status from its two bits; a done one may have both
status_again : (s : Status) (both : Bool) → (both ≡ true → says_done s ≡ true) →
    bit_status (says_pending s || both) (says_done s) ≡ s
status_again Status.absent true done = absurd (false≢true (done refl))
status_again Status.absent false done = refl
status_again Status.pending true done = refl
status_again Status.pending false done = refl
status_again Status.done true done = refl
status_again Status.done false done = refl

both_again : (s : Status) (both : Bool) → (both ≡ true → says_done s ≡ true) →
    ((says_pending s || both) && says_done s) ≡ both
both_again Status.absent true done = absurd (false≢true (done refl))
both_again Status.absent false done = refl
both_again Status.pending true done = absurd (false≢true (done refl))
both_again Status.pending false done = refl
both_again Status.done true done = refl
both_again Status.done false done = refl

-- a byte of 0, 1 or 2 is that of its status
byte_again : (b : ℕ) → b < 3 → status_byte (byte_status b) ≡ b
byte_again zero l = refl
byte_again (suc zero) l = refl
byte_again (suc (suc zero)) l = refl
byte_again (suc (suc (suc b))) l = absurd (omega arith)

-- a table that is written to say v, with both bits at some of its done places
module _ (both : ℕ → Bool) (v : Statuses) (bits : List ℕ) (long : bits_size ≤ length bits)
    (done : (p : ℕ) → p < table_size → both p ≡ true → is_done_at v p ≡ true) (p : ℕ) (l : p < table_size) where
  pub said_again : bit_statuses (write_bits (saying both v) bits) p ≡ v p
  unfolding bit_statuses
  said_again =
      rw (
        bit_rewritten (saying both v) bits long pending_half p (omega arith) l,
        bit_rewritten (saying both v) bits long done_half p (omega arith) l,
      ) (status_again (v p) (both p) (done p l))

  pub both_kept : has_both (write_bits (saying both v) bits) p ≡ both p
  unfolding has_both
  both_kept =
      rw (
        bit_rewritten (saying both v) bits long pending_half p (omega arith) l,
        bit_rewritten (saying both v) bits long done_half p (omega arith) l,
      ) (both_again (v p) (both p) (done p l))

-- the bytes of a byte table with bytes 0, 1 and 2 alone are read back
pub record Plain (t : List ℕ) : Type 0 where
  pub size : length t ≡ table_size
  pub small : (p : ℕ) → p < table_size → get_or t p 0 < 3

module _ (both : ℕ → Bool) (t bits : List ℕ) (long : bits_size ≤ length bits)
    (done : (p : ℕ) → p < table_size → both p ≡ true → is_done_at (statuses t) p ≡ true) where
  pub bytes_again : Plain t → table_of_bits (write_bits (saying both (statuses t)) bits) ≡ t
  unfolding statuses
  bytes_again plain =
      ext_get_or 0 _ _ (bytes_length _ ∙ sym plain.size)
      (λ p h.
      let l : p < table_size = omega (arith, bytes_length (write_bits (saying both (statuses t)) bits)) in
      byte_at _ p l ∙ ap status_byte (said_again both (statuses t) bits long done p l)
      ∙ byte_again (get_or t p 0) (plain.small p l))
