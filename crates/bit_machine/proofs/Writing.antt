-- A bit table is the one that `write_bits` writes of what its bytes say and of the places with both bits: byte by byte,
-- and of a byte bit by bit. Assumes nothing.
use Rattle.grammar.proofs.Basics.{◌≡◌, refl, ◌∙◌, sym, ap, ap₂, true, false, Bool, ◌&&◌, ◌||◌, List, ℕ, ◌<◌, ◌+◌}
use Rattle.grammar.proofs.Basics.{◌*◌, ◌/◌, ◌%◌, arith, eqb, leb, length, get_or, drop, leb-true, leb-false, cases}
use Rattle.grammar.proofs.Basics.{eqb-true, eqb-false}
use Rattle.machine.specs.Table.{table_size, says_pending, says_done, statuses}
use Rattle.machine.proofs.Tables.Each.{each_is, rest_at}
use Rattle.bit_machine.specs.BitTable.{bits_size, half_size, pending_half, done_half, bit_of, bit_at, bit_status, bit_statuses}
use Rattle.bit_machine.specs.BitTable.{has_both, write_bits, saying, table_of_bits}
use Rattle.bit_machine.proofs.BitLaws.{byte_of_bits_lem}
use Rattle.bit_machine.proofs.ByteTables.{bytes_say}

-- the two bits of a place, of what they say and whether both are there
pending_again : (pending done : Bool) → (says_pending (bit_status pending done) || (pending && done)) ≡ pending
pending_again true true = refl
pending_again true false = refl
pending_again false true = refl
pending_again false false = refl

done_again : (pending done : Bool) → says_done (bit_status pending done) ≡ done
done_again true true = refl
done_again true false = refl
done_again false true = refl
done_again false false = refl

module _ (both : ℕ → Bool) (bits : List ℕ) (same : (p : ℕ) → p < table_size → has_both bits p ≡ both p) where
  -- what is written in a half is the bit that is there
  bit_said : (half p : ℕ) → half < 2 → p < table_size →
      saying both (statuses (table_of_bits bits)) half p ≡ bit_at bits half p
  unfolding bit_statuses has_both
  bit_said half p h l =
      cases (eqb half pending_half)
      (λ e.
      rw (eqb-true half pending_half e)
      (ap₂ ◌||◌ (ap says_pending (bytes_say bits p l)) (sym (same p l))
      ∙ pending_again (bit_at bits pending_half p) (bit_at bits done_half p)))
      (λ e.
      let one : half ≡ done_half = omega (arith, eqb-false half pending_half e) in
      rw one
      (ap says_done (bytes_say bits p l) ∙ done_again (bit_at bits pending_half p) (bit_at bits done_half p)))

  -- a byte of the halves
  byte_said : (i j : ℕ) → i < bits_size → j < 8 →
      saying both (statuses (table_of_bits bits)) (i / half_size) (i % half_size * 8 + j) ≡ bit_of (get_or bits i 0) j
  unfolding bit_at
  byte_said i j h l =
      let at : i / half_size * half_size + (i % half_size * 8 + j) / 8 ≡ i = omega arith in
      let bit : (i % half_size * 8 + j) % 8 ≡ j = omega arith in
      bit_said (i / half_size) (i % half_size * 8 + j) (omega arith) (omega arith) ∙ rw (at, bit)

pub written : (both : ℕ → Bool) (bits bits' t : List ℕ) → length bits' ≡ length bits →
    drop bits_size bits' ≡ drop bits_size bits → ((i : ℕ) → i < length bits' → get_or bits' i 0 < 256) →
    table_of_bits bits' ≡ t → ((p : ℕ) → p < table_size → has_both bits' p ≡ both p) →
    bits' ≡ write_bits (saying both (statuses t)) bits
unfolding write_bits
written both bits bits' t long rest below says same =
    rw (← says)
    (sym
    (each_is _ bits bits' (sym long)
    (λ i h. cases (leb bits_size i)
    (λ e. rw e (sym (rest_at bits_size bits bits' rest i (leb-true bits_size i e))))
    (λ e.
    let l = leb-false bits_size i e in
    rw e
    (byte_of_bits_lem (get_or bits' i 0) _ (below i (omega arith)) (λ j b. byte_said both bits' same i j l b))))))
