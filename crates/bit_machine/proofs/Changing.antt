-- The two bits of a place, and a place whose bits are changed: what the table then says, and what it keeps. Assumes
-- nothing.
use Rattle.grammar.proofs.Basics.{◌≡◌, refl, ◌∙◌, sym, ap, ap₂, true, false, false≢true, Bool, ◌&&◌, ◌||◌, not, List}
use Rattle.grammar.proofs.Basics.{ℕ, ◌<◌, arith, eqb, length, get_or, set, drop, eq-eqb, ne_eqb, eqb-true, eqb-false}
use Rattle.grammar.proofs.Basics.{cases, and_false_right}
use Rattle.machine.specs.Table.{table_size, Status, says_absent, says_pending, says_done, is_absent, is_pending_lem, is_done_lem}
use Rattle.machine.specs.Table.{status_byte}
use Rattle.bit_machine.specs.BitTable.{bits_size, bit_at, bit_status, bit_statuses, has_both, table_of_bits}
use Rattle.bit_machine.specs.Inside.Change.{BitSet, Kept}
use Rattle.bit_machine.proofs.ByteTables.{byte_done, byte_pending, byte_absent, bytes_set}

-- what two bits say
says_done_lem : (a d : Bool) → says_done (bit_status a d) ≡ d
says_done_lem true true = refl
says_done_lem true false = refl
says_done_lem false true = refl
says_done_lem false false = refl

says_there : (a d : Bool) → not (says_absent (bit_status a d)) ≡ (a || d)
says_there true true = refl
says_there true false = refl
says_there false true = refl
says_there false false = refl

says_pending_lem : (a d : Bool) → says_pending (bit_status a d) ≡ (a && not d)
says_pending_lem true true = refl
says_pending_lem true false = refl
says_pending_lem false true = refl
says_pending_lem false false = refl

module _ (bits : List ℕ) (p : ℕ) (h : p < table_size) where
  pub done_bit : is_done_lem (get_or (table_of_bits bits) p 0) ≡ bit_at bits 1 p
  unfolding bit_statuses
  done_bit = byte_done bits p h ∙ says_done_lem (bit_at bits 0 p) (bit_at bits 1 p)

  pub there_bits : not (is_absent (get_or (table_of_bits bits) p 0)) ≡ (bit_at bits 0 p || bit_at bits 1 p)
  unfolding bit_statuses
  there_bits = ap not (byte_absent bits p h) ∙ says_there (bit_at bits 0 p) (bit_at bits 1 p)

  pub pending_bits : is_pending_lem (get_or (table_of_bits bits) p 0) ≡ (bit_at bits 0 p && not (bit_at bits 1 p))
  unfolding bit_statuses
  pending_bits = byte_pending bits p h ∙ says_pending_lem (bit_at bits 0 p) (bit_at bits 1 p)

  pub not_absent_done : bit_at bits 1 p ≡ true → is_absent (get_or (table_of_bits bits) p 0) ≡ false
  unfolding bit_statuses
  not_absent_done e = byte_absent bits p h ∙ rw e

  pub not_absent_pending : bit_at bits 0 p ≡ true → is_absent (get_or (table_of_bits bits) p 0) ≡ false
  unfolding bit_statuses
  not_absent_pending e = byte_absent bits p h ∙ cases (bit_at bits 1 p) (λ d. rw d) (λ d. rw (d, e))

  pub absent : bit_at bits 0 p ≡ false → bit_at bits 1 p ≡ false → is_absent (get_or (table_of_bits bits) p 0) ≡ true
  unfolding bit_statuses
  absent e f = byte_absent bits p h ∙ rw (e, f)

-- the bits of all other places are as they were
abbrev Elsewhere : (bits bits' : List ℕ) (p : ℕ) → Type 0
Elsewhere bits bits' p = (h i : ℕ) → h < 2 → i < table_size → (i ≡ p → ⊥) → bit_at bits' h i ≡ bit_at bits h i

module _ {bits bits' : List ℕ} {half p : ℕ} {value : Bool} (s : BitSet bits bits' half p value) where
  pub bit_here : half < 2 → p < table_size → bit_at bits' half p ≡ value
  bit_here h l = s.bits half p h l ∙ rw (eq-eqb half half refl, eq-eqb p p refl)

  pub bit_beside : (h : ℕ) → h < 2 → p < table_size → (h ≡ half → ⊥) → bit_at bits' h p ≡ bit_at bits h p
  bit_beside h hl l d = s.bits h p hl l ∙ rw (ne_eqb h half d)

  pub bit_elsewhere : Elsewhere bits bits' p
  bit_elsewhere h i hl l d = s.bits h i hl l ∙ rw (ne_eqb i p d, and_false_right (eqb h half) false refl)

-- a place is changed to say s, with as many of both bits as before, and nothing else
module _ (bits bits' : List ℕ) (p : ℕ) (l : p < table_size) (elsewhere : Elsewhere bits bits' p)
    (long : length bits' ≡ length bits) (rest : drop bits_size bits' ≡ drop bits_size bits) where
  place_says : (s : Status) → bit_status (bit_at bits' 0 p) (bit_at bits' 1 p) ≡ s →
      table_of_bits bits' ≡ set (table_of_bits bits) p (status_byte s)
  unfolding bit_statuses
  place_says s here =
      bytes_set bits bits' p s l here
      (λ i h d. ap₂ bit_status (elsewhere 0 i (omega arith) h d) (elsewhere 1 i (omega arith) h d))

  place_keeps : (bit_at bits' 0 p && bit_at bits' 1 p) ≡ (bit_at bits 0 p && bit_at bits 1 p) → Kept bits bits'
  unfolding has_both
  place_keeps here =
      record {
        long = long;
        rest = rest;
        both = λ i h. cases (eqb i p)
            (λ e. rw (eqb-true i p e) here)
            (λ e. let d = eqb-false i p e in
            ap₂ ◌&&◌ (elsewhere 0 i (omega arith) h d) (elsewhere 1 i (omega arith) h d));
      }

-- a place that is not done becomes pending
pub pending_written : (bits bits' : List ℕ) (p : ℕ) → p < table_size → is_done_lem (get_or (table_of_bits bits) p 0) ≡ false →
    BitSet bits bits' 0 p true → (table_of_bits bits' ≡ set (table_of_bits bits) p 1) × Kept bits bits'
pending_written bits bits' p l e s =
    let done : bit_at bits 1 p ≡ false = sym (done_bit bits p l) ∙ e in
    let done' : bit_at bits' 1 p ≡ false = bit_beside s 1 (omega arith) l (λ z. omega arith) ∙ done in
    let here = bit_here s (omega arith) l in (
      place_says bits bits' p l (bit_elsewhere s) s.long s.rest Status.pending (rw (here, done')),
      place_keeps bits bits' p l (bit_elsewhere s) s.long s.rest
          (rw (
            done',
            done,
            and_false_right (bit_at bits' 0 p) false refl,
            and_false_right
                (bit_at bits 0 p) false refl,
          )),
    )

-- a pending place becomes done, in two writes
pub done_written : (bits bits' bits'' : List ℕ) (p : ℕ) → p < table_size → is_pending_lem (get_or (table_of_bits bits) p 0) ≡ true →
    BitSet bits bits' 0 p false → BitSet bits' bits'' 1 p true →
    (table_of_bits bits'' ≡ set (table_of_bits bits) p 2) × Kept bits bits''
done_written bits bits' bits'' p l e s t =
    let done : bit_at bits 1 p ≡ false = not_done (bit_at bits 0 p) (bit_at bits 1 p) (sym (pending_bits bits p l) ∙ e) in
    let pending : bit_at bits'' 0 p ≡ false = bit_beside t 0 (omega arith) l (λ z. omega arith) ∙ bit_here s
    (omega arith) l in
    let here = bit_here t (omega arith) l in
    let elsewhere : Elsewhere bits bits'' p = λ h i hl il d. bit_elsewhere t h i hl il d
    ∙ bit_elsewhere s h i hl il d in
    let long = t.long ∙ s.long in
    let rest = t.rest ∙ s.rest in (
      place_says bits bits'' p l elsewhere long rest Status.done (rw here),
      place_keeps bits bits'' p l elsewhere long rest
          (rw (pending, done, and_false_right (bit_at bits 0 p) false refl)),
    )
  where
    not_done : (a d : Bool) → (a && not d) ≡ true → d ≡ false
    not_done a true e = absurd (false≢true (sym (and_false_right a false refl) ∙ e))
    not_done a false e = refl
