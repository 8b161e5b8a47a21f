-- Bytes packed into bits: a word gets one bit more, a row is written as two words, and rows whose bytes are all 0 need
-- no writing where no place has a bit. Assumes nothing.
use Rattle.grammar.proofs.Basics.{◌≡◌, refl, ◌∙◌, sym, ap, ap₂, ◌⊎◌, inl, inr, ⊎_elim, true, false, Bool, ◌&&◌, ◌||◌}
use Rattle.grammar.proofs.Basics.{cond, List, ℕ, ◌<◌, ◌≤◌, ◌+◌, ◌*◌, ◌/◌, ◌%◌, ◌-◌, arith, eqb, ltb, get_or, take}
use Rattle.grammar.proofs.Basics.{drop}
use Rattle.grammar.proofs.Basics.{replicate, get_or-take, eqb-true, eqb-false, ne_eqb, lt-ltb, le-ltb, ltb-true}
use Rattle.grammar.proofs.Basics.{ltb-false}
use Rattle.grammar.proofs.Basics.{cases, or-false, or-true, or_assoc, and-true, and-false, and_false_right, same_test}
use Rattle.grammar.proofs.Basics.{eq-eqb}
use Prim.Native.Nat.{◌^◌}
use lib.Bits.{bit_or, or_zero_r}
use lib.ListN.{get_or-replicate}
use lib.Seq.{get_or-drop}
use mir.Val.{bool_byte}
use Rattle.machine.specs.Table.{lent_of, table_size, Status, says_pending, says_done, byte_status, is_pending_lem}
use Rattle.machine.specs.Table.{is_done_lem}
use Rattle.machine.specs.Table.{statuses}
use Rattle.bit_machine.specs.BitTable.{half_size, pending_half, done_half, bit_of, bit_at, bit_status, bit_statuses}
use Rattle.bit_machine.specs.Alike.{Alike}
use Rattle.bit_machine.specs.Inside.Change.{RowWritten}
use Rattle.bit_machine.proofs.BitLaws.{bit_zero}
use Rattle.bit_machine.proofs.BitBytes.{bit_after_set}
use Rattle.packing.specs.Packing.{Says, PackedRows}

-- `word | (bit << j)`
pub bit_with : (word j i : ℕ) (bit : Bool) → j < 32 →
    bit_of (bit_or word (bool_byte bit * 2 ^ j % 2 ^ 32)) i ≡ (bit_of word i || (eqb i j && bit))
bit_with word j i true l =
    bit_after_set 32 word j i l ∙ cases (eqb i j) (λ e. rw (e, or-true)) (λ e. rw (e, or-false))
bit_with word j i false l =
    let none : 0 * 2 ^ j % 2 ^ 32 ≡ 0 = omega arith in
    ap (λ (x : ℕ). bit_of (bit_or word x) i) none ∙ ap (λ (x : ℕ). bit_of x i) (or_zero_r word)
    ∙ sym (ap (λ b. bit_of word i || b) (and-false (eqb i j)) ∙ or-false (bit_of word i))

-- a part that is a stretch of a table
pub part_at : (table : List ℕ) (at end i : ℕ) → i < end - at →
    get_or (take (end - at) (drop at table)) i 0 ≡ get_or table (at + i) 0
part_at table at end i l = get_or-take (end - at) (drop at table) i 0 l ∙ get_or-drop at table i 0

-- what two bits say where they are those of a status
status_again : (s : Status) → bit_status (says_pending s) (says_done s) ≡ s
status_again Status.absent = refl
status_again Status.pending = refl
status_again Status.done = refl

-- more rows count as packed where their bytes are 0; so does another test of the same rows
pub packed_more : {rows : ℕ → Bool} (rows' : ℕ → Bool) {table bits : List ℕ} → PackedRows rows table bits →
    ((p : ℕ) → p < table_size → (rows (p / 32) ≡ rows' (p / 32)) ⊎ (get_or table p 0 ≡ 0)) →
    PackedRows rows' table bits
packed_more {rows} rows' {table} packed same =
    record {
      pending = λ p l. packed.pending p l ∙ either is_pending_lem refl p (same p l);
      done = λ p l. packed.done p l ∙ either is_done_lem refl p (same p l);
    }
  where
    either : (test : ℕ → Bool) → test 0 ≡ false → (p : ℕ) →
        ((rows (p / 32) ≡ rows' (p / 32)) ⊎ (get_or table p 0 ≡ 0)) →
        (rows (p / 32) && test (get_or table p 0)) ≡ (rows' (p / 32) && test (get_or table p 0))
    either test none p h =
        ⊎_elim
        (λ e. ap (λ b. b && test (get_or table p 0)) e)
        (λ z.
        let out : test (get_or table p 0) ≡ false = ap test z ∙ none in
        and_false_right (rows (p / 32)) _ out ∙ sym (and_false_right (rows' (p / 32)) _ out)) h

-- the rows below a number, and one more
pub one_row_more : (r k : ℕ) → (eqb r k || ltb r k) ≡ ltb r (k + 1)
one_row_more r k =
    cases (eqb r k)
    (λ e. let same = eqb-true r k e in rw e (sym (lt-ltb r (k + 1) (omega arith))))
    (λ e.
    let other = eqb-false r k e in
    rw e
    (same_test (ltb r k) (ltb r (k + 1))
    (λ t. lt-ltb r (k + 1) (omega (arith, ltb-true r k t)))
    (λ t. lt-ltb r k (omega (arith, ltb-true r (k + 1) t)))))

-- nothing is packed yet
pub none_packed : (table : List ℕ) → PackedRows (λ r. ltb r 0) table (replicate 16384 0)
unfolding bit_at
none_packed table =
    record {
      pending = λ p l. no_bit pending_half p (omega arith) l ∙ sym (rw (le-ltb (p / 32) 0 (omega arith)));
      done = λ p l. no_bit done_half p (omega arith) l ∙ sym (rw (le-ltb (p / 32) 0 (omega arith)));
    }
  where
    no_bit : (half p : ℕ) → half < 2 → p < table_size →
        bit_of (get_or (replicate 16384 0) (half * half_size + p / 8) 0) (p % 8) ≡ false
    no_bit half p h l =
        rw (get_or-replicate {A = ℕ} 16384 (half * half_size + p / 8) 0 0 (omega arith)) (bit_zero (p % 8))

-- row k is written as two words, one half after the other
place_packed : (test : ℕ → Bool) (rows : ℕ → Bool) (table bits bits' : List ℕ) (k half word p : ℕ) →
    Says test table k word → bit_at bits half p ≡ (rows (p / 32) && test (get_or table p 0)) →
    bit_at bits' half p ≡ cond (eqb (p / 32) k) (bit_of word (p % 32)) (bit_at bits half p) →
    bit_at bits' half p ≡ ((eqb (p / 32) k || rows (p / 32)) && test (get_or table p 0))
place_packed test rows table bits bits' k half word p says before after =
    after
    ∙ cases (eqb (p / 32) k)
    (λ e.
    let row = eqb-true (p / 32) k e in
    let whole : k * 32 + p % 32 ≡ p = omega arith in
    rw e (says (p % 32) (omega arith) ∙ ap (λ (i : ℕ). test (get_or table i 0)) whole))
    (λ e. rw e before)

pub row_packed : {table bits between bits' : List ℕ} {k wp wd : ℕ} → Says is_pending_lem table k wp →
    Says is_done_lem table k wd → RowWritten bits between pending_half k wp → RowWritten between bits' done_half k wd →
    (rows : ℕ → Bool) → PackedRows rows table bits → PackedRows (λ r. eqb r k || rows r) table bits'
row_packed {table} {bits} {between} {bits'} {k} {wp} {wd} pending-says done_says first second rows packed =
    record {
      pending = λ p l.
          place_packed is_pending_lem rows table bits bits' k pending_half wp p pending-says (packed.pending p l)
          (second.bits pending_half p (omega arith) l ∙ first.bits pending_half p (omega arith) l);
      done = λ p l.
          place_packed is_done_lem rows table bits bits' k done_half wd p done_says (packed.done p l)
          (second.bits done_half p (omega arith) l
          ∙ ap (λ b. cond (eqb (p / 32) k) (bit_of wd (p % 32)) b) (first.bits done_half p (omega arith) l));
    }

-- all rows are packed: the bits say what the bytes say
pub packed_alike : {table bits : List ℕ} → PackedRows (λ r. true) table bits → (reasons : List ℕ) →
    Alike (lent_of bits reasons) (lent_of table reasons)
unfolding bit_statuses statuses
packed_alike {table} packed reasons =
    record {
      says = λ p l.
          ap₂ bit_status (packed.pending p l) (packed.done p l) ∙ status_again (byte_status (get_or table p 0));
      reasons = refl;
    }

-- a part that is blank counts as packed
blank_at : (table : List ℕ) (at end : ℕ) → ((i : ℕ) → get_or (take (end - at) (drop at table)) i 0 ≡ 0) →
    (p : ℕ) → at ≤ p → p < end → get_or table p 0 ≡ 0
blank_at table at end blank p l h =
    let there : at + (p - at) ≡ p = omega arith in
    ap (λ (i : ℕ). get_or table i 0) (sym there) ∙ sym (part_at table at end (p - at) (omega arith)) ∙ blank (p - at)

pub blank_packed : {table bits : List ℕ} {rows : ℕ → Bool} (rows' : ℕ → Bool) (at end : ℕ) →
    ((i : ℕ) → get_or (take (end - at) (drop at table)) i 0 ≡ 0) → PackedRows rows table bits →
    ((p : ℕ) → p < table_size → (p < at) ⊎ (end ≤ p) → rows (p / 32) ≡ rows' (p / 32)) → PackedRows rows' table bits
blank_packed {table} rows' at end blank packed same =
    packed_more rows' packed
    (λ p l. cases (ltb p at)
    (λ a. inl (same p l (inl (ltb-true p at a))))
    (λ a. cases (ltb p end)
    (λ b. inr (blank_at table at end blank p (ltb-false p at a) (ltb-true p end b)))
    (λ b. inl (same p l (inr (ltb-false p end b))))))

-- row k itself, and the four rows of a part
pub blank_row : {table bits : List ℕ} (k : ℕ) →
    ((i : ℕ) → get_or (take (k * 32 + 32 - k * 32) (drop (k * 32) table)) i 0 ≡ 0) → (rows : ℕ → Bool) →
    PackedRows rows table bits → PackedRows (λ r. eqb r k || rows r) table bits
blank_row k blank rows packed =
    blank_packed (λ r. eqb r k || rows r) (k * 32) (k * 32 + 32) blank packed
    (λ p l out. let other : p / 32 ≡ k → ⊥ = λ e. ⊎_elim (λ a. omega arith) (λ b. omega arith) out in
    sym (rw (ne_eqb (p / 32) k other)))

pub blank_part : {table bits : List ℕ} (n : ℕ) →
    ((i : ℕ) → get_or (take (n * 128 + 128 - n * 128) (drop (n * 128) table)) i 0 ≡ 0) →
    PackedRows (λ r. ltb r (n * 4)) table bits → PackedRows (λ r. ltb r ((n + 1) * 4)) table bits
blank_part n blank packed =
    blank_packed (λ r. ltb r ((n + 1) * 4)) (n * 128) (n * 128 + 128) blank packed
    (λ p l out. ⊎_elim
    (λ a. lt-ltb (p / 32) (n * 4) (omega arith) ∙ sym (lt-ltb (p / 32) ((n + 1) * 4) (omega arith)))
    (λ b. le-ltb (p / 32) (n * 4) (omega arith) ∙ sym (le-ltb (p / 32) ((n + 1) * 4) (omega arith))) out)

-- the rows of a symbol at the states below a number, and at one more
pub one_state_more : (r q X : ℕ) (other : Bool) → X < 64 →
    (eqb r (q * 64 + X) || ((ltb (r / 64) q && eqb (r % 64) X) || other))
    ≡ ((ltb (r / 64) (q + 1) && eqb (r % 64) X) || other)
one_state_more r q X other l =
    cases (eqb (r % 64) X)
    (λ e.
    let column = eqb-true (r % 64) X e in
    let same : eqb r (q * 64 + X) ≡ eqb (r / 64) q =
    same_test _ _
    (λ t. eq-eqb (r / 64) q (omega (arith, eqb-true r (q * 64 + X) t)))
    (λ t. eq-eqb r (q * 64 + X) (omega (arith, eqb-true (r / 64) q t))) in
    rw (e, same, and-true (ltb (r / 64) q), and-true (ltb (r / 64) (q + 1)))
    (sym (or_assoc (eqb (r / 64) q) (ltb (r / 64) q) other) ∙ ap (λ b. b || other) (one_row_more (r / 64) q)))
    (λ e.
    let column = eqb-false (r % 64) X e in
    let apart : eqb r (q * 64 + X) ≡ false = ne_eqb r (q * 64 + X) (λ t. column (omega arith)) in
    rw (e, apart, and-false (ltb (r / 64) q), and-false (ltb (r / 64) (q + 1))))
