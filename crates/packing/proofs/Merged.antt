-- Bits merged into bytes: the ones of a word are written one by one; a byte that is written is 1 or 2 where its place
-- says something new, and what is not written says what it said. Assumes nothing.
use Rattle.grammar.proofs.Basics.{◌≡◌, refl, ◌∙◌, sym, ap, ap₂, true, false, false≢true, Bool, ◌&&◌, not, cond, List}
use Rattle.grammar.proofs.Basics.{ℕ}
use Rattle.std.specs.Prelude.{slice_range}
use Rattle.grammar.proofs.Basics.{◌<◌, ◌≤◌, ◌+◌, ◌*◌, ◌/◌, ◌%◌, ◌-◌, arith, eqb, ltb, leb, length, get_or, set}
use Rattle.grammar.proofs.Basics.{length-set, get_or-set_same, get_or-set_other, eqb-true, eqb-false, eq-eqb, ne_eqb}
use Rattle.grammar.proofs.Basics.{ltb-true}
use Rattle.grammar.proofs.Basics.{ltb-false, leb-true, leb-false, cases, and-false, and-true}
use lib.Bits.{bit_and}
use Rattle.machine.specs.Table.{table_size, Status, byte_status, says_absent, says_pending, says_done, is_pending_lem}
use Rattle.machine.specs.Table.{is_done_lem, statuses}
use Rattle.machine.specs.Theorems.Bytes.{byte_for, rewritten}
use Rattle.machine.proofs.Tables.Each.{each_is}
use Rattle.bit_machine.specs.BitTable.{half_size, pending_half, done_half, bit_of, bit_at, bit_status, bit_statuses}
use Rattle.bit_machine.specs.BitTable.{table_of_bits}
use Rattle.bit_machine.specs.Inside.Word.{First, WithoutFirst}
use Rattle.bit_machine.proofs.BitLaws.{bit_and_lem, bit_not, bit_zero}
use Rattle.bit_machine.proofs.ByteTables.{byte_pending, byte_done}
use Rattle.packing.specs.Merging.{OnesWritten, Merges, RowsMerged, PartSame}
use Rattle.packing.proofs.Packed.{part_at}

-- the ones of a word are written but for those of the rest
pub record Writing (before after : List ℕ) (k ones rest byte : ℕ) : Type 0 where
  pub long : length after ≡ length before
  pub bytes : (p : ℕ) →
      cond (eqb (p / 32) k && bit_of rest (p % 32)) byte (get_or after p 0)
      ≡ cond (eqb (p / 32) k && bit_of ones (p % 32)) byte (get_or before p 0)

-- one more
pub writing_goes : {l l' : List ℕ} {k ones rest rest' byte j : ℕ} → Writing l l' k ones rest byte → First rest j →
    1 ≤ rest → k * 32 + j < length l' → WithoutFirst rest rest' →
    Writing l (set l' (k * 32 + j) byte) k ones rest' byte
writing_goes {l} {l'} {k} {ones} {rest} {rest'} {byte} {j} w f some within less =
    record {
      long = length-set l' (k * 32 + j) byte ∙ w.long;
      bytes = λ p. one_more p ∙ w.bytes p;
    }
  where
    j_below : j < 32
    j_below = f.found some

    one_more : (p : ℕ) →
        cond (eqb (p / 32) k && bit_of rest' (p % 32)) byte (get_or (set l' (k * 32 + j) byte) p 0)
        ≡ cond (eqb (p / 32) k && bit_of rest (p % 32)) byte (get_or l' p 0)
    one_more p =
        cases (eqb p (k * 32 + j))
        (λ e.
        let here : p ≡ k * 32 + j = eqb-true p (k * 32 + j) e in
        let row : p / 32 ≡ k = omega (arith, j_below) in
        let at : p % 32 ≡ j = omega (arith, j_below) in
        rw (eq-eqb (p / 32) k row, at, f.one j_below, here, get_or-set_same l' (k * 32 + j) byte 0 within)
        (either (bit_of rest' j) byte))
        (λ e.
        let other = eqb-false p (k * 32 + j) e in
        rw (get_or-set_other l' (k * 32 + j) p byte 0 other)
        (cases (eqb (p / 32) k)
        (λ r.
        let row = eqb-true (p / 32) k r in
        let apart : eqb (p % 32) j ≡ false = not_same (p % 32) (λ z. other (omega arith)) in
        rw (r, less.bits j (p % 32) f (omega arith), apart, and-true (bit_of rest (p % 32))))
        (λ r. rw r)))
      where
        either : (b : Bool) (x : ℕ) → cond b x x ≡ x
        either true x = refl
        either false x = refl

        not_same : (i : ℕ) → (i ≡ j → ⊥) → eqb i j ≡ false
        not_same i d = cases (eqb i j) (λ e. absurd (d (eqb-true i j e))) (λ e. e)

pub writing_ends : {l l' : List ℕ} {k ones rest byte : ℕ} → Writing l l' k ones rest byte → rest ≡ 0 →
    OnesWritten l l' k ones byte
writing_ends {l} {l'} {k} {rest = rest} {byte} w z =
    record { long = w.long; bytes = λ p. sym (none p) ∙ w.bytes p }
  where
    none : (p : ℕ) → cond (eqb (p / 32) k && bit_of rest (p % 32)) byte (get_or l' p 0) ≡ get_or l' p 0
    none p = rw (z, bit_zero (p % 32), and-false (eqb (p / 32) k))

-- a byte by what its place said and says, where it does not become absent
merged_byte : (s' s : Status) (b : ℕ) → byte_status b ≡ s → (says_absent s' ≡ true → says_absent s ≡ true) →
    cond (says_done s' && not (says_done s)) 2 (cond (says_pending s' && not (says_pending s)) 1 b) ≡ byte_for s' b
merged_byte Status.absent Status.absent b e there = rw e
merged_byte Status.absent Status.pending b e there = absurd (false≢true (there refl))
merged_byte Status.absent Status.done b e there = absurd (false≢true (there refl))
merged_byte Status.pending Status.absent b e there = rw e
merged_byte Status.pending Status.pending b e there = rw e
merged_byte Status.pending Status.done b e there = rw e
merged_byte Status.done Status.absent b e there = rw e
merged_byte Status.done Status.pending b e there = rw e
merged_byte Status.done Status.done b e there = rw e

same_byte : (s : Status) (b : ℕ) → byte_status b ≡ s → b ≡ byte_for s b
same_byte Status.absent b e = rw e
same_byte Status.pending b e = rw e
same_byte Status.done b e = rw e

-- `a & !b`, bit by bit
pub bit_new : (a b j : ℕ) → b < 4294967296 → j < 32 →
    bit_of (bit_and a (4294967295 - b)) j ≡ (bit_of a j && not (bit_of b j))
bit_new a b j l h = bit_and_lem a (4294967295 - b) j ∙ ap (λ x. bit_of a j && x) (bit_not 32 b j l h)

-- row k is merged after the rows before it
module _ (old new before table table1 table2 : List ℕ) (k wp wp' wd wd' : ℕ)
    (pending : (j : ℕ) → j < 32 → bit_of wp j ≡ is_pending_lem (get_or (table_of_bits new) (k * 32 + j) 0))
    (pending' : (j : ℕ) → j < 32 → bit_of wp' j ≡ is_pending_lem (get_or (table_of_bits old) (k * 32 + j) 0))
    (done : (j : ℕ) → j < 32 → bit_of wd j ≡ is_done_lem (get_or (table_of_bits new) (k * 32 + j) 0))
    (done' : (j : ℕ) → j < 32 → bit_of wd' j ≡ is_done_lem (get_or (table_of_bits old) (k * 32 + j) 0))
    (kl : k < 2048) (wpl : wp' < 4294967296) (wdl : wd' < 4294967296)
    (first : OnesWritten table table1 k (bit_and wp (4294967295 - wp')) 1)
    (second : OnesWritten table1 table2 k (bit_and wd (4294967295 - wd')) 2) where
  elsewhere : (p : ℕ) → (p / 32 ≡ k → ⊥) → get_or table2 p 0 ≡ get_or table p 0
  elsewhere p d =
      let out : eqb (p / 32) k ≡ false = ne_eqb (p / 32) k d in
      second.bytes p ∙ rw out (first.bytes p ∙ rw out)

  -- a new bit of a place in the row
  new_pending : (p : ℕ) → p < table_size → p / 32 ≡ k →
      bit_of (bit_and wp (4294967295 - wp')) (p % 32)
      ≡ (says_pending (bit_statuses new p) && not (says_pending (bit_statuses old p)))
  new_pending p l row =
      let at : k * 32 + p % 32 ≡ p = omega arith in
      let now : bit_of wp (p % 32) ≡ says_pending (bit_statuses new p) =
      pending (p % 32) (omega arith) ∙ rw at (byte_pending new p l) in
      let was : bit_of wp' (p % 32) ≡ says_pending (bit_statuses old p) =
      pending' (p % 32) (omega arith) ∙ rw at (byte_pending old p l) in
      bit_new wp wp' (p % 32) wpl (omega arith) ∙ rw (now, was)

  new_done : (p : ℕ) → p < table_size → p / 32 ≡ k →
      bit_of (bit_and wd (4294967295 - wd')) (p % 32)
      ≡ (says_done (bit_statuses new p) && not (says_done (bit_statuses old p)))
  new_done p l row =
      let at : k * 32 + p % 32 ≡ p = omega arith in
      let now : bit_of wd (p % 32) ≡ says_done (bit_statuses new p) =
      done (p % 32) (omega arith) ∙ rw at (byte_done new p l) in
      let was : bit_of wd' (p % 32) ≡ says_done (bit_statuses old p) =
      done' (p % 32) (omega arith) ∙ rw at (byte_done old p l) in
      bit_new wd wd' (p % 32) wdl (omega arith) ∙ rw (now, was)

  here : Merges old new before → (p : ℕ) → p < table_size → p / 32 ≡ k → get_or table p 0 ≡ get_or before p 0 →
      get_or table2 p 0 ≡ byte_for (bit_statuses new p) (get_or before p 0)
  unfolding statuses
  here merges p l row was =
      let in_row = eq-eqb (p / 32) k row in
      second.bytes p ∙ rw (in_row, new_done p l row)
      (ap (λ (b : ℕ). cond (says_done (bit_statuses new p) && not (says_done (bit_statuses old p))) 2 b)
      (first.bytes p ∙ rw (in_row, new_pending p l row, was))
      ∙ merged_byte (bit_statuses new p) (bit_statuses old p) (get_or before p 0) (sym (merges.says p l))
      (merges.there p l))

  pub row_merged : Merges old new before → RowsMerged new k before table → RowsMerged new (k + 1) before table2
  row_merged merges rows =
      record {
        long = second.long ∙ first.long ∙ rows.long;
        bytes = λ p l. cases (eqb (p / 32) k)
            (λ e. let row = eqb-true (p / 32) k e in here merges p (omega arith) row (rows.rest p (omega arith)))
            (λ e. let d = eqb-false (p / 32) k e in elsewhere p d ∙ rows.bytes p (omega arith));
        rest = λ p l. elsewhere p (λ e. omega arith) ∙ rows.rest p (omega arith);
      }

-- a byte of a part
byte_of_part : (bits : List ℕ) (at i : ℕ) → i < 128 → get_or (slice_range bits at (at + 128)) i 0 ≡ get_or bits (at + i) 0
byte_of_part bits at i l = part_at bits at (at + 128) i (omega arith)

-- the halves of a part are equal, byte by byte
pub part_same : (old new pending pending' done done' : List ℕ) (n : ℕ) →
    pending ≡ slice_range old (pending_half * half_size + n * 128) (pending_half * half_size + n * 128 + 128) →
    pending' ≡ slice_range new (pending_half * half_size + n * 128) (pending_half * half_size + n * 128 + 128) →
    done ≡ slice_range old (done_half * half_size + n * 128) (done_half * half_size + n * 128 + 128) →
    done' ≡ slice_range new (done_half * half_size + n * 128) (done_half * half_size + n * 128 + 128) →
    ((i : ℕ) → i < 128 → get_or pending i 0 ≡ get_or pending' i 0) →
    ((i : ℕ) → i < 128 → get_or done i 0 ≡ get_or done' i 0) → PartSame old new n
unfolding bit_statuses bit_at
part_same old new pending pending' done done' n e1 e2 e3 e4 first second p l e =
    let i : p / 8 % 128 < 128 = omega arith in
    ap₂ (λ (a b : ℕ). bit_status (bit_of a (p % 8)) (bit_of b (p % 8)))
    (same pending_half pending pending' e1 e2 i (first (p / 8 % 128) i))
    (same done_half done done' e3 e4 i (second (p / 8 % 128) i))
  where
    same : (half : ℕ) (part part' : List ℕ) →
        part ≡ slice_range old (half * half_size + n * 128) (half * half_size + n * 128 + 128) →
        part' ≡ slice_range new (half * half_size + n * 128) (half * half_size + n * 128 + 128) → p / 8 % 128 < 128 →
        get_or part (p / 8 % 128) 0 ≡ get_or part' (p / 8 % 128) 0 →
        get_or new (half * half_size + p / 8) 0 ≡ get_or old (half * half_size + p / 8) 0
    same half part part' is is' i equal =
        let at : half * half_size + p / 8 ≡ half * half_size + n * 128 + p / 8 % 128 = omega arith in
        rw at (sym (byte_of_part new (half * half_size + n * 128) (p / 8 % 128) i)
        ∙ ap (λ (bs : List ℕ). get_or bs (p / 8 % 128) 0) (sym is') ∙ sym equal
        ∙ ap (λ (bs : List ℕ). get_or bs (p / 8 % 128) 0) is
        ∙ byte_of_part old (half * half_size + n * 128) (p / 8 % 128) i)

-- a part that is the same is merged as it stands
pub part_merged : {old new before table : List ℕ} (n : ℕ) → n < 64 → PartSame old new n → Merges old new before →
    RowsMerged new (n * 32) before table → RowsMerged new ((n + 1) * 32) before table
unfolding statuses
part_merged {old} {new} {before} n nl same merges rows =
    record {
      long = rows.long;
      bytes = λ p l. cases (ltb p (n * 32 * 32))
          (λ e. rows.bytes p (ltb-true p (n * 32 * 32) e))
          (λ e.
          let past = ltb-false p (n * 32 * 32) e in
          rows.rest p past
          ∙ same_byte (bit_statuses new p) (get_or before p 0)
          (sym (same p (omega arith) (omega arith) ∙ merges.says p (omega arith))));
      rest = λ p l. rows.rest p (omega arith);
    }

-- no row is merged yet, and all are
pub none_merged : (new table : List ℕ) → RowsMerged new 0 table table
none_merged new table = record { long = refl; bytes = λ p l. absurd (omega arith); rest = λ p l. refl }

pub all_merged : {new before after : List ℕ} → RowsMerged new 2048 before after →
    after ≡ rewritten (bit_statuses new) before
unfolding rewritten
all_merged {new} {before} {after} rows =
    sym
    (each_is _ before after (sym rows.long)
    (λ p h. cases (leb table_size p)
    (λ e. rw e (sym (rows.rest p (leb-true table_size p e))))
    (λ e. rw e (sym (rows.bytes p (leb-false table_size p e))))))
