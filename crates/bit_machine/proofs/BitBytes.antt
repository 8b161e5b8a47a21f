-- Bits in bytes and words: one bit set or cleared changes just one place's bit, and four bytes make the word of a row.
-- Assumes nothing.
use Rattle.grammar.proofs.Basics.{◌≡◌, refl, ◌∙◌, sym, ap, ap₂, true, false, Bool, ◌&&◌, ◌||◌, not, cond, List, ℕ, ◌<◌}
use Rattle.grammar.proofs.Basics.{◌≤◌}
use Rattle.grammar.proofs.Basics.{◌+◌, suc, zero, ◌-◌, ◌*◌, ◌/◌, ◌%◌, arith, eqb, ltb, length, get_or, set, drop}
use Rattle.grammar.proofs.Basics.{length-set}
use Rattle.grammar.proofs.Basics.{get_or-set_same, get_or-set_other, eqb-true, eqb-false, eq-eqb, ltb-true}
use Rattle.grammar.proofs.Basics.{cases, same_test, not_true_false, and_both, and_left, and_right, ltb-false}
use Rattle.grammar.proofs.Basics.{true_and_false}
use Prim.Native.Nat.{◌^◌}
use native.Mathlib.Nat.{one-mul, div-one}
use lib.Bits.{bit_and, bit_or, and_mask, or_shifted_r}
use lib.Pow.{shl_exact, pow-lt}
use lib.Seq.{drop-set-lt}
use Rattle.machine.specs.Table.{table_size}
use Rattle.bit_machine.specs.BitTable.{bits_size, half_size, bit_of, bit_at}
use Rattle.bit_machine.specs.Inside.Change.{RowWritten, BitSet}
use Rattle.bit_machine.proofs.BitLaws.{bit_and_lem, bit_or_lem, bit_not, bit_power, bit_low, bit_high, bit_shifted}

-- the test `(n >> j) & 1 == 1`
pub bit_test : (n j : ℕ) → eqb (bit_and (n / 2 ^ j) 1) 1 ≡ bit_of n j
unfolding bit_of
bit_test n j = ap (λ (x : ℕ). eqb x 1) (and_mask (n / 2 ^ j) 1)

-- `1 << j` in a word of w bits
pub one_shifted : (w j : ℕ) → j < w → 1 * 2 ^ j % 2 ^ w ≡ 2 ^ j
one_shifted w j l = shl_exact 1 j w (omega arith) (omega arith) ∙ one-mul (2 ^ j)

-- a number with one bit set, and with one bit cleared
set_bit_lem : (b e : Bool) → (b || e) ≡ cond e true b
set_bit_lem true true = refl
set_bit_lem true false = refl
set_bit_lem false true = refl
set_bit_lem false false = refl

cleared_bit : (b e : Bool) → (b && not e) ≡ cond e false b
cleared_bit true true = refl
cleared_bit true false = refl
cleared_bit false true = refl
cleared_bit false false = refl

pub bit_after_set : (w n j i : ℕ) → j < w →
    bit_of (bit_or n (1 * 2 ^ j % 2 ^ w)) i ≡ cond (eqb i j) true (bit_of n i)
bit_after_set w n j i l =
    ap (λ (x : ℕ). bit_of (bit_or n x) i) (one_shifted w j l) ∙ bit_or_lem n (2 ^ j) i
    ∙ ap (λ b. bit_of n i || b) (bit_power j i) ∙ set_bit_lem (bit_of n i) (eqb i j)

pub bit_after_clear : (w n j i : ℕ) → j < w → i < w →
    bit_of (bit_and n (2 ^ w - 1 - 1 * 2 ^ j % 2 ^ w)) i ≡ cond (eqb i j) false (bit_of n i)
bit_after_clear w n j i l m =
    ap (λ (x : ℕ). bit_of (bit_and n (2 ^ w - 1 - x)) i) (one_shifted w j l) ∙ bit_and_lem n (2 ^ w - 1 - 2 ^ j) i
    ∙ ap (λ b. bit_of n i && b) (bit_not w (2 ^ j) i (pow-lt l) m ∙ ap not (bit_power j i))
    ∙ cleared_bit (bit_of n i) (eqb i j)

-- a byte of a word, by its bits
byte_of_word : (word c j : ℕ) → j < 8 → bit_of (word / 2 ^ (8 * c) % 256) j ≡ bit_of word (8 * c + j)
byte_of_word word c j l =
    sym (bit_low 8 (word / 2 ^ (8 * c) % 256) (word / 2 ^ (8 * c) / 256) j (omega arith) l)
    ∙ ap (λ (x : ℕ). bit_of x j) (omega arith)
    ∙ bit_shifted word (8 * c) j

-- four bytes written from a place on are the bytes of a word
pub record FourWritten (before after : List ℕ) (at word : ℕ) : Type 0 where
  pub long : length after ≡ length before
  pub rest : drop bits_size after ≡ drop bits_size before
  pub bytes : (c : ℕ) → c < 4 → get_or after (at + c) 0 ≡ word / 2 ^ (8 * c) % 256
  pub others : (i : ℕ) → (at ≤ i → at + 4 ≤ i) → get_or after i 0 ≡ get_or before i 0

module _ (l : List ℕ) (at word b c d e : ℕ) (within : at + 4 ≤ bits_size) (long : bits_size ≤ length l)
    (eb : b ≡ word % 256) (ec : c ≡ word / 2 ^ 8 % 256) (ed : d ≡ word / 2 ^ 16 % 256)
    (ee : e ≡ word / 2 ^ 24 % 256) where
  abbrev first : List ℕ
  first = set l at b

  abbrev second : List ℕ
  second = set first (at + 1) c

  abbrev third : List ℕ
  third = set second (at + 2) d

  before_last : (i : ℕ) → i < at + 3 → get_or (set third (at + 3) e) i 0 ≡ get_or third i 0
  before_last i h = get_or-set_other third (at + 3) i e 0 (λ z. omega arith)

  byte_written_lem : (n : ℕ) → n < 4 → get_or (set third (at + 3) e) (at + n) 0 ≡ word / 2 ^ (8 * n) % 256
  byte_written_lem zero h =
      let here : at + 0 ≡ at = omega arith in
      rw here
      (before_last at (omega arith) ∙ get_or-set_other second (at + 2) at d 0 (λ z. omega arith)
      ∙ get_or-set_other first (at + 1) at c 0 (λ z. omega arith) ∙ get_or-set_same l at b 0 (omega arith) ∙ eb
      ∙ ap (λ (x : ℕ). x % 256) (sym (div-one word)))
  byte_written_lem (suc zero) h =
      before_last (at + 1) (omega arith) ∙ get_or-set_other second (at + 2) (at + 1) d 0 (λ z. omega arith)
      ∙ get_or-set_same first (at + 1) c 0 (omega (arith, length-set l at b)) ∙ ec
  byte_written_lem (suc (suc zero)) h =
      before_last (at + 2) (omega arith)
      ∙ get_or-set_same second (at + 2) d 0 (omega (arith, length-set l at b, length-set first (at + 1) c)) ∙ ed
  byte_written_lem (suc (suc (suc zero))) h =
      get_or-set_same third (at + 3) e 0
      (omega (arith, length-set l at b, length-set first (at + 1) c, length-set second (at + 2) d))
      ∙ ee
  byte_written_lem (suc (suc (suc (suc n)))) h = absurd (omega arith)

  pub four_written : FourWritten l (set third (at + 3) e) at word
  four_written =
      record {
        long = simp length-set;
        rest =
            drop-set-lt bits_size third (at + 3) e (omega arith) ∙ drop-set-lt bits_size second (at + 2) d (omega arith)
            ∙ drop-set-lt bits_size first (at + 1) c (omega arith) ∙ drop-set-lt bits_size l at b (omega arith);
        bytes = byte_written_lem;
        others = λ i h.
            get_or-set_other third (at + 3) i e 0 (λ z. omega (arith, h (omega arith)))
            ∙ get_or-set_other second (at + 2) i d 0 (λ z. omega (arith, h (omega arith)))
            ∙ get_or-set_other first (at + 1) i c 0 (λ z. omega (arith, h (omega arith)))
            ∙ get_or-set_other l at i b 0 (λ z. omega (arith, h (omega arith)));
      }

-- they are a row
module _ {bits bits' : List ℕ} {half k word : ℕ} (f : FourWritten bits bits' (half * half_size + k * 4) word) where
  pub row_written : k < 2048 → RowWritten bits bits' half k word
  unfolding bit_at
  row_written kl =
      record {
        long = f.long;
        rest = f.rest;
        bits = λ h p hl pl. cases (eqb h half && eqb (p / 32) k)
            (λ e.
            let hh : h ≡ half = eqb-true h half (and_left (eqb h half) _ e) in
            let row : p / 32 ≡ k = eqb-true (p / 32) k (and_right (eqb h half) _ e) in
            let at : h * half_size + p / 8 ≡ half * half_size + k * 4 + p / 8 % 4 = omega arith in
            let j : 8 * (p / 8 % 4) + p % 8 ≡ p % 32 = omega arith in
            rw (e, at, f.bytes (p / 8 % 4) (omega arith)) (byte_of_word word (p / 8 % 4) (p % 8) (omega arith)
            ∙ rw j))
            (λ e.
            let other : h ≡ half → p / 32 ≡ k → ⊥ = λ hh row. true_and_false
            (and_both (eqb h half) (eqb (p / 32) k) (eq-eqb h half hh) (eq-eqb (p / 32) k row)) e in
            rw e (ap (λ (x : ℕ). bit_of x (p % 8)) (f.others (h * half_size + p / 8) (λ l. past h p hl pl other l))));
      }
    where
      past : (h p : ℕ) → h < 2 → p < table_size → (h ≡ half → p / 32 ≡ k → ⊥) →
          half * half_size + k * 4 ≤ h * half_size + p / 8 → half * half_size + k * 4 + 4 ≤ h * half_size + p / 8
      past h p hl pl other l =
          cases (eqb h half)
          (λ e.
          let hh = eqb-true h half e in
          let row : p / 32 ≡ k → ⊥ = other hh in
          omega (arith, row))
          (λ e. let d = eqb-false h half e in omega arith)

-- a row that is written with one bit changed is a table that differs in one bit
pub row_bit_set : (word : ℕ) {bits bits' : List ℕ} {half place word' : ℕ} {value : Bool} →
    ((j : ℕ) → j < 32 → bit_of word j ≡ bit_at bits half (place / 32 * 32 + j)) →
    ((j : ℕ) → j < 32 → bit_of word' j ≡ cond (eqb j (place % 32)) value (bit_of word j)) →
    RowWritten bits bits' half (place / 32) word' → BitSet bits bits' half place value
row_bit_set word {bits} {bits'} {half} {place} {word'} {value} old new w =
    record { long = w.long; rest = w.rest; bits = λ h p hl pl. w.bits h p hl pl ∙ one h p }
  where
    one : (h p : ℕ) →
        cond (eqb h half && eqb (p / 32) (place / 32)) (bit_of word' (p % 32)) (bit_at bits h p)
        ≡ cond (eqb h half && eqb p place) value (bit_at bits h p)
    one h p =
        cases (eqb h half && eqb (p / 32) (place / 32))
        (λ e.
        let hh : h ≡ half = eqb-true h half (and_left (eqb h half) _ e) in
        let row : p / 32 ≡ place / 32 = eqb-true (p / 32) (place / 32) (and_right (eqb h half) _ e) in
        let whole : place / 32 * 32 + p % 32 ≡ p = omega arith in
        let same : eqb (p % 32) (place % 32) ≡ (eqb h half && eqb p place) =
        same_test (eqb (p % 32) (place % 32)) (eqb h half && eqb p place)
        (λ f. and_both (eqb h half) (eqb p place) (eq-eqb h half hh)
        (eq-eqb p place (omega (arith, eqb-true (p % 32) (place % 32) f))))
        (λ f. eq-eqb (p % 32) (place % 32) (omega (
          arith,
          eqb-true p place (and_right (eqb h half)
              (eqb p place) f),
        ))) in
        rw e
        (new (p % 32) (omega arith)
        ∙ ap₂ (λ t b. cond t value b) same (old (p % 32) (omega arith) ∙ rw (whole, hh))))
        (λ e.
        let other : (eqb h half && eqb p place) ≡ false = not_true_false (eqb h half && eqb p place)
        (λ f.
        let pp : p ≡ place = eqb-true p place (and_right (eqb h half) (eqb p place) f) in
        true_and_false
        (and_both (eqb h half) (eqb (p / 32) (place / 32)) (and_left (eqb h half) (eqb p place) f)
        (eq-eqb (p / 32) (place / 32) (omega arith)))
        e) in
        rw (e, other))

-- `low | (high << k)` in a word of 32 bits, where nothing is shifted out
joined : (k m low high : ℕ) → low < 2 ^ k → high < 2 ^ m → m + k ≤ 32 →
    bit_or low (high * 2 ^ k % 2 ^ 32) ≡ high * 2 ^ k + low
joined k m low high l h fits = rw (shl_exact m k 32 h fits) (or_shifted_r high k low l)

-- the word of four bytes: the first holds bits 0 to 7
module _ (byte : ℕ → ℕ) (a b c d : ℕ) (bytes : (i : ℕ) → byte i < 256)
    (ea : a ≡ byte 0) (eb : b ≡ byte 1) (ec : c ≡ byte 2) (ed : d ≡ byte 3) where
  word_is : bit_or (bit_or a (b * 256 % 4294967296)) (bit_or c (d * 256 % 4294967296) * 65536 % 4294967296)
      ≡ (d * 256 + c) * 65536 + (b * 256 + a)
  word_is =
      let la : a < 256 = omega (arith, bytes 0) in
      let lb : b < 256 = omega (arith, bytes 1) in
      let lc : c < 256 = omega (arith, bytes 2) in
      let ld : d < 256 = omega (arith, bytes 3) in
      ap₂ (λ (x y : ℕ). bit_or x (y * 65536 % 4294967296))
      (joined 8 8 a b la lb (omega arith)) (joined 8 8 c d lc ld (omega arith))
      ∙ joined 16 16 (b * 256 + a) (d * 256 + c) (omega arith) (omega arith) (omega arith)

  in_byte : (j n i x : ℕ) → x ≡ byte n → j / 8 ≡ n → j % 8 ≡ i → bit_of x i ≡ bit_of (byte (j / 8)) (j % 8)
  in_byte j n i x e f g = rw (e, f, g)

  pub word_bit : (j : ℕ) → j < 32 →
      bit_of (bit_or (bit_or a (b * 256 % 4294967296)) (bit_or c (d * 256 % 4294967296) * 65536 % 4294967296)) j
      ≡ bit_of (byte (j / 8)) (j % 8)
  word_bit j l =
      let la : a < 256 = omega (arith, bytes 0) in
      let lc : c < 256 = omega (arith, bytes 2) in
      let low : b * 256 + a < 65536 = omega (arith, bytes 0, bytes 1) in
      ap (λ (x : ℕ). bit_of x j) word_is
      ∙ cases (ltb j 16)
      (λ e.
      bit_low 16 (b * 256 + a) (d * 256 + c) j low (ltb-true j 16 e)
      ∙ cases (ltb j 8)
      (λ f.
      let m = ltb-true j 8 f in bit_low 8 a b j la m ∙ in_byte j 0 j a ea (omega arith) (omega arith))
      (λ f.
      let m = ltb-true j 16 e in
      let n = ltb-false j 8 f in
      let above : j ≡ 8 + (j - 8) = omega arith in
      ap (bit_of (b * 256 + a)) above ∙ bit_high 8 a b (j - 8) la
      ∙ in_byte j 1 (j - 8) b eb (omega arith) (omega arith)))
      (λ e.
      let m = ltb-false j 16 e in
      let above : j ≡ 16 + (j - 16) = omega arith in
      ap (bit_of ((d * 256 + c) * 65536 + (b * 256 + a))) above
      ∙ bit_high 16 (b * 256 + a) (d * 256 + c) (j - 16) low
      ∙ cases (ltb (j - 16) 8)
      (λ f.
      let n = ltb-true (j - 16) 8 f in
      bit_low 8 c d (j - 16) lc n ∙ in_byte j 2 (j - 16) c ec (omega arith) (omega arith))
      (λ f.
      let n = ltb-false (j - 16) 8 f in
      let over : j - 16 ≡ 8 + (j - 24) = omega arith in
      ap (bit_of (d * 256 + c)) over ∙ bit_high 8 c d (j - 24) lc
      ∙ in_byte j 3 (j - 24) d ed (omega arith) (omega arith)))
