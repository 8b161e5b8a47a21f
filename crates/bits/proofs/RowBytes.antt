-- The word of four bytes and the four bytes of a word. Assumes nothing.
use Rattle.grammar.proofs.Basics.{◌≡◌, refl, ◌∙◌, sym, ap, ap₂, List, [], ◌∷◌, ◌++◌, ℕ, suc, zero, ◌+◌, ◌-◌, ◌*◌, ◌/◌, ◌%◌, ◌<◌, ◌≤◌, arith}
use Rattle.grammar.proofs.Basics.{length, get_or, take, drop, length-take, ltb, ltb-true, ltb-false, cases}
use Prim.Native.Nat.{◌^◌}
use native.Mathlib.Nat.{div-one}
use Rattle.std.specs.Int.{w32, to_le_bytes, from_le_bytes}
use Rattle.std.proofs.lemmas.Nat.{le_bytes_4}
use Rattle.bit_machine.specs.BitTable.{bits_size, half_size, bit_of, bit_at}
use Rattle.bit_machine.proofs.BitLaws.{bit_low, bit_shifted}
use borrow.Rule.Slice.PartMut.{put_mid, same_len_mid}
use Rattle.std.proofs.lemmas.Slice.{drop-put_mid}
use Rattle.std.proofs.lemmas.List.{get_or-append_right, get_or-take}
use lib.ListN.{get_or-append, length-drop}
use lib.Seq.{get_or-drop}
use Rattle.bit_machine.specs.Inside.Change.{RowWritten}
use Rattle.bit_machine.proofs.BitBytes.{FourWritten, row_written}
use Rattle.bits.specs.declared.Half.{Half}
use Rattle.bits.specs.declared.Half.TheVariants.{Pending, Done}
use Rattle.bits.specs.Half.{number_of}

-- a byte of a word, by its bits
byte_of_word : (word c j : ℕ) → j < 8 → bit_of (word / 2 ^ (8 * c) % 256) j ≡ bit_of word (8 * c + j)
byte_of_word word c j l =
    sym (bit_low 8 (word / 2 ^ (8 * c) % 256) (word / 2 ^ (8 * c) / 256) j (omega arith) l)
    ∙ ap (λ (x : ℕ). bit_of x j) (omega arith)
    ∙ bit_shifted word (8 * c) j

byte_is : (n c : ℕ) → c < 4 → get_or (to_le_bytes w32 n) c 0 ≡ n / 2 ^ (8 * c) % 256
byte_is n zero h = ap (λ (x : ℕ). x % 256) (sym (div-one n))
byte_is n (suc zero) h = refl
byte_is n (suc (suc zero)) h = refl
byte_is n (suc (suc (suc zero))) h = refl
byte_is n (suc (suc (suc (suc c)))) h = absurd (omega arith)

-- the bits of the word of four bytes are those of the bytes
word_bit : (bytes : List ℕ) (word : ℕ) → length bytes ≡ 4 → ((i : ℕ) → get_or bytes i 0 < 256) →
    word ≡ from_le_bytes w32 bytes → (j : ℕ) → j < 32 → bit_of word j ≡ bit_of (get_or bytes (j / 8) 0) (j % 8)
word_bit bytes word four small is j l =
    let whole : 8 * (j / 8) + j % 8 ≡ j = omega arith in
    ap (bit_of word) (sym whole) ∙ sym (byte_of_word word (j / 8) (j % 8) (omega arith))
    ∙ ap (λ (x : ℕ). bit_of x (j % 8)) (sym (byte_is word (j / 8) (omega arith)))
    ∙ ap (λ (bs : List ℕ). bit_of (get_or bs (j / 8) 0) (j % 8)) (le_bytes_4 bytes word four small is)

-- four neighbours of a list
abbrev pub four_at : List ℕ → ℕ → List ℕ
four_at l at = get_or l at 0 ∷ (get_or l (at + 1) 0 ∷ (get_or l (at + 2) 0 ∷ (get_or l (at + 3) 0 ∷ [])))

four_is : (l : List ℕ) (at c : ℕ) → c < 4 → get_or (four_at l at) c 0 ≡ get_or l (at + c) 0
four_is l at zero h = let here : at ≡ at + 0 = omega arith in ap (λ (i : ℕ). get_or l i 0) here
four_is l at (suc zero) h = refl
four_is l at (suc (suc zero)) h = refl
four_is l at (suc (suc (suc zero))) h = refl
four_is l at (suc (suc (suc (suc c)))) h = absurd (omega arith)

four_small : (l : List ℕ) (at : ℕ) → ((i : ℕ) → get_or l i 0 < 256) → (c : ℕ) → get_or (four_at l at) c 0 < 256
four_small l at small zero = small at
four_small l at small (suc zero) = small (at + 1)
four_small l at small (suc (suc zero)) = small (at + 2)
four_small l at small (suc (suc (suc zero))) = small (at + 3)
four_small l at small (suc (suc (suc (suc c)))) = omega arith

-- a row of a half as the word of its four bytes
pub row_bit : (l : List ℕ) (half at k word : ℕ) → ((i : ℕ) → get_or l i 0 < 256) → at ≡ half * half_size + k * 4 →
    word ≡ from_le_bytes w32 (four_at l at) → (j : ℕ) → j < 32 → bit_of word j ≡ bit_at l half (k * 32 + j)
unfolding bit_at
row_bit l half at k word small begins is j h =
    let byte : at + j / 8 ≡ half * half_size + (k * 32 + j) / 8 = omega arith in
    let bit : j % 8 ≡ (k * 32 + j) % 8 = omega arith in
    word_bit (four_at l at) word refl (four_small l at small) is j h
    ∙ ap (λ (x : ℕ). bit_of x (j % 8)) (four_is l at (j / 8) (omega arith))
    ∙ ap₂ (λ (m n : ℕ). bit_of (get_or l m 0) n) byte bit

-- the four bytes of a word written over a part of a list
module _ (l : List ℕ) (at word : ℕ) (within : at + 4 ≤ bits_size) (long : bits_size ≤ length l) where
  abbrev after : List ℕ
  after = put_mid at 4 l (to_le_bytes w32 word)

  front : length (take at l) ≡ at
  front = simp length-take (omega arith)

  byte_put : (c : ℕ) → c < 4 → get_or after (at + c) 0 ≡ word / 2 ^ (8 * c) % 256
  byte_put c h =
      let same : at + c - at ≡ c = omega arith in
      get_or-append_right (take at l) (to_le_bytes w32 word ++ drop 4 (drop at l)) at (at + c) 0 front (omega arith)
      ∙ ap (λ (i : ℕ). get_or (to_le_bytes w32 word ++ drop 4 (drop at l)) i 0) same
      ∙ get_or-append (to_le_bytes w32 word) (drop 4 (drop at l)) 0 c h ∙ byte_is word c h

  other_kept : (i : ℕ) → (at ≤ i → at + 4 ≤ i) → get_or after i 0 ≡ get_or l i 0
  other_kept i past =
      cases (ltb i at)
      (λ e.
      let below : i < length (take at l) = omega (arith, front, ltb-true i at e) in
      get_or-append (take at l) (to_le_bytes w32 word ++ drop 4 (drop at l)) 0 i below
      ∙ get_or-take at l i 0 (ltb-true i at e))
      (λ e.
      let m = ltb-false i at e in
      let behind : at + 4 ≤ i = past m in
      let back : at + (4 + (i - at - 4)) ≡ i = omega arith in
      get_or-append_right (take at l) (to_le_bytes w32 word ++ drop 4 (drop at l)) at i 0 front m
      ∙ get_or-append_right (to_le_bytes w32 word) (drop 4 (drop at l)) 4 (i - at) 0 refl (omega arith)
      ∙ get_or-drop 4 (drop at l) (i - at - 4) 0 ∙ get_or-drop at l (4 + (i - at - 4)) 0
      ∙ ap (λ (j : ℕ). get_or l j 0) back)

  four_put : FourWritten l after at word
  four_put =
      record {
        long = same_len_mid at 4 l (to_le_bytes w32 word) (sym (simp (length-take, length-drop) (omega arith)));
        rest = drop-put_mid at 4 l (to_le_bytes w32 word) bits_size within (omega arith) refl;
        bytes = byte_put;
        others = other_kept;
      }

-- a row of a half written as the four bytes of its word
pub row_put : {l ys : List ℕ} {half at k word : ℕ} → bits_size ≤ length l → half < 2 → k < 2048 →
    at ≡ half * half_size + k * 4 → ys ≡ to_le_bytes w32 word →
    RowWritten l (put_mid at (at + 4 - at) l ys) half k word
row_put {l} {ys} {half} {at} {k} {word} long h kl begins is =
    let four : at + 4 - at ≡ 4 = omega arith in
    rw (four, is, begins) (row_written (four_put l (half * half_size + k * 4) word (omega arith) long) kl)

-- there are two halves
pub two_halves : (half : Half) → number_of half < 2
two_halves Pending = omega arith
two_halves Done = omega arith
