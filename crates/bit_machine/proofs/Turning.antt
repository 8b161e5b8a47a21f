-- Squares of bits are turned by rounds that exchange blocks of j words and bits. After the round of j, bit b of word q is
-- what stood in the word with b's block and q's place in it, at the bit with q's block and b's place. Assumes nothing.
use Rattle.grammar.proofs.Basics.{◌≡◌, refl, ◌∙◌, sym, ap, ap₂, true, false, Bool, cond, ◌&&◌, ◌||◌, not, List, ℕ}
use Rattle.grammar.proofs.Basics.{◌<◌, ◌≤◌, ◌+◌, ◌-◌, ◌*◌, ◌/◌, ◌%◌, arith, eqb, ltb, leb, length, get_or, set, cases}
use Rattle.grammar.proofs.Basics.{eq-eqb, ne_eqb, eqb-true, eqb-false, ltb-true, ltb-false, leb-true, le-leb}
use Rattle.grammar.proofs.Basics.{length-set, get_or-set_same, get_or-set_other, and-true, and-false, or-false}
use Rattle.grammar.proofs.Basics.{true_and_false, not_true_false}
use Prim.Native.Nat.{◌^◌}
use native.Mathlib.Nat.{mod-lt, zero-lt-suc}
use lib.Bits.{bit_and, bit_or}
use Rattle.grammar.specs.Counting.{some}
use Rattle.grammar.proofs.Some.{some_found}
use Rattle.bit_machine.specs.BitTable.{bit_of}
use Rattle.bit_machine.specs.Inside.Index.{Block, one, two, four, eight, sixteen, in_even, Blocks, Exchanged, swap}
use Rattle.bit_machine.specs.Inside.Index.{TurnedBy, Turned}
use Rattle.bit_machine.proofs.BitLaws.{bit_and_lem, bit_or_lem, bit_not, bit_shifted, bit_shifted_left}

-- a block is even or odd
pub even_block : (j b : ℕ) → in_even j b ≡ true → b / j % 2 ≡ 0
even_block j b e = eqb-true (b / j % 2) 0 e

odd : (n : ℕ) → (n % 2 ≡ 0 → ⊥) → n % 2 ≡ 1
odd n d = omega (arith, d)

pub odd_block : (j b : ℕ) → in_even j b ≡ false → b / j % 2 ≡ 1
odd_block j b e = odd (b / j) (eqb-false (b / j % 2) 0 e)

-- before an odd block stands an even one, and before an even one an odd one
before_odd : {j : ℕ} → Block j → (b : ℕ) → b / j % 2 ≡ 1 → (j ≤ b) × ((b - j) / j % 2 ≡ 0)
before_odd one b e = (omega arith, omega arith)
before_odd two b e = (omega arith, omega arith)
before_odd four b e = (omega arith, omega arith)
before_odd eight b e = (omega arith, omega arith)
before_odd sixteen b e = (omega arith, omega arith)

before_even : {j : ℕ} → Block j → (b : ℕ) → b / j % 2 ≡ 0 → j ≤ b → (b - j) / j % 2 ≡ 1
before_even one b e l = omega arith
before_even two b e l = omega arith
before_even four b e l = omega arith
before_even eight b e l = omega arith
before_even sixteen b e l = omega arith

chosen : (x y e : Bool) → ((x && e) || (y && not e)) ≡ cond e x y
chosen true y true = refl
chosen true true false = refl
chosen true false false = refl
chosen false true true = refl
chosen false false true = refl
chosen false true false = refl
chosen false false false = refl

-- a mask, by its 32 bits one after the other
differ : Bool → Bool → Bool
differ true c = not c
differ false c = c

alike : (b c : Bool) → differ b c ≡ false → b ≡ c
unfolding differ
alike true true e = refl
alike true false e = e
alike false c e = sym e

masked : (j mask : ℕ) → Block j → some (λ b. differ (bit_of mask b) (in_even j b)) 32 ≡ false → Blocks j mask
masked j mask size e =
    record {
      size = size;
      bits = λ b l. alike (bit_of mask b) (in_even j b)
          (not_true_false _
          (λ d. true_and_false (some_found (λ b. differ (bit_of mask b) (in_even j b)) 32 b l d) e));
    }

pub blocks_16 : Blocks 16 65535
unfolding some bit_of differ
blocks_16 = masked 16 65535 sixteen refl

pub blocks_8 : Blocks 8 16711935
unfolding some bit_of differ
blocks_8 = masked 8 16711935 eight refl

pub blocks_4 : Blocks 4 252645135
unfolding some bit_of differ
blocks_4 = masked 4 252645135 four refl

pub blocks_2 : Blocks 2 858993459
unfolding some bit_of differ
blocks_2 = masked 2 858993459 two refl

pub blocks_1 : Blocks 1 1431655765
unfolding some bit_of differ
blocks_1 = masked 1 1431655765 one refl

-- the two words of an exchange
module _ (a b j mask i : ℕ) (blocks : Blocks j mask) (l : i < 32) where
  pub first_word : bit_of (bit_or (bit_and a mask) (bit_and b mask * 2 ^ j % 2 ^ 32)) i
      ≡ cond (in_even j i) (bit_of a i) (bit_of b (i - j))
  first_word =
      bit_or_lem (bit_and a mask) (bit_and b mask * 2 ^ j % 2 ^ 32) i
      ∙ ap₂ ◌||◌ (bit_and_lem a mask i ∙ ap (λ t. bit_of a i && t) (blocks.bits i l))
      (bit_shifted_left 32 (bit_and b mask) j i l
      ∙ ap (λ t. leb j i && t)
      (bit_and_lem b mask (i - j) ∙ ap (λ t. bit_of b (i - j) && t) (blocks.bits (i - j) (omega arith))))
      ∙ cases (in_even j i)
      (λ e. rw (e, and-true) (ap (λ t. bit_of a i || t) (later e) ∙ or-false (bit_of a i)))
      (λ e.
      let before = before_odd blocks.size i (odd_block j i e) in
      rw (e, and-false, le-leb j i before.0, eq-eqb ((i - j) / j % 2) 0 before.1, and-true))
    where
      later : in_even j i ≡ true → (leb j i && (bit_of b (i - j) && in_even j (i - j))) ≡ false
      later e =
          cases (leb j i)
          (λ c.
          let d = before_even blocks.size i (even_block j i e) (leb-true j i c) in
          rw (c, ne_eqb ((i - j) / j % 2) 0 (λ z. omega (arith, d, z)), and-false))
          (λ c. rw c)

  pub second_word : mask < 2 ^ 32 → bit_of (bit_or (bit_and (a / 2 ^ j) mask) (bit_and b (2 ^ 32 - 1 - mask))) i
      ≡ cond (in_even j i) (bit_of a (i + j)) (bit_of b i)
  second_word small =
      let place : j + i ≡ i + j = omega arith in
      bit_or_lem (bit_and (a / 2 ^ j) mask) (bit_and b (2 ^ 32 - 1 - mask)) i
      ∙ ap₂ ◌||◌
      (bit_and_lem (a / 2 ^ j) mask i ∙ ap₂ ◌&&◌ (bit_shifted a j i ∙ ap (bit_of a) place) (blocks.bits i l))
      (bit_and_lem b (2 ^ 32 - 1 - mask) i
      ∙ ap (λ t. bit_of b i && t) (bit_not 32 mask i small l ∙ ap not (blocks.bits i l)))
      ∙ chosen (bit_of a (i + j)) (bit_of b i) (in_even j i)

-- one exchange, in a list
pub exchanged_one : (l : List ℕ) (k d j v w : ℕ) → k + d < length l → 1 ≤ d →
    ((b : ℕ) → b < 32 →
    bit_of v b ≡ cond (in_even j b) (bit_of (get_or l k 0) b) (bit_of (get_or l (k + d) 0) (b - j))) →
    ((b : ℕ) → b < 32 →
    bit_of w b ≡ cond (in_even j b) (bit_of (get_or l k 0) (b + j)) (bit_of (get_or l (k + d) 0) b)) →
    Exchanged l (set (set l k v) (k + d) w) k 1 d j
exchanged_one l k d j v w kl dl first second =
    record {
      long = simp length-set;
      others = λ i f g.
          get_or-set_other (set l k v) (k + d) i w 0 (λ e. omega (arith, g (omega arith)))
          ∙ get_or-set_other l k i v 0 (λ e. omega (arith, f (omega arith)));
      first = λ i b h m bl.
          let here : i ≡ k = omega arith in
          rw here
          (ap (λ n. bit_of n b)
          (get_or-set_other (set l k v) (k + d) k w 0 (λ e. omega arith) ∙ get_or-set_same l k v 0 (omega arith))
          ∙ first b bl);
      second = λ i b h m bl.
          let here : i ≡ k + d = omega arith in
          let back : i - d ≡ k = omega arith in
          rw (back, here)
          (ap (λ n. bit_of n b) (get_or-set_same (set l k v) (k + d) w 0 (omega (arith, length-set l k v)))
          ∙ second b bl);
    }

-- a run of them
pub run_begins : (l : List ℕ) (at d j : ℕ) → Exchanged l l at 0 d j
run_begins l at d j =
    record {
      long = refl;
      others = λ i f g. refl;
      first = λ i b h m bl. absurd (omega arith);
      second = λ i b h m bl. absurd (omega arith);
    }

pub run_goes : {l l' l'' : List ℕ} {at n d j : ℕ} → n < d → Exchanged l l' at n d j →
    Exchanged l' l'' (at + n) 1 d j → Exchanged l l'' at (n + 1) d j
run_goes {l} {l'} {l''} {at} {n} {d} {j} nd s e =
    record {
      long = e.long ∙ s.long;
      others = λ i f g.
          e.others i (λ h. omega (arith, f (omega arith))) (λ h. omega (arith, g (omega arith)))
          ∙ s.others i (λ h. omega (arith, f (omega arith))) (λ h. omega (arith, g (omega arith)));
      first = λ i b h m bl. cases (eqb i (at + n))
          (λ c.
          let here : i ≡ at + n = eqb-true i (at + n) c in
          e.first i b (omega arith) (omega arith) bl
          ∙ ap₂ (λ x y. cond (in_even j b) (bit_of x b) (bit_of y (b - j)))
          (s.others i (λ z. omega arith) (λ z. omega arith))
          (s.others (i + d) (λ z. omega arith) (λ z. omega arith)))
          (λ c.
          let other = eqb-false i (at + n) c in
          ap (λ x. bit_of x b) (e.others i (λ z. omega (arith, other)) (λ z. omega arith))
          ∙ s.first i b h (omega (arith, other)) bl);
      second = λ i b h m bl. cases (eqb i (at + d + n))
          (λ c.
          let here : i ≡ at + d + n = eqb-true i (at + d + n) c in
          e.second i b (omega arith) (omega arith) bl
          ∙ ap₂ (λ x y. cond (in_even j b) (bit_of x (b + j)) (bit_of y b))
          (s.others (i - d) (λ z. omega arith) (λ z. omega arith))
          (s.others i (λ z. omega arith) (λ z. omega arith)))
          (λ c.
          let other = eqb-false i (at + d + n) c in
          ap (λ x. bit_of x b) (e.others i (λ z. omega arith) (λ z. omega (arith, other)))
          ∙ s.second i b h (omega (arith, other)) bl);
    }

-- a number in the block of another
module _ (j x y : ℕ) where
  swap_same : (d : ℕ) → x / j % 2 ≡ d → y / j % 2 ≡ d → swap j x y ≡ x
  unfolding swap
  swap_same d e f = rw (e, f) (omega arith)

  swap_up : x / j % 2 ≡ 0 → y / j % 2 ≡ 1 → swap j x y ≡ x + j
  unfolding swap
  swap_up e f = rw (e, f) (omega arith)

  swap_down : x / j % 2 ≡ 1 → y / j % 2 ≡ 0 → swap j x y ≡ x - j
  unfolding swap
  swap_down e f = rw (e, f) (omega arith)

-- the words before a place have been exchanged in a round, those from there on not yet
pub record Turning (before after : List ℕ) (j at : ℕ) : Type 0 where
  pub long : length after ≡ length before
  pub whole : at % (j * 16) ≡ 0
  pub within : at ≤ 256
  pub left : (i : ℕ) → at ≤ i → get_or after i 0 ≡ get_or before i 0
  pub bits : (i b : ℕ) → i < at → b < 32 →
      bit_of (get_or after i 0) b ≡ bit_of (get_or before (swap j (i / 8) b * 8 + i % 8) 0) (swap j b (i / 8))

-- runs stand side by side, and fill the squares
next_run : {j : ℕ} → Block j → (at : ℕ) → at % (j * 16) ≡ 0 → (at + j * 16) % (j * 16) ≡ 0
next_run one at e = omega arith
next_run two at e = omega arith
next_run four at e = omega arith
next_run eight at e = omega arith
next_run sixteen at e = omega arith

pub run_fits : {j : ℕ} → Block j → (at : ℕ) → at % (j * 16) ≡ 0 → at < 256 → at + j * 16 ≤ 256
run_fits one at e l = omega arith
run_fits two at e l = omega arith
run_fits four at e l = omega arith
run_fits eight at e l = omega arith
run_fits sixteen at e l = omega arith

-- the words of the first half of a run are in even blocks, those of the second in odd ones
in_first : {j : ℕ} → Block j → (at i : ℕ) → at % (j * 16) ≡ 0 → at ≤ i → i < at + j * 8 → i / 8 / j % 2 ≡ 0
in_first one at i e l m = omega arith
in_first two at i e l m = omega arith
in_first four at i e l m = omega arith
in_first eight at i e l m = omega arith
in_first sixteen at i e l m = omega arith

in_second : {j : ℕ} → Block j → (at i : ℕ) → at % (j * 16) ≡ 0 → at + j * 8 ≤ i → i < at + j * 16 →
    i / 8 / j % 2 ≡ 1
in_second one at i e l m = omega arith
in_second two at i e l m = omega arith
in_second four at i e l m = omega arith
in_second eight at i e l m = omega arith
in_second sixteen at i e l m = omega arith

pub some_bits : {j : ℕ} → Block j → 1 ≤ j
some_bits one = omega arith
some_bits two = omega arith
some_bits four = omega arith
some_bits eight = omega arith
some_bits sixteen = omega arith

pub few_bits : {j : ℕ} → Block j → j ≤ 16
few_bits one = omega arith
few_bits two = omega arith
few_bits four = omega arith
few_bits eight = omega arith
few_bits sixteen = omega arith

pub turning_begins : (l : List ℕ) (j : ℕ) → Block j → Turning l l j 0
turning_begins l j size =
    record {
      long = refl;
      whole = none size;
      within = omega arith;
      left = λ i h. refl;
      bits = λ i b h bl. absurd (omega arith);
    }
  where
    none : {j : ℕ} → Block j → 0 % (j * 16) ≡ 0
    none one = refl
    none two = refl
    none four = refl
    none eight = refl
    none sixteen = refl

module _ {l l' l'' : List ℕ} {j at : ℕ} (size : Block j) (s : Turning l l' j at) (within : at < 256)
    (e : Exchanged l' l'' at (j * 8) (j * 8) j) where
  -- a bit of the list before
  abbrev was : ℕ → ℕ → Bool
  was i b = bit_of (get_or l i 0) b

  abbrev goes : ℕ → ℕ → Bool
  goes i b = was (swap j (i / 8) b * 8 + i % 8) (swap j b (i / 8))

  first_half : (i b : ℕ) → at ≤ i → i < at + j * 8 → b < 32 → bit_of (get_or l'' i 0) b ≡ goes i b
  first_half i b h m bl =
      let even = in_first size at i s.whole h m in
      e.first i b h m bl
      ∙ ap₂ (λ x y. cond (in_even j b) (bit_of x b) (bit_of y (b - j))) (s.left i h) (s.left (i + j * 8) (omega arith))
      ∙ cases (in_even j b)
      (λ c.
      let place : i / 8 * 8 + i % 8 ≡ i = omega arith in
      let f = even_block j b c in
      rw (c, swap_same j (i / 8) b 0 even f, swap_same j b (i / 8) 0 f even, place))
      (λ c.
      let place : (i / 8 + j) * 8 + i % 8 ≡ i + j * 8 = omega arith in
      let f = odd_block j b c in
      rw (c, swap_up j (i / 8) b even f, swap_down j b (i / 8) f even, place))

  second_half : (i b : ℕ) → at + j * 8 ≤ i → i < at + j * 16 → b < 32 → bit_of (get_or l'' i 0) b ≡ goes i b
  second_half i b h m bl =
      let is_odd = in_second size at i s.whole h m in
      e.second i b h (omega arith) bl
      ∙ ap₂ (λ x y. cond (in_even j b) (bit_of x (b + j)) (bit_of y b)) (s.left (i - j * 8) (omega arith))
      (s.left i (omega arith))
      ∙ cases (in_even j b)
      (λ c.
      let place : (i / 8 - j) * 8 + i % 8 ≡ i - j * 8 = omega arith in
      let f = even_block j b c in
      rw (c, swap_down j (i / 8) b is_odd f, swap_up j b (i / 8) f is_odd, place))
      (λ c.
      let place : i / 8 * 8 + i % 8 ≡ i = omega arith in
      let f = odd_block j b c in
      rw (c, swap_same j (i / 8) b 1 is_odd f, swap_same j b (i / 8) 1 f is_odd, place))

  pub turning_goes : Turning l l'' j (at + j * 16)
  turning_goes =
      record {
        long = e.long ∙ s.long;
        whole = next_run size at s.whole;
        within = run_fits size at s.whole within;
        left = λ i h. e.others i (λ z. omega arith) (λ z. omega arith) ∙ s.left i (omega arith);
        bits = λ i b h bl. cases (ltb i at)
            (λ c.
            let m = ltb-true i at c in
            ap (λ x. bit_of x b) (e.others i (λ z. omega arith) (λ z. omega arith)) ∙ s.bits i b m bl)
            (λ c. cases (ltb i (at + j * 8))
            (λ d. first_half i b (ltb-false i at c) (ltb-true i (at + j * 8) d) bl)
            (λ d. second_half i b (ltb-false i (at + j * 8) d) h bl));
      }

pub turning_ends : {l l' : List ℕ} {j at : ℕ} → Turning l l' j at → 256 ≤ at → TurnedBy l l' j
turning_ends s h = record { long = s.long; bits = λ i b m bl. s.bits i b (omega arith) bl }

-- after the rounds down to that of j: the block of one number, with the place of another
mixed : ℕ → ℕ → ℕ → ℕ
mixed j x y = x / j * j + y % j

record TurnedDown (before after : List ℕ) (j : ℕ) : Type 0 where
  long : length after ≡ length before
  bits : (i b : ℕ) → i < 256 → b < 32 →
      bit_of (get_or after i 0) b ≡ bit_of (get_or before (mixed j b (i / 8) * 8 + i % 8) 0) (mixed j (i / 8) b)

-- with another digit a number is in the same block of twice the size, and at that digit's place there
same_double : {j : ℕ} → Block j → (x d : ℕ) → d < 2 → (x + d * j - x / j % 2 * j) / (j * 2) ≡ x / (j * 2)
same_double one x d l = omega arith
same_double two x d l = omega arith
same_double four x d l = omega arith
same_double eight x d l = omega arith
same_double sixteen x d l = omega arith

in_double : {j : ℕ} → Block j → (x d : ℕ) → d < 2 → (x + d * j - x / j % 2 * j) % (j * 2) ≡ d * j + x % j
in_double one x d l = omega arith
in_double two x d l = omega arith
in_double four x d l = omega arith
in_double eight x d l = omega arith
in_double sixteen x d l = omega arith

halved : {j : ℕ} → Block j → (x y : ℕ) → x / (j * 2) * (j * 2) + (x / j % 2 * j + y) ≡ x / j * j + y
halved one x y = omega arith
halved two x y = omega arith
halved four x y = omega arith
halved eight x y = omega arith
halved sixteen x y = omega arith

mixed_more : {j : ℕ} → Block j → (x y : ℕ) → mixed (j * 2) (swap j x y) (swap j y x) ≡ mixed j x y
unfolding swap mixed
mixed_more {j} size x y =
    ap₂ (λ (a b : ℕ). a * (j * 2) + b) (same_double size x (y / j % 2) (mod-lt (y / j) (zero-lt-suc 1)))
    (in_double size y (x / j % 2) (mod-lt (x / j) (zero-lt-suc 1)))
    ∙ halved size x (y % j)

swap_below : {j : ℕ} → Block j → (x y : ℕ) → x < 32 → swap j x y < 32
unfolding swap
swap_below one x y l = omega arith
swap_below two x y l = omega arith
swap_below four x y l = omega arith
swap_below eight x y l = omega arith
swap_below sixteen x y l = omega arith

round : {l l' l'' : List ℕ} {j : ℕ} → Block j → TurnedDown l l' (j * 2) → TurnedBy l' l'' j → TurnedDown l l'' j
round {l} {l'} {l''} {j} size s t =
    record {
      long = t.long ∙ s.long;
      bits = λ i b h bl.
          let q : ℕ = swap j (i / 8) b in
          let r : ℕ = swap j b (i / 8) in
          let ql : q < 32 = swap_below size (i / 8) b (omega arith) in
          let word : (q * 8 + i % 8) / 8 ≡ q = omega arith in
          let square : (q * 8 + i % 8) % 8 ≡ i % 8 = omega arith in
          t.bits i b h bl
          ∙ s.bits (q * 8 + i % 8) r (omega arith) (swap_below size b (i / 8) bl)
          ∙ rw (word, square, mixed_more size b (i / 8), mixed_more size (i / 8) b);
    }

-- the five rounds turn the squares
pub rounds : {a b c d e f : List ℕ} → TurnedBy a b 16 → TurnedBy b c 8 → TurnedBy c d 4 → TurnedBy d e 2 →
    TurnedBy e f 1 → Turned a f
unfolding mixed
rounds {a} {b} {c} {d} {e} {f} s t u v w =
    let none : TurnedDown a a 32 = record { long = refl; bits = λ i n h nl. unmixed i n h nl } in
    let all = round one (round two (round four (round eight (round sixteen none s) t) u) v) w in
    record {
      long = all.long;
      bits = λ i n h nl.
          let whole : mixed 1 n (i / 8) ≡ n = omega arith in
          let word : mixed 1 (i / 8) n ≡ i / 8 = omega arith in
          all.bits i n h nl ∙ rw (whole, word);
    }
  where
    unmixed : (i n : ℕ) → i < 256 → n < 32 →
        bit_of (get_or a i 0) n ≡ bit_of (get_or a (mixed 32 n (i / 8) * 8 + i % 8) 0) (mixed 32 (i / 8) n)
    unmixed i n h nl =
        let word : mixed 32 n (i / 8) * 8 + i % 8 ≡ i = omega arith in
        let bit : mixed 32 (i / 8) n ≡ n = omega arith in
        rw (word, bit)
