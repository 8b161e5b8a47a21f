-- The bits of a number, one by one: what `&`, `|`, `!`, shifts and the counts of ones and of trailing zeros make of
-- them, at any width. Assumes nothing.
use Rattle.grammar.proofs.Basics.{◌≡◌, true, false, Bool, ◌&&◌, ◌||◌, not, ℕ, ◌<◌, ◌≤◌, ◌+◌, ◌-◌, ◌*◌, ◌/◌, eqb}
use Rattle.grammar.proofs.Basics.{refl, ◌∙◌, sym, ap, ap₂, suc, zero, arith, ◌%◌, suc-le-suc, eq-eqb, cases}
use Rattle.grammar.proofs.Basics.{true_and_false, ltb, ltb-true, ltb-false, leb, leb-true, leb-false, add-zero}
use native.Mathlib.Nat.{div-one, pow-suc, le_of_suc-le-suc, not-suc-le-zero, add_comm}
use native.Mathlib.Nat.{mod-lt, zero-lt-suc, div-add-mod'}
use Prim.Native.Nat.{◌^◌, zero-le}
use native.Mathlib.Numerals.{one-add}
use lib.Dec.{eqb-zero-suc, eqb-suc-zero, eqb-suc-suc}
use lib.Arith.{lt-one}
use lib.Bits.{bit_and, bit_or, and_shr, or_shr, and_mod, or_mod, and_le_l, and_le_r, or_add_and, block_half, block_odd}
use lib.Count.{ones, count_trailing_zeros, ones_step, under}
use lib.Pow.{shr-shr, pow_pos, high}
use Rattle.grammar.specs.Counting.{count, total, one_if_lem}
use Rattle.grammar.proofs.Counting.{count_cong}
use Rattle.bit_machine.specs.BitTable.{bit_of, byte_of_bits}

-- a rest by 2 is 0 or 1
by_digit : (P : ℕ → Type 0) (n : ℕ) → P 0 → P 1 → P (n % 2)
by_digit P n none one = go (n % 2) (mod-lt n (zero-lt-suc 1))
  where
    go : (d : ℕ) → d < 2 → P d
    go zero l = none
    go (suc zero) l = one
    go (suc (suc d)) l = absurd (not-suc-le-zero (le_of_suc-le-suc (le_of_suc-le-suc l)))

-- bit 0 is the rest by 2, and the bits of a half are those above it
pub bit_first : (n : ℕ) → bit_of n 0 ≡ eqb (n % 2) 1
unfolding bit_of
bit_first n = ap (λ (x : ℕ). eqb (x % 2) 1) (div-one n)

pub bit_next : (n j : ℕ) → bit_of n (suc j) ≡ bit_of (n / 2) j
unfolding bit_of
bit_next n j =
    ap (λ (x : ℕ). eqb (n / 2 ^ x % 2) 1) (sym (one-add j))
    ∙ ap (λ (x : ℕ). eqb (x % 2) 1) (sym (shr-shr n 1 j))

and_digit : (x y : ℕ) → eqb (bit_and (x % 2) (y % 2)) 1 ≡ (eqb (x % 2) 1 && eqb (y % 2) 1)
and_digit x y =
    by_digit (λ a. eqb (bit_and a (y % 2)) 1 ≡ (eqb a 1 && eqb (y % 2) 1)) x refl
    (by_digit (λ b. eqb (bit_and 1 b) 1 ≡ eqb b 1) y refl refl)

or_digit : (x y : ℕ) → eqb (bit_or (x % 2) (y % 2)) 1 ≡ (eqb (x % 2) 1 || eqb (y % 2) 1)
or_digit x y =
    by_digit (λ a. eqb (bit_or a (y % 2)) 1 ≡ (eqb a 1 || eqb (y % 2) 1)) x refl
    (by_digit (λ b. eqb (bit_or 1 b) 1 ≡ true) y refl refl)

pub bit_and_lem : (a b j : ℕ) → bit_of (bit_and a b) j ≡ (bit_of a j && bit_of b j)
unfolding bit_of
bit_and_lem a b j =
    ap (λ (x : ℕ). eqb (x % 2) 1) (and_shr a b j)
    ∙ ap (λ (x : ℕ). eqb x 1) (and_mod (a / 2 ^ j) (b / 2 ^ j) 1) ∙ and_digit (a / 2 ^ j) (b / 2 ^ j)

pub bit_or_lem : (a b j : ℕ) → bit_of (bit_or a b) j ≡ (bit_of a j || bit_of b j)
unfolding bit_of
bit_or_lem a b j =
    ap (λ (x : ℕ). eqb (x % 2) 1) (or_shr a b j)
    ∙ ap (λ (x : ℕ). eqb x 1) (or_mod (a / 2 ^ j) (b / 2 ^ j) 1) ∙ or_digit (a / 2 ^ j) (b / 2 ^ j)

-- of two numbers whose rests by 2 differ the first bits do
not_digit : (x y : ℕ) → x % 2 + y % 2 ≡ 1 → eqb (x % 2) 1 ≡ not (eqb (y % 2) 1)
not_digit x y =
    by_digit (λ b. x % 2 + b ≡ 1 → eqb (x % 2) 1 ≡ not (eqb b 1)) y
    (λ e. eq-eqb (x % 2) 1 (omega arith))
    (λ e. ap (λ (z : ℕ). eqb z 1) (let l : x % 2 ≡ 0 = omega arith in l))

pub bit_not : (k a j : ℕ) → a < 2 ^ k → j < k → bit_of (2 ^ k - 1 - a) j ≡ not (bit_of a j)
bit_not zero a j l m = absurd (not-suc-le-zero m)
bit_not (suc k) a zero l m =
    rw (bit_first (2 ^ suc k - 1 - a), bit_first a) (not_digit (2 ^ suc k - 1 - a) a (omega (arith, pow-suc 2 k)))
bit_not (suc k) a (suc j) l m =
    let half : (2 ^ suc k - 1 - a) / 2 ≡ 2 ^ k - 1 - a / 2 = omega (arith, pow-suc 2 k) in
    bit_next (2 ^ suc k - 1 - a) j ∙ ap (λ (x : ℕ). bit_of x j) half
    ∙ bit_not k (a / 2) j (omega (arith, pow-suc 2 k)) (le_of_suc-le-suc m) ∙ ap not (sym (bit_next a j))

pub bit_zero : (j : ℕ) → bit_of 0 j ≡ false
unfolding bit_of
bit_zero zero = refl
bit_zero (suc j) = bit_next 0 j ∙ bit_zero j

pub bit_power : (k j : ℕ) → bit_of (2 ^ k) j ≡ eqb j k
unfolding bit_of
bit_power zero zero = refl
bit_power zero (suc j) = bit_next 1 j ∙ bit_zero j ∙ sym (eqb-suc-zero j)
bit_power (suc k) zero =
    let even : 2 ^ suc k % 2 ≡ 0 = omega (arith, pow-suc 2 k) in
    bit_first (2 ^ suc k) ∙ ap (λ (x : ℕ). eqb x 1) even ∙ sym (eqb-zero-suc k)
bit_power (suc k) (suc j) =
    let half : 2 ^ suc k / 2 ≡ 2 ^ k = omega (arith, pow-suc 2 k) in
    bit_next (2 ^ suc k) j ∙ ap (λ (x : ℕ). bit_of x j) half ∙ bit_power k j ∙ sym (eqb-suc-suc j k)

pub bit_shifted : (n k j : ℕ) → bit_of (n / 2 ^ k) j ≡ bit_of n (k + j)
unfolding bit_of
bit_shifted n k j = ap (λ (x : ℕ). eqb (x % 2) 1) (shr-shr n k j)

-- two numbers of which the second stands above the k bits of the first
pub bit_low : (k low high j : ℕ) → low < 2 ^ k → j < k → bit_of (high * 2 ^ k + low) j ≡ bit_of low j
bit_low zero low high j l m = absurd (not-suc-le-zero m)
bit_low (suc k) low high zero l m =
    bit_first (high * 2 ^ suc k + low) ∙ ap (λ (x : ℕ). eqb x 1) (block_odd high k low) ∙ sym (bit_first low)
bit_low (suc k) low high (suc j) l m =
    bit_next (high * 2 ^ suc k + low) j ∙ ap (λ (x : ℕ). bit_of x j) (block_half high k low)
    ∙ bit_low k (low / 2) high j (omega (arith, pow-suc 2 k)) (le_of_suc-le-suc m) ∙ sym (bit_next low j)

pub bit_high : (k low high j : ℕ) → low < 2 ^ k → bit_of (high * 2 ^ k + low) (k + j) ≡ bit_of high j
bit_high k low high' j l = sym (bit_shifted (high' * 2 ^ k + low) k j) ∙ ap (λ (x : ℕ). bit_of x j) (high high' k l)

-- shifted to the left, in a word of w bits
pub bit_shifted_left : (w n k j : ℕ) → j < w → bit_of (n * 2 ^ k % 2 ^ w) j ≡ (leb k j && bit_of n (j - k))
bit_shifted_left w n k j l =
    sym (bit_low w (n * 2 ^ k % 2 ^ w) (n * 2 ^ k / 2 ^ w) j (mod-lt (n * 2 ^ k) (pow_pos w)) l)
    ∙ ap (λ (x : ℕ). bit_of x j) (div-add-mod' (n * 2 ^ k) (2 ^ w) ∙ sym (add-zero (n * 2 ^ k)))
    ∙ cases (leb k j)
    (λ e.
    let place : j ≡ k + (j - k) = omega (arith, leb-true k j e) in
    rw e (ap (bit_of (n * 2 ^ k + 0)) place ∙ bit_high k 0 n (j - k) (pow_pos k)))
    (λ e. rw e (bit_low k 0 n j (pow_pos k) (omega (arith, leb-false k j e)) ∙ bit_zero j))

-- the first bits say the rests by 2
same_digit : (a b : ℕ) → bit_of a 0 ≡ bit_of b 0 → a % 2 ≡ b % 2
same_digit a b e =
    by_digit (λ x. eqb x 1 ≡ eqb (b % 2) 1 → x ≡ b % 2) a
    (by_digit (λ y. eqb 0 1 ≡ eqb y 1 → 0 ≡ y) b (λ _. refl) (λ f. true_and_false refl (sym f)))
    (by_digit (λ y. eqb 1 1 ≡ eqb y 1 → 1 ≡ y) b (λ f. true_and_false refl f) (λ _. refl))
    (sym (bit_first a) ∙ e ∙ bit_first b)

-- numbers of k bits with the same bits are equal
pub same_bits : (k a b : ℕ) → a < 2 ^ k → b < 2 ^ k → ((j : ℕ) → j < k → bit_of a j ≡ bit_of b j) → a ≡ b
same_bits zero a b l m e = lt-one l ∙ sym (lt-one m)
same_bits (suc k) a b l m e =
    let halves : a / 2 ≡ b / 2 =
    same_bits k (a / 2) (b / 2) (omega (arith, pow-suc 2 k)) (omega (arith, pow-suc 2 k))
    (λ j h. sym (bit_next a j) ∙ e (suc j) (suc-le-suc h) ∙ bit_next b j) in
    omega (arith, same_digit a b (e 0 (omega arith)))

-- two numbers that have no one between them
pub or_none : (a b : ℕ) → bit_or a b ≡ 0 → (a ≡ 0) × (b ≡ 0)
or_none a b e = (omega (arith, or_add_and a b, and_le_r a b), omega (arith, or_add_and a b, and_le_l a b))

pub no_bits : (k n : ℕ) → n < 2 ^ k → ((j : ℕ) → j < k → bit_of n j ≡ false) → n ≡ 0
no_bits k n l e = same_bits k n 0 l (omega (arith, l)) (λ j h. e j h ∙ sym (bit_zero j))

-- the trailing zeros of a number are the place of its first one
pub first_within : (k n : ℕ) → 1 ≤ n → n < 2 ^ k → count_trailing_zeros k n < k
unfolding count_trailing_zeros
first_within zero n p l = absurd (omega arith)
first_within (suc k) n p l =
    by_digit (λ d. n % 2 ≡ d → under d (count_trailing_zeros k (n / 2)) < suc k) n
    (λ e. suc-le-suc (first_within k (n / 2) (omega arith) (omega (arith, pow-suc 2 k))))
    (λ e. suc-le-suc zero-le) refl

pub first_one : (k n : ℕ) → 1 ≤ n → n < 2 ^ k → bit_of n (count_trailing_zeros k n) ≡ true
unfolding count_trailing_zeros
first_one zero n p l = absurd (omega arith)
first_one (suc k) n p l =
    by_digit (λ d. n % 2 ≡ d → bit_of n (under d (count_trailing_zeros k (n / 2))) ≡ true) n
    (λ e. bit_next n (count_trailing_zeros k (n / 2)) ∙ first_one k (n / 2) (omega arith) (omega (arith, pow-suc 2 k)))
    (λ e. bit_first n ∙ eq-eqb (n % 2) 1 e) refl

pub before_first : (k n j : ℕ) → j < count_trailing_zeros k n → bit_of n j ≡ false
unfolding count_trailing_zeros
before_first zero n j m = absurd (not-suc-le-zero m)
before_first (suc k) n zero m =
    by_digit (λ d. n % 2 ≡ d → 0 < under d (count_trailing_zeros k (n / 2)) → bit_of n 0 ≡ false) n
    (λ e _. bit_first n ∙ ap (λ (x : ℕ). eqb x 1) e) (λ e h. absurd (not-suc-le-zero h)) refl m
before_first (suc k) n (suc j) m =
    by_digit (λ d. suc j < under d (count_trailing_zeros k (n / 2)) → bit_of n (suc j) ≡ false) n
    (λ h. bit_next n j ∙ before_first k (n / 2) j (le_of_suc-le-suc h)) (λ h. absurd (not-suc-le-zero h)) m

-- what is common to a number and the one before it: of an odd number all but bit 0
twice : (b : Bool) → (b && b) ≡ (b && true)
twice true = refl
twice false = refl

before_odd : (n j : ℕ) → n % 2 ≡ 1 → (bit_of n j && bit_of (n - 1) j) ≡ (bit_of n j && not (eqb j 0))
before_odd n zero e =
    let even : (n - 1) % 2 ≡ 0 = omega arith in
    ap (λ b. bit_of n 0 && b) (bit_first (n - 1) ∙ ap (λ (x : ℕ). eqb x 1) even)
before_odd n (suc j) e =
    let half : (n - 1) / 2 ≡ n / 2 = omega arith in
    ap (λ b. bit_of n (suc j) && b) (bit_next (n - 1) j ∙ ap (λ (x : ℕ). bit_of x j) half ∙ sym (bit_next n j))
    ∙ twice (bit_of n (suc j)) ∙ ap (λ b. bit_of n (suc j) && not b) (sym (eqb-suc-zero j))

before_any : (k n j : ℕ) → 1 ≤ n → n < 2 ^ k →
    (bit_of n j && bit_of (n - 1) j) ≡ (bit_of n j && not (eqb j (count_trailing_zeros k n)))
unfolding count_trailing_zeros
before_any zero n j p l = absurd (omega arith)
before_any (suc k) n zero p l =
    by_digit (λ d. n % 2 ≡ d → (bit_of n 0 && bit_of (n - 1) 0)
    ≡ (bit_of n 0 && not (eqb 0 (under d (count_trailing_zeros k (n / 2)))))) n
    (λ e. rw (bit_first n ∙ ap (λ (x : ℕ). eqb x 1) e)) (before_odd n 0) refl
before_any (suc k) n (suc j) p l =
    by_digit (λ d. n % 2 ≡ d → (bit_of n (suc j) && bit_of (n - 1) (suc j))
    ≡ (bit_of n (suc j) && not (eqb (suc j) (under d (count_trailing_zeros k (n / 2)))))) n
    (λ e.
    let half : (n - 1) / 2 ≡ n / 2 - 1 = omega arith in
    rw (bit_next n j, bit_next (n - 1) j, half, eqb-suc-suc j (count_trailing_zeros k (n / 2)))
    (before_any k (n / 2) j (omega arith) (omega (arith, pow-suc 2 k))))
    (before_odd n (suc j)) refl

-- `n & (n - 1)` is n without its first one
pub without_first_lem : (k n j : ℕ) → 1 ≤ n → n < 2 ^ k →
    bit_of (bit_and n (n - 1)) j ≡ (bit_of n j && not (eqb j (count_trailing_zeros k n)))
without_first_lem k n j p l = bit_and_lem n (n - 1) j ∙ before_any k n j p l

pub without_first_less : (n : ℕ) → 1 ≤ n → bit_and n (n - 1) < n
without_first_less n p = omega (arith, and_le_r n (n - 1))

-- a count by its first place
count_first : (t : ℕ → Bool) (n : ℕ) → count t (suc n) ≡ one_if_lem (t 0) + count (λ i. t (suc i)) n
unfolding count
count_first t zero = omega arith
count_first t (suc n) = omega (arith, count_first t n)

pub ones_counted : (k n : ℕ) → n < 2 ^ k → ones n ≡ count (bit_of n) k
unfolding ones count
ones_counted zero n l = ap ones (lt-one l)
ones_counted (suc k) n l =
    ones_step n
    ∙ ap₂ (λ (x y : ℕ). x + y)
    (by_digit (λ d. d ≡ one_if_lem (eqb d 1)) n refl refl ∙ ap one_if_lem (sym (bit_first n)))
    (ones_counted k (n / 2) (omega (arith, pow-suc 2 k))
    ∙ count_cong (bit_of (n / 2)) (λ j. bit_of n (suc j)) k (λ j m. sym (bit_next n j)))
    ∙ sym (count_first (bit_of n) k)

one_bit : (b : Bool) → bit_of (one_if_lem b) 0 ≡ b
unfolding bit_of
one_bit true = refl
one_bit false = refl

-- the number whose first k bits a test says
module _ (test : ℕ → Bool) where
  written : ℕ → ℕ
  written k = total (λ j. one_if_lem (test j) * 2 ^ j) k

  written_below : (k : ℕ) → written k < 2 ^ k
  unfolding total written
  written_below zero = omega arith
  written_below (suc k) =
      cases (test k)
      (λ e. rw e (omega (arith, written_below k, pow-suc 2 k)))
      (λ e. rw e (omega (arith, written_below k, pow-suc 2 k)))

  written_bit : (k j : ℕ) → j < k → bit_of (written k) j ≡ test j
  unfolding total written
  written_bit zero j m = absurd (not-suc-le-zero m)
  written_bit (suc k) j m =
      ap (λ (x : ℕ). bit_of x j) (add_comm (written k) (one_if_lem (test k) * 2 ^ k))
      ∙ cases (ltb j k)
      (λ e.
      let below : j < k = ltb-true j k e in
      bit_low k (written k) (one_if_lem (test k)) j (written_below k) below ∙ written_bit k j below)
      (λ e.
      let same : j ≡ k + 0 = omega (arith, ltb-false j k e) in
      ap (bit_of (one_if_lem (test k) * 2 ^ k + written k)) same
      ∙ bit_high k (written k) (one_if_lem (test k)) 0 (written_below k) ∙ one_bit (test k)
      ∙ ap test (let back : k ≡ j = omega arith in back))

-- a byte and its bits
pub byte_of_below : (test : ℕ → Bool) → byte_of_bits test < 256
unfolding byte_of_bits written
byte_of_below test = written_below test 8

pub bit_of_byte : (test : ℕ → Bool) (j : ℕ) → j < 8 → bit_of (byte_of_bits test) j ≡ test j
unfolding byte_of_bits written
bit_of_byte test j l = written_bit test 8 j l

pub byte_of_bits_lem : (n : ℕ) (test : ℕ → Bool) → n < 256 → ((j : ℕ) → j < 8 → test j ≡ bit_of n j) → byte_of_bits test ≡ n
byte_of_bits_lem n test l e =
    same_bits 8 (byte_of_bits test) n (byte_of_below test) l (λ j m. bit_of_byte test j m ∙ e j m)
