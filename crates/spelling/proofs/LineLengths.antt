-- How long a line can be. Assumes nothing.
use mathlib.Core.Bool.{Bool, true, false, cond}
use Prim.Native.Nat.{ℕ, zero, suc, ◌+◌, ◌*◌, ◌/◌, ◌^◌, ◌≤◌, ◌<◌}
use native.Mathlib.Nat.{mul-suc}
use native.Mathlib.Omega.{arith}
use mathlib.Core.List.{List}
use lib.Dec.{ltb, eqb}
use lib.ListN.{length, get_or, length-append}
use borrow.Author.Tests.{lt-ltb}
use Rattle.spelling.specs.Words.{ascii, digits, decimal}
use Rattle.spelling.specs.Lines.{refused_line_lem, number_line_lem, answer_line_lem, code_line_lem, lines}
use Rattle.spelling.specs.Records.{transition_output, second_output, body_output, reason_output, record_byte, record_line_lem}
use Rattle.spelling.proofs.Decimal.{cases, one, more, tenth, decimal_short}

-- a number below 10 ^ k has at most k digits
few_below : (k j n : ℕ) → n < 10 ^ suc k → length (digits (suc j) n) ≤ suc k
unfolding digits
few_below k zero n l = cases (ltb n 10) (λ e. rw e (omega arith)) (λ e. rw e (omega arith))
few_below zero (suc j) n l = rw (one (suc j) n (lt-ltb n 10 l)) (omega arith)
few_below (suc k) (suc j) n l =
    cases (ltb n 10)
    (λ e. rw (one (suc j) n e) (omega arith))
    (λ e. rw (more (suc j) n e, length-append) (omega (arith, few_below k j (n / 10) (tenth (suc k) n l))))

-- one of two outputs
pub either : (b : Bool) (s t : List ℕ) (m : ℕ) → length s ≤ m → length t ≤ m → length (cond b s t) ≤ m
either true s t m l k = l
either false s t m l k = k

-- the lines 0 to n - 1
pub all : (line : ℕ → List ℕ) (m n : ℕ) → ((i : ℕ) → i < n → length (line i) ≤ m) → length (lines line n) ≤ m * n
unfolding lines
all line m zero f = omega arith
all line m (suc n) f =
    rw (mul-suc, length-append) (omega (arith, all line m n (λ i l. f i (omega arith)), f n (omega arith)))

pub refused_short : (number place : ℕ) → length (refused_line_lem number place) ≤ 53
unfolding refused_line_lem
refused_short number place = simp length-append (omega (arith, decimal_short number, decimal_short place))

pub number_short : (word : List ℕ) (n : ℕ) → length (number_line_lem word n) ≤ length word + 22
unfolding number_line_lem
number_short word n = simp length-append (omega (arith, decimal_short n))

pub answer_short : (word : List ℕ) (is : Bool) → length (answer_line_lem word is) ≤ length word + 5
unfolding answer_line_lem
answer_short word is =
    let l = either is (ascii " yes\n") (ascii " no\n") 5 (omega arith) (omega arith) in
    rw length-append (omega arith)

byte_short : (n : ℕ) → n < 256 → length (decimal n) ≤ 3
unfolding decimal
byte_short n l = few_below 2 19 n (omega arith)

symbol_short : (n : ℕ) → n < 64 → length (decimal n) ≤ 2
unfolding decimal
symbol_short n l = few_below 1 19 n (omega arith)

pub code_short : (X c : ℕ) → X < 64 → c < 256 → length (code_line_lem X c) ≤ 7
unfolding code_line_lem
code_short X c l k = simp length-append (omega (arith, symbol_short X l, byte_short c k))

second_short : (kind Z m : ℕ) → Z < 256 → m < 256 → length (second_output kind Z m) ≤ 12
unfolding second_output
second_short kind Z m l k =
    either (eqb kind 80) _ _ 12 (simp length-append (omega (arith, byte_short Z l, byte_short m k))) (omega arith)

body_short : (kind Y Z m : ℕ) → Y < 256 → Z < 256 → m < 256 → length (body_output kind Y Z m) ≤ 19
unfolding body_output
body_short kind Y Z m h l k =
    either (eqb kind 69) _ _ 19 (omega arith)
    (simp length-append (omega (arith, byte_short Y h, second_short kind Z m l k)))

reason_short : (X kind Y Z m : ℕ) → X < 256 → Y < 256 → Z < 256 → m < 256 → length (reason_output X kind Y Z m) ≤ 26
unfolding reason_output
reason_short X kind Y Z m g h l k =
    either (eqb kind 71) _ _ 26 (omega arith)
    (simp length-append (omega (arith, byte_short X g, body_short kind Y Z m h l k)))

pub record_short : (listing : List ℕ) (k : ℕ) → ((i : ℕ) → get_or listing i 0 < 256) → length (record_line_lem listing k) ≤ 37
unfolding record_line_lem transition_output
record_short listing k b =
    let t =
    reason_short
    (record_byte listing k 1)
    (record_byte listing k 3)
    (record_byte listing k 4)
    (record_byte listing k 5)
    (record_byte listing k 6)
    (b _)
    (b _)
    (b _)
    (b _)
    in
    simp length-append
    (omega (
      arith,
      byte_short (record_byte listing k 0) (b _),
      byte_short (record_byte listing k 1) (b _),
      byte_short (record_byte listing k 2) (b _),
      t,
    ))
