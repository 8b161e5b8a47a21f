-- Values with dots between them, byte by byte as the definitions read them and number by number as RFC 5234 has them.
-- Assumes nothing.
use Rattle.grammar.proofs.Basics.{ℕ, suc, ◌+◌, ◌*◌, List, [], ◌∷◌, ◌++◌, ◌≡◌, refl, ◌∙◌, sym, ap, Bool, true, false}
use Rattle.grammar.proofs.Basics.{◌||◌, ◌&&◌, cases, length, take, eqb, leb, eqb-true, or_left, and_left, and_right}
use Rattle.grammar.proofs.Basics.{and_both, append-nil, leb-true, le-leb, or_right, or_second}
use Rattle.grammar.proofs.Basics.{false≢true}
use Rattle.abnf.specs.Bytes.{is_hexdig, digit_value_lem, value_from}
use Rattle.abnf.specs.Text.{Many, no_more, one_more, OneOrMore, at_least_one, HexVal, last_value, dot}
use Rattle.abnf.specs.Pieces.{span, begins, dotted, values_from, fit, is_range_lem}
use Rattle.abnf.specs.Theorems.Pieces.{Numbers, last_number, dotted_number}
use Rattle.abnf.proofs.Spans.{many, another_byte, neither_of}

-- digits, and dots with a digit after them
pub data Dotted : List ℕ → Type 0 where
  done : Dotted []
  digit : {b : ℕ} {s : List ℕ} → is_hexdig b ≡ true → Dotted s → Dotted (b ∷ s)
  point : {b : ℕ} {s : List ℕ} → is_hexdig b ≡ true → Dotted s → Dotted (46 ∷ b ∷ s)

-- a digit goes into the value: of the digits that follow, and of those before
values_digit : (v b : ℕ) (s : List ℕ) → is_hexdig b ≡ true → values_from v (b ∷ s) ≡ values_from (16 * v + digit_value_lem b) s
unfolding values_from
values_digit v b s h = rw (another_byte is_hexdig b 46 h refl)

-- a text begins with the first of them
pub begins_front : {p : ℕ → Bool} (d s : List ℕ) → OneOrMore p d → begins p (d ++ s) ≡ true
unfolding begins
begins_front d s (at_least_one h m) = h

-- digits go into the value, up to the end and up to a dot
digits_value : (v : ℕ) (d s : List ℕ) → Many is_hexdig d → values_from v (d ++ s) ≡ values_from (value_from v d) s
unfolding value_from
digits_value v d s no_more = refl
digits_value v d s (one_more {b = b} {s = t} h m) =
    values_digit v b (t ++ s) h ∙ digits_value (16 * v + digit_value_lem b) t s m

last_says : (d : List ℕ) → OneOrMore is_hexdig d → values_from 0 d ≡ value_from 0 d ∷ []
unfolding values_from
last_says d o = ap (values_from 0) (sym (append-nil d)) ∙ digits_value 0 d [] (many o)

dot_says : (d s : List ℕ) → OneOrMore is_hexdig d → values_from 0 (d ++ (46 ∷ s)) ≡ value_from 0 d ∷ values_from 0 s
unfolding values_from
dot_says d s o = digits_value 0 d (46 ∷ s) (many o)

-- numbers with one digit more before them
digit_before : {b : ℕ} {s : List ℕ} → is_hexdig b ≡ true → Numbers s → Numbers (b ∷ s)
digit_before h (last_number (at_least_one g m)) = last_number (at_least_one h (one_more g m))
digit_before h (dotted_number (at_least_one g m) n) = dotted_number (at_least_one h (one_more g m)) n

-- such bytes are numbers with dots between them where they begin with a digit
after_digit : (b : ℕ) (s : List ℕ) → is_hexdig b ≡ true → Dotted s → Numbers (b ∷ s)
after_digit b s h done = last_number (at_least_one h no_more)
after_digit b s h (digit {b = c} {s = t} g r) = digit_before h (after_digit c t g r)
after_digit b s h (point {b = c} {s = t} g r) = dotted_number (at_least_one h no_more) (after_digit c t g r)

pub dotted_numbers : (s : List ℕ) → begins is_hexdig s ≡ true → Dotted s → Numbers s
unfolding begins
dotted_numbers s g done = absurd (false≢true g)
dotted_numbers s g (digit {b = b} {s = t} h r) = after_digit b t h r
dotted_numbers s g (point h r) = absurd (false≢true g)

-- and those whose values fit are values
pub hex_val : {s : List ℕ} → Numbers s → fit (values_from 0 s) ≡ true → HexVal s (values_from 0 s)
unfolding fit
hex_val (last_number {d = d} o) f =
    let says = last_says d o in
    rw says (last_value o (leb-true (value_from 0 d) 255 (and_left _ true (sym (ap fit says) ∙ f))))
hex_val (dotted_number {d = d} {s = s} o n) f =
    let says = dot_says d s o in
    let fits = leb (value_from 0 d) 255 in
    let both : (fits && fit (values_from 0 s)) ≡ true = sym (ap fit says) ∙ f in
    rw says
    (dot o (leb-true (value_from 0 d) 255 (and_left fits (fit (values_from 0 s)) both))
    (hex_val n (and_right fits (fit (values_from 0 s)) both)))

-- what is counted begins with a digit if the text does
pub digit_first : (s : List ℕ) → begins is_hexdig s ≡ true → begins is_hexdig (take (dotted s) s) ≡ true
unfolding dotted begins
digit_first [] h = h
digit_first (b ∷ s) h = rw (or_left (is_hexdig b) (eqb b 46 && begins is_hexdig s) h) h

-- with a dot before them
behind_point : (s : List ℕ) → begins is_hexdig s ≡ true → Dotted s → Dotted (46 ∷ s)
unfolding begins
behind_point s g done = absurd (false≢true g)
behind_point s g (digit h r) = point h r
behind_point s g (point h r) = absurd (false≢true g)

-- what is counted is such bytes
pub counted_dotted : (s : List ℕ) → Dotted (take (dotted s) s)
unfolding dotted
counted_dotted [] = done
counted_dotted (b ∷ s) =
    cases (is_hexdig b)
    (λ h. rw (or_left (is_hexdig b) (eqb b 46 && begins is_hexdig s) h) (digit h (counted_dotted s)))
    (λ n.
    cases (eqb b 46 && begins is_hexdig s)
    (λ h.
    rw (or_right (is_hexdig b) (eqb b 46 && begins is_hexdig s) h)
    (rw (eqb-true b 46 (and_left (eqb b 46) (begins is_hexdig s) h))
    (behind_point (take (dotted s) s) (digit_first s (and_right (eqb b 46) (begins is_hexdig s) h))
    (counted_dotted s))))
    (λ m. rw (or_second (is_hexdig b) (eqb b 46 && begins is_hexdig s) n ∙ m) done))

-- digits before such bytes are such bytes
digits_dotted : (d s : List ℕ) → Many is_hexdig d → Dotted s → Dotted (d ++ s)
digits_dotted d s no_more r = r
digits_dotted d s (one_more {s = t} h m) r = digit h (digits_dotted t s m r)

-- numbers with dots between them begin with a digit and are such bytes
pub numbers_begin : {s : List ℕ} → Numbers s → begins is_hexdig s ≡ true
numbers_begin (last_number {d = d} o) = ap (begins is_hexdig) (sym (append-nil d)) ∙ begins_front d [] o
numbers_begin (dotted_number {d = d} {s = s} o n) = begins_front d (46 ∷ s) o

pub numbers_dotted : {s : List ℕ} → Numbers s → Dotted s
numbers_dotted (last_number {d = d} o) = rw (append-nil d) at (digits_dotted d [] (many o) done)
numbers_dotted (dotted_number {d = d} {s = s} o n) =
    digits_dotted d (46 ∷ s) (many o) (behind_point s (numbers_begin n) (numbers_dotted n))

-- values are such numbers, say their values, and these fit
pub hex_numbers : {s vs : List ℕ} → HexVal s vs → Numbers s
hex_numbers (last_value o l) = last_number o
hex_numbers (dot o l r) = dotted_number o (hex_numbers r)

pub hex_says : {s vs : List ℕ} → HexVal s vs → values_from 0 s ≡ vs
hex_says (last_value {d = d} o l) = last_says d o
hex_says (dot {d = d} {s = s} o l r) = dot_says d s o ∙ ap (λ vs. value_from 0 d ∷ vs) (hex_says r)

pub hex_fits : {s vs : List ℕ} → HexVal s vs → fit vs ≡ true
unfolding fit
hex_fits (last_value {d = d} o l) = and_both _ true (le-leb (value_from 0 d) 255 l) refl
hex_fits (dot {d = d} {vs = vs} o l r) = and_both _ (fit vs) (le-leb (value_from 0 d) 255 l) (hex_fits r)

-- a digit, a dot or a dash, which would go on with a value
abbrev pub in_literal : ℕ → Bool
in_literal b = is_hexdig b || eqb b 46 || eqb b 45

-- before a text that begins with none of these, all such bytes are counted
dotted_none : (s : List ℕ) → begins in_literal s ≡ false → dotted s ≡ 0
unfolding dotted begins
dotted_none [] f = refl
dotted_none (b ∷ s) f =
    let apart = neither_of (is_hexdig b || eqb b 46) (eqb b 45) f in
    let both = neither_of (is_hexdig b) (eqb b 46) apart.0 in
    rw (both.0, both.1)

pub dotted_front : (s rest : List ℕ) → Dotted s → begins in_literal rest ≡ false → dotted (s ++ rest) ≡ length s
unfolding dotted begins
dotted_front s rest done f = dotted_none rest f
dotted_front s rest (digit {s = t} h r) f = rw (or_left _ _ h) (ap suc (dotted_front t rest r f))
dotted_front s rest (point {s = t} h r) f = rw h (ap (λ n. suc (suc n)) (dotted_front t rest r f))

-- and they begin no range
no_range : (s : List ℕ) → begins in_literal s ≡ false → is_range_lem s ≡ false
unfolding span begins
no_range [] f = refl
no_range (b ∷ s) f =
    let apart = neither_of (is_hexdig b || eqb b 46) (eqb b 45) f in
    let both = neither_of (is_hexdig b) (eqb b 46) apart.0 in
    rw (both.0, apart.1)

pub range_front : (s rest : List ℕ) → Dotted s → begins in_literal rest ≡ false → is_range_lem (s ++ rest) ≡ false
unfolding span
range_front s rest done f = no_range rest f
range_front s rest (digit {s = t} h r) f = rw h (range_front t rest r f)
range_front s rest (point {s = t} h r) f = refl
