-- What stands after %x: no hex value of RFC 5234 that begins there is longer than what the definitions read, and one
-- than which no other is longer is read. Assumes nothing.
use Rattle.grammar.proofs.Basics.{ℕ, suc, ◌≤◌, List, [], ◌∷◌, ◌++◌, ◌≡◌, refl, ◌∙◌, sym, ap, true, false, not}
use Rattle.grammar.proofs.Basics.{◌&&◌, ◌⊎◌, inl, inr, cases, length, take, drop, eqb, eqb-true, arith, and_left}
use Rattle.grammar.proofs.Basics.{and_right, append_assoc, length-append, suc-le-suc, false≢true}
use Rattle.grammar.proofs.Basics.{not_true_false}
use lib.ListN.{take-append-drop}
use Rattle.abnf.specs.declared.PieceKind.TheVariants.{LiteralPiece, NoPiece}
use Rattle.abnf.specs.Bytes.{is_hexdig}
use Rattle.abnf.specs.Text.{no_more, OneOrMore, at_least_one, HexVal}
use Rattle.abnf.specs.Pieces.{value, span, begins, dotted, values_from, fit, is_range_lem, range_after}
use Rattle.abnf.specs.Theorems.Pieces.{Numbers, last_number, dotted_number, AnyHexVal, numbers, range}
use Rattle.abnf.proofs.Spans.{many, drop_span}
use Rattle.abnf.proofs.Values.{begins_front, hex_numbers, hex_says, hex_fits, numbers_begin}
use Rattle.abnf.proofs.Values.{numbers_dotted, dotted_numbers, digit_first, counted_dotted}
use Rattle.abnf.proofs.PieceAgain.{begins_longer}
use Rattle.abnf.proofs.LongestFronts.{span_reaches, dotted_reaches, counted_some, front_taken, same_front}

-- after digits the byte behind them decides whether they begin a range
behind_digits : (d s rest : List ℕ) (c : ℕ) → OneOrMore is_hexdig d → is_hexdig c ≡ false →
    is_range_lem ((d ++ (c ∷ s)) ++ rest) ≡ range_after (c ∷ (s ++ rest))
unfolding begins
behind_digits d s rest c o f =
    ap is_range_lem (append_assoc d (c ∷ s) rest) ∙ ap range_after (drop_span is_hexdig d (c ∷ (s ++ rest)) (many o) f)

-- a hex value that begins a text: what is read is none, or at least as long
pub value_reaches : (t rest : List ℕ) → AnyHexVal t →
    ((value (t ++ rest)).kind ≡ NoPiece) ⊎ (suc (length t) ≤ (value (t ++ rest)).more)
value_reaches t rest (numbers n) =
    let s = t ++ rest in
    cases (begins is_hexdig s && not (is_range_lem s) && fit (values_from 0 (take (dotted s) s)))
    (λ h. inr (rw h (suc-le-suc (dotted_reaches t rest (numbers_dotted n)))))
    (λ f. inl (rw f))
value_reaches t rest (range {d = d} {s = s} o q) =
    let digits : begins is_hexdig ((d ++ (45 ∷ s)) ++ rest) ≡ true =
    begins_longer is_hexdig (d ++ (45 ∷ s)) rest (begins_front d (45 ∷ s) o) in
    let ranges = behind_digits d s rest 45 o refl ∙ begins_front s rest q in
    inl (rw (digits, ranges))

-- a dash and a digit after it
data Dash : List ℕ → Type 0 where
  dash : (c : ℕ) (r : List ℕ) → is_hexdig c ≡ true → Dash (45 ∷ c ∷ r)

dash_first : (s : List ℕ) → range_after s ≡ true → Dash s
unfolding begins
dash_first [] h = absurd (false≢true h)
dash_first (b ∷ []) h = absurd (false≢true (and_right (eqb b 45) false h))
dash_first (b ∷ c ∷ s) h =
    rw (eqb-true b 45 (and_left (eqb b 45) (is_hexdig c) h)) (dash c s (and_right (eqb b 45) (is_hexdig c) h))

-- bytes than which no hex value that begins the text is longer
abbrev pub NoLongerValue : List ℕ → List ℕ → Type 0
NoLongerValue text t = (other after : List ℕ) → AnyHexVal other → other ++ after ≡ text → length other ≤ length t

-- digits with a dash and a digit behind what is counted of them are a longer one
longer_range : (t rest u : List ℕ) → OneOrMore is_hexdig t → Dash u →
    drop (span is_hexdig (t ++ rest)) (t ++ rest) ≡ u → NoLongerValue (t ++ rest) t → ⊥
longer_range t rest u o (dash c r h) same longest =
    let text = t ++ rest in
    let d = take (span is_hexdig text) text in
    let whole : (d ++ (45 ∷ c ∷ [])) ++ r ≡ text =
    append_assoc d (45 ∷ c ∷ []) r ∙ ap (λ v. d ++ v) (sym same) ∙ take-append-drop (span is_hexdig text) text in
    let shorter = longest (d ++ (45 ∷ c ∷ [])) r
    (range (counted_some is_hexdig text (begins_front t rest o)) (at_least_one h no_more)) whole in
    let counts : length t ≤ length d =
    front_taken (span is_hexdig text) t rest (span_reaches is_hexdig t rest (many o)) in
    omega (arith, length-append d (45 ∷ c ∷ []))

-- so numbers than which none is longer begin no range
no_range : (t rest : List ℕ) → Numbers t → NoLongerValue (t ++ rest) t → is_range_lem (t ++ rest) ≡ false
no_range t rest (last_number o) longest =
    not_true_false (is_range_lem (t ++ rest)) (λ h. longer_range t rest _ o (dash_first _ h) refl longest)
no_range t rest (dotted_number {d = d} {s = s} o n) longest = behind_digits d s rest 46 o refl

-- a value of the part than which none is longer is read
pub value_read : {vs : List ℕ} (t rest : List ℕ) → HexVal t vs → NoLongerValue (t ++ rest) t →
    (value (t ++ rest)).kind ≡ LiteralPiece
value_read t rest v longest =
    let text = t ++ rest in
    let n = hex_numbers v in
    let first : begins is_hexdig text ≡ true = begins_longer is_hexdig t rest (numbers_begin n) in
    let taken = take (dotted text) text in
    let same : taken ≡ t =
    same_front (dotted text) t rest (dotted_reaches t rest (numbers_dotted n))
    (longest taken (drop (dotted text) text)
    (numbers (dotted_numbers taken (digit_first text first) (counted_dotted text)))
    (take-append-drop (dotted text) text)) in
    rw (first, no_range t rest n longest, same) (rw (ap fit (hex_says v) ∙ hex_fits v) refl)
