-- The characters of a literal between two offsets: where they stand, and the first of them. Assumes nothing.
use Rattle.grammar.proofs.Basics.{ℕ, suc, ◌+◌, ◌-◌, ◌≤◌, ◌<◌, List, [], ◌∷◌, ◌++◌, ◌≡◌, refl, ◌∙◌, sym, ap, Bool, true}
use Rattle.grammar.proofs.Basics.{false, cond, cases, map, length, take, drop, get_or, arith, false≢true, true≢false}
use Rattle.grammar.proofs.Basics.{eqb, ltb, leb, ltb-true, ltb-false, eqb-true, and_right, length-take-le, length-drop}
use Rattle.grammar.proofs.Basics.{length-append, take_at, ap₂, true_and_false, eq-eqb}
use Rattle.std.proofs.Common.{Option, None, Some, MatchOption}
use Rattle.std.specs.Prelude.{⊤}
use Rattle.std.specs.Bool.{then_some}
use Rattle.std.proofs.lemmas.Option.{MatchOption-at_some}
use lib.Seq.{take-take}
use Rattle.abnf.specs.declared.Edition.{Edition}
use Rattle.abnf.specs.declared.Character.{Character}
use Rattle.abnf.specs.Bytes.{lower, exact, either_case}
use Rattle.abnf.specs.Text.{quoted_string, Literal, char_val, num_val, sensitive, insensitive}
use Rattle.abnf.specs.Pieces.{fit, values_from}
use Rattle.abnf.specs.Reading.{characters_of_lem}
use Rattle.abnf.proofs.Literals.{literal_says, another_letter}
use Rattle.abnf.proofs.Values.{hex_says, hex_fits}
use Rattle.cursor.specs.declared.Characters.{Characters}
use Rattle.scanner.specs.Parts.{part_of_lem, values_after}
use Rattle.cursor.specs.Cursor.{IsLiteral, is_literal, characters_left, FirstAt, Ready}
use Rattle.scanner.proofs.Offsets.{part_here}

-- a part has as many bytes as its offsets say, and begins with the byte at its offset
part_length : (text : List ℕ) (at end : ℕ) → end ≤ length text → length (part_of_lem text at end) ≡ end - at
part_length text at end w =
    let fits : end - at ≤ length (drop at text) = rw (length-drop at text) (omega arith) in
    length-take-le (end - at) (drop at text) fits

record Uncons (text : List ℕ) (at end x : ℕ) (s : List ℕ) : Type 0 where
  order : at < end
  first : get_or text at 0 ≡ x
  rest : part_of_lem text (at + 1) end ≡ s

uncons : (text : List ℕ) (at end x : ℕ) (s : List ℕ) → end ≤ length text → part_of_lem text at end ≡ x ∷ s →
    Uncons text at end x s
uncons text at end x s w e =
    let l : at < end = omega (arith, part_length text at end w, ap length e) in
    let next = sym (part_here text at end l w) ∙ e in
    record { order = l; first = ap (λ s. get_or s 0 0) next; rest = ap (drop 1) next }

-- a part without its last byte
part_last : (text : List ℕ) (at end : ℕ) (v : List ℕ) (c : ℕ) → end ≤ length text →
    part_of_lem text at end ≡ v ++ (c ∷ []) → (at < end) × (part_of_lem text at (end - 1) ≡ v)
part_last text at end v c w e =
    let size : end - at ≡ suc (length v) =
    sym (part_length text at end w) ∙ ap length e ∙ length-append v (c ∷ []) ∙ omega arith in
    let less : end - 1 - at ≡ length v = omega arith in
    let smaller : length v ≤ end - at = omega arith in (
      omega arith,
      rw less
          (sym (take-take (length v) (end - at) (drop at text) smaller) ∙ ap (take (length v)) e
          ∙ take_at v (c ∷ []) (length v) refl),
    )

-- the characters of a string between two offsets, and the digits of a value
abbrev string_of : ℕ → ℕ → Bool → Characters
string_of at end either = record { at = then_some (ltb at end) at; end = end; hex = false; either = either }

abbrev value_of : Option ℕ → ℕ → Characters
value_of at end = record { at = at; end = end; hex = true; either = false }

string_left : (text : List ℕ) (at end : ℕ) (either : Bool) →
    characters_left text (string_of at end either) ≡ map (cond either either_case exact) (part_of_lem text at end)
string_left text at end either =
    cases (ltb at end)
    (λ t. rw t)
    (λ f. let none : end - at ≡ 0 = omega (arith, ltb-false at end f) in rw (f, none))

string_ready : (text : List ℕ) (at end : ℕ) (either : Bool) → end ≤ length text → Ready text (string_of at end either)
string_ready text at end either w =
    record {
      within = w;
      first =
          cases (ltb at end)
          (λ t.
          let l = ltb-true at end t in
          rw t (record { order = omega arith; string = λ h. l; fits = λ h. absurd (false≢true h) }))
          (λ f. rw f tt);
    }

-- these are the characters of a literal
abbrev LeftOf : List ℕ → List ℕ → Characters → Type 0
LeftOf text s c = (characters_left text c ≡ characters_of_lem s) × Ready text c

quoted_left : (text s : List ℕ) (at end : ℕ) (either : Bool) (v : List ℕ) → end ≤ length text →
    part_of_lem text at end ≡ v ++ (34 ∷ []) → characters_of_lem s ≡ map (cond either either_case exact) v →
    LeftOf text s (string_of at (end - 1) either)
quoted_left text s at end either v w e says =
    let last = part_last text at end v 34 w e in (
      string_left text at (end - 1) either ∙ ap (map (cond either either_case exact)) last.1 ∙ sym says,
      string_ready text at (end - 1) either (omega arith),
    )

-- the forms of a literal, and its characters in each
data Form (text s : List ℕ) (at end : ℕ) : Type 0 where
  string_form : get_or text at 0 ≡ 34 → LeftOf text s (string_of (at + 1) (end - 1) true) → Form text s at end
  value_form :
      get_or text at 0 ≡ 37 → at + 1 < end → eqb (lower (get_or text (at + 1) 0)) 120 ≡ true →
      LeftOf text s (value_of (Some (at + 2)) end) → Form text s at end
  prefixed_form :
      get_or text at 0 ≡ 37 → at + 1 < end → eqb (lower (get_or text (at + 1) 0)) 120 ≡ false →
      LeftOf text s (string_of (at + 3) (end - 1) (eqb (lower (get_or text (at + 1) 0)) 105)) → Form text s at end

prefixed : (text s : List ℕ) (at end x : ℕ) (either : Bool) (v : List ℕ) → end ≤ length text →
    part_of_lem text at end ≡ 37 ∷ x ∷ 34 ∷ (v ++ (34 ∷ [])) → eqb (lower x) 120 ≡ false → eqb (lower x) 105 ≡ either →
    characters_of_lem s ≡ map (cond either either_case exact) v → Form text s at end
prefixed text s at end x either v w e other letter says =
    let u = uncons text at end 37 (x ∷ 34 ∷ (v ++ (34 ∷ []))) w e in
    let l = uncons text (at + 1) end x (34 ∷ (v ++ (34 ∷ []))) w u.rest in
    let q = uncons text (at + 1 + 1) end 34 (v ++ (34 ∷ [])) w l.rest in
    let third : at + 1 + 1 + 1 ≡ at + 3 = omega arith in
    prefixed_form u.first l.order (rw l.first other)
    (rw (l.first, letter) (quoted_left text s (at + 3) end either v w (rw third at q.rest) says))

form_of : {e : Edition} {cs : List Character} (text s : List ℕ) (at end : ℕ) → end ≤ length text →
    part_of_lem text at end ≡ s → Literal e s cs → characters_of_lem s ≡ cs → Form text s at end
form_of text s at end w p (char_val (quoted_string {s = v} m)) says =
    let u = uncons text at end 34 (v ++ (34 ∷ [])) w p in
    string_form u.first (quoted_left text s (at + 1) end true v w u.rest says)
form_of text s at end w p (num_val {x = x} {s = d} {vs = vs} h v) says =
    let u = uncons text at end 37 (x ∷ d) w p in
    let l = uncons text (at + 1) end x d w u.rest in
    let second : at + 1 + 1 ≡ at + 2 = omega arith in
    let part : part_of_lem text (at + 2) end ≡ d = rw second at l.rest in
    let values : values_from 0 (part_of_lem text (at + 2) end) ≡ vs = ap (values_from 0) part ∙ hex_says v in
    value_form u.first l.order (rw l.first h) (
      ap (map exact) values ∙ sym says,
      record {
        within = w;
        first =
            record {
              order = omega (arith, l.order);
              string = λ n. absurd (true≢false n);
              fits = λ n. ap fit values ∙ hex_fits v;
            };
      },
    )
form_of text s at end w p (sensitive {x = x} h (quoted_string {s = v} m)) says =
    prefixed text s at end x false v w p (another_letter x 115 120 h refl) (another_letter x 115 105 h refl) says
form_of text s at end w p (insensitive {x = x} h (quoted_string {s = v} m)) says =
    prefixed text s at end x true v w p (another_letter x 105 120 h refl) h says

form : (text s : List ℕ) (at end : ℕ) → end ≤ length text → part_of_lem text at end ≡ s → IsLiteral s →
    Form text s at end
form text s at end w p (is_literal l) = form_of text s at end w p l (literal_says l)

-- which form a literal has
module _ (text : List ℕ) (at end : ℕ) (w : end ≤ length text) (l : IsLiteral (part_of_lem text at end)) where
  pub string_literal : (c : Characters) → c ≡ string_of (at + 1) (end - 1) true → get_or text at 0 ≡ 34 →
      LeftOf text (part_of_lem text at end) c
  string_literal c is h = rw is (by_form (form text (part_of_lem text at end) at end w refl l))
    where
      by_form : Form text (part_of_lem text at end) at end →
          LeftOf text (part_of_lem text at end) (string_of (at + 1) (end - 1) true)
      by_form (string_form b r) = r
      by_form (value_form b o x r) = absurd (omega arith)
      by_form (prefixed_form b o x r) = absurd (omega arith)

  pub letter_stands : (get_or text at 0 ≡ 34 → ⊥) → at + 1 < length text
  letter_stands n = by_form (form text (part_of_lem text at end) at end w refl l)
    where
      by_form : Form text (part_of_lem text at end) at end → at + 1 < length text
      by_form (string_form b r) = absurd (n b)
      by_form (value_form b o x r) = omega arith
      by_form (prefixed_form b o x r) = omega arith

  module _ (letter : ℕ) (letters : letter ≡ lower (get_or text (at + 1) 0)) (n : get_or text at 0 ≡ 34 → ⊥) where
    pub value_literal : letter ≡ 120 → LeftOf text (part_of_lem text at end) (value_of (Some (at + 2)) end)
    value_literal h = by_form (form text (part_of_lem text at end) at end w refl l)
      where
        by_form : Form text (part_of_lem text at end) at end → LeftOf text (part_of_lem text at end) (value_of (Some (at + 2)) end)
        by_form (string_form b r) = absurd (n b)
        by_form (value_form b o x r) = r
        by_form (prefixed_form b o x r) = true_and_false (eq-eqb _ 120 (sym letters ∙ h)) x

    pub prefixed_literal : (c : Characters) → c ≡ string_of (at + 3) (end - 1) (eqb letter 105) → (letter ≡ 120 → ⊥) →
        LeftOf text (part_of_lem text at end) c
    prefixed_literal c is m = rw (is, letters) (by_form (form text (part_of_lem text at end) at end w refl l))
      where
        by_form : Form text (part_of_lem text at end) at end →
            LeftOf text (part_of_lem text at end) (string_of (at + 3) (end - 1) (eqb (lower (get_or text (at + 1) 0)) 105))
        by_form (string_form b r) = absurd (n b)
        by_form (value_form b o x r) = absurd (m (letters ∙ eqb-true _ 120 x))
        by_form (prefixed_form b o x r) = r

-- the first of the characters of a string, and of a value
module _ (text : List ℕ) (left : Characters) (ready : Ready text left) (at : ℕ) (begins : left.at ≡ Some at) where
  first_at : FirstAt text left at
  first_at = MatchOption-at_some ⊤ (FirstAt text left) at begins ready.first

  pub string_next : left.hex ≡ false → (c : Characters) → c ≡ string_of (at + 1) left.end left.either →
      (characters_left text left ≡ record { byte = get_or text at 0; either = left.either } ∷ characters_left text c)
      × Ready text c
  string_next h c is =
      rw is (
        rw (begins, h, part_here text at left.end (first_at.string h) ready.within)
            (ap₂ (λ c cs. c ∷ cs) (one left.either (get_or text at 0))
            (sym (string_left text (at + 1) left.end left.either))),
        string_ready text (at + 1) left.end left.either ready.within,
      )
    where
      one : (either : Bool) (b : ℕ) → cond either either_case exact b ≡ record { byte = b; either = either }
      one true b = refl
      one false b = refl

  pub value_next : (value : ℕ) (next : Option ℕ) → left.hex ≡ true →
      values_from 0 (part_of_lem text at left.end) ≡ value ∷ values_after text next left.end →
      MatchOption next ⊤ (λ n. n ≤ left.end) →
      (characters_left text left
      ≡ record { byte = value; either = false }
      ∷ characters_left text (record { at = next; end = left.end; hex = left.hex; either = left.either }))
      × Ready text (record { at = next; end = left.end; hex = left.hex; either = left.either })
  unfolding fit
  value_next value None h e l = (rw (begins, h, e), record { within = ready.within; first = tt })
  value_next value (Some n) h e l = (
    rw (begins, h, e),
    record {
      within = ready.within;
      first =
          record {
            order = l;
            string = λ f. true_and_false h f;
            fits = λ t. and_right (leb value 255) _ (rw e at (first_at.fits h));
          };
    },
  )
