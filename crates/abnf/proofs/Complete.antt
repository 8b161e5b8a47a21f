-- From the grammar to pieces: rules are a walk from the start of a line to the start of a line. Assumes nothing.
use Rattle.grammar.proofs.Basics.{ℕ, List, [], ◌∷◌, ◌++◌, append_assoc, append-nil, ◌≡◌, refl, ap, false}
use mathlib.Core.List.{nil≢cons}
use Rattle.abnf.specs.declared.Edition.{Edition}
use Rattle.abnf.specs.declared.Mark.{Mark}
use Rattle.abnf.specs.declared.Mark.TheVariants.{Defines}
use Rattle.abnf.specs.declared.PieceKind.{PieceKind}
use Rattle.abnf.specs.declared.PieceKind.TheVariants.{MarkPiece, BlankPiece}
use Rattle.abnf.specs.declared.Stage.{Stage}
use Rattle.abnf.specs.declared.Stage.TheVariants.{LineStart, Named, NamedSpaced, Open, OpenSpaced, Filled}
use Rattle.abnf.specs.declared.Stage.TheVariants.{FilledSpaced, Noted}
use Rattle.abnf.specs.Bytes.{is_wsp_lem}
use Rattle.abnf.specs.Text.{Element, Line, Many, no_more, one_more, at_least_one, Sign, defined_as, ElementText}
use Rattle.abnf.specs.Text.{by_name, by_literal, Concatenation, last_element, next_element, Alternation}
use Rattle.abnf.specs.Text.{last_concatenation, next_concatenation, Elements, elements, LineEnd, at_once}
use Rattle.abnf.specs.Text.{after_comment, RuleText, rule, Rulelist, last_rule, next_rule}
use Rattle.abnf.specs.Pieces.{Piece}
use Rattle.abnf.specs.Reading.{follows, is_outside_lem, Said, nothing_said_lem, element_said, mark_said, says, says_from}
use Rattle.abnf.specs.Theorems.Reading.{joined}
use Rattle.abnf.proofs.Literals.{literal_says, sign_says}
use Rattle.abnf.proofs.Walks.{PieceText, name_text, mark_text, slash_text, blank_text, literal_text}
use Rattle.abnf.proofs.Walks.{comment_text, end_text, Walks, no_piece, next_piece}

-- bytes of which pieces lead from a stage to the start of a line, and what these say
data Written (e : Edition) : Stage → List ℕ → Said → Type 0 where
  done : Written e LineStart [] nothing_said_lem
  piece :
      {k : PieceKind} {b s : List ℕ} {said : Said} (σ : Stage) →
      PieceText e k b → is_outside_lem (follows σ k) ≡ false → Written e (follows σ k) s said →
      Written e σ (b ++ s) (says σ k b said)

-- such pieces
record Found (e : Edition) (σ : Stage) (bytes : List ℕ) (said : Said) : Type 0 where
  pieces : List Piece
  walks : Walks e σ pieces LineStart
  bytes_are : joined pieces ≡ bytes
  said_is : says_from σ pieces ≡ said

found : {e : Edition} {σ : Stage} {s : List ℕ} {said : Said} → Written e σ s said → Found e σ s said
unfolding joined says_from
found done = record { pieces = []; walks = no_piece; bytes_are = refl; said_is = refl }
found (piece {k = k} {b = b} σ t o w) =
    let r = found w in
    record {
      pieces = record { kind = k; bytes = b } ∷ r.pieces;
      walks = next_piece t o r.walks;
      bytes_are = ap (λ s. b ++ s) r.bytes_are;
      said_is = ap (says σ k b) r.said_is;
    }

-- blanks or none before what may stand in both places
blanks : {e : Edition} {a s : List ℕ} {said : Said} (σ : Stage) → is_outside_lem (follows σ BlankPiece) ≡ false →
    Many is_wsp_lem a → Written e σ s said → Written e (follows σ BlankPiece) s said → Written e σ (a ++ s) said
blanks σ o no_more w v = w
blanks σ o (one_more h m) w v = piece σ (blank_text (at_least_one h m)) o v

-- where an element may stand
data TakesElement : Stage → Type 0 where
  at_open : TakesElement Open
  at_open_spaced : TakesElement OpenSpaced
  at_filled_spaced : TakesElement FilledSpaced

-- elements before what is said; what a line's alternatives and the lines after it say
abbrev elements_said : List Element → Said → Said
elements_said xs said =
    record { mark = said.mark; here = xs ++ said.here; others = said.others; lines = said.lines }

abbrev front : List (List Element) → List Element
front [] = []
front (xs ∷ xss) = xs

abbrev behind : List (List Element) → List (List Element)
behind [] = []
behind (xs ∷ xss) = xss

abbrev in_line : List (List Element) → List Line → Said
in_line xss ls = record { mark = Defines; here = front xss; others = behind xss; lines = ls }

-- an alternation has an alternative
alternatives_are : {e : Edition} {s : List ℕ} {xss : List (List Element)} →
    Alternation e s xss → front xss ∷ behind xss ≡ xss
alternatives_are (last_concatenation c) = refl
alternatives_are (next_concatenation c m n r) = refl

-- and so have elements
elements_are : {e : Edition} {s : List ℕ} {xss : List (List Element)} → Elements e s xss → front xss ∷ behind xss ≡ xss
elements_are (elements r m) = alternatives_are r

-- the end of a line, past an element
line_end_lem : {e : Edition} {c t : List ℕ} {said : Said} →
    LineEnd c → Written e LineStart t said → Written e Filled (c ++ t) said
line_end_lem at_once w = piece Filled end_text refl w
line_end_lem (after_comment {s = s} d) w =
    rw (append_assoc s) (piece Filled (comment_text d) refl (piece Noted end_text refl w))

-- and past blanks
line_end_spaced : {e : Edition} {c t : List ℕ} {said : Said} →
    LineEnd c → Written e LineStart t said → Written e FilledSpaced (c ++ t) said
line_end_spaced at_once w = piece FilledSpaced end_text refl w
line_end_spaced (after_comment {s = s} d) w =
    rw (append_assoc s) (piece FilledSpaced (comment_text d) refl (piece Noted end_text refl w))

-- a mark
mark : {e : Edition} {g s : List ℕ} {m : Mark} {said : Said} (σ : Stage) → is_outside_lem (follows σ MarkPiece) ≡ false →
    Sign g m → Written e (follows σ MarkPiece) s said → Written e σ (g ++ s) (mark_said m said)
mark σ o g w = rw (← sign_says g) (piece σ (mark_text g) o w)

-- an element, a concatenation, an alternation, elements and the end of their line, each before what follows it
element : {e : Edition} {σ : Stage} {s t : List ℕ} {x : Element} {said : Said} →
    TakesElement σ → ElementText e s x → Written e Filled t said → Written e σ (s ++ t) (element_said x said)
element at_open (by_name n) w = piece Open (name_text n) refl w
element at_open_spaced (by_name n) w = piece OpenSpaced (name_text n) refl w
element at_filled_spaced (by_name n) w = piece FilledSpaced (name_text n) refl w
element at_open (by_literal l) w = rw (← literal_says l) (piece Open (literal_text l) refl w)
element at_open_spaced (by_literal l) w = rw (← literal_says l) (piece OpenSpaced (literal_text l) refl w)
element at_filled_spaced (by_literal l) w = rw (← literal_says l) (piece FilledSpaced (literal_text l) refl w)

concatenation : {e : Edition} {σ : Stage} {s t : List ℕ} {xs : List Element} {said : Said} →
    TakesElement σ → Concatenation e s xs → Written e Filled t said → Written e σ (s ++ t) (elements_said xs said)
concatenation p (last_element x) w = element p x w
concatenation p (next_element {s = s} {b = b} x o c) w =
    rw (append_assoc s, append_assoc b)
    (element p x (piece Filled (blank_text o) refl (concatenation at_filled_spaced c w)))

alternation : {e : Edition} {σ : Stage} {s t : List ℕ} {xss : List (List Element)} {ls : List Line} →
    TakesElement σ → Alternation e s xss → Written e Filled t (in_line [] ls) → Written e σ (s ++ t) (in_line xss ls)
alternation p (last_concatenation {xs = xs} c) w = rw (append-nil xs) at (concatenation p c w)
alternation p (next_concatenation {s = s} {a = a} {b = b} {xs = xs} c m n r) w =
    let after = blanks Open refl n (alternation at_open r w) (alternation at_open_spaced r w) in
    let slash = blanks Filled refl m (piece Filled slash_text refl after) (piece FilledSpaced slash_text refl after) in
    rw (append_assoc s, append_assoc a, append_assoc b)
    (rw (append-nil xs, alternatives_are r) at (concatenation p c slash))

line : {e : Edition} {σ : Stage} {s c t : List ℕ} {xss : List (List Element)} {ls : List Line} →
    TakesElement σ → Elements e s xss → LineEnd c → Written e LineStart t (in_line [] ls) →
    Written e σ (s ++ (c ++ t)) (in_line xss ls)
line p (elements {s = s} r m) c w =
    rw (append_assoc s) (alternation p r (blanks Filled refl m (line_end_lem c w) (line_end_spaced c w)))

-- a rule before lines
rule_first : {e : Edition} {s t : List ℕ} {l : Line} {ls : List Line} →
    RuleText e s l → Written e LineStart t (in_line [] ls) → Written e LineStart (s ++ t) (in_line [] (l ∷ ls))
rule_first (rule {n = n} {s = s} N (defined_as {a = a} {s = g} {c = c} m G k) S E) w =
    let after = blanks Open refl k (line at_open S E w) (line at_open_spaced S E w) in
    let marked = blanks Named refl m (mark Named refl G after) (mark NamedSpaced refl G after) in
    rw (append_assoc n, append_assoc (a ++ (g ++ c)), append_assoc s, append_assoc a, append_assoc g)
    (rw (elements_are S) at (piece LineStart (name_text N) refl marked))

-- a list of rules
rules_written : {e : Edition} {s : List ℕ} {ls : List Line} → Rulelist e s ls → Written e LineStart s (in_line [] ls)
rules_written (last_rule r) = rw append-nil at (rule_first r done)
rules_written (next_rule r rs) = rule_first r (rules_written rs)

-- pieces of a text, one at least, that walk from the start of a line to the start of a line and say the lines
pub record RulePieces (e : Edition) (text : List ℕ) (lines : List Line) : Type 0 where
  pub first : Piece
  pub others : List Piece
  pub walks : Walks e LineStart (first ∷ others) LineStart
  pub bytes : joined (first ∷ others) ≡ text
  pub says_lines : (says_from LineStart (first ∷ others)).lines ≡ lines

-- no piece says no line
some_piece : {e : Edition} {s : List ℕ} {l : Line} {ls : List Line} (ps : List Piece) →
    Walks e LineStart ps LineStart → joined ps ≡ s → (says_from LineStart ps).lines ≡ l ∷ ls → RulePieces e s (l ∷ ls)
unfolding says_from
some_piece [] w b h = absurd (nil≢cons h)
some_piece (p ∷ ps) w b h = record { first = p; others = ps; walks = w; bytes = b; says_lines = h }

-- bytes that say a line have pieces, one at least
of_written : {e : Edition} {s : List ℕ} {l : Line} {ls : List Line} →
    Written e LineStart s (in_line [] (l ∷ ls)) → RulePieces e s (l ∷ ls)
of_written w =
    let f = found w in
    some_piece f.pieces f.walks f.bytes_are (ap (λ said. said.lines) f.said_is)

-- a list of rules has such pieces
pub rulelist_walks :
    (e : Edition) (text : List ℕ) (lines : List Line) → Rulelist e text lines → RulePieces e text lines
rulelist_walks e text lines (last_rule r) = of_written (rules_written (last_rule r))
rulelist_walks e text lines (next_rule r rs) = of_written (rules_written (next_rule r rs))
