-- What is left of a text at each stage of a line, in the terms of the grammar, and what may stand before it. Assumes
-- nothing.
use Rattle.grammar.proofs.Basics.{ℕ, List, [], ◌∷◌, ◌++◌, append_assoc, append-nil}
use Rattle.abnf.specs.declared.Edition.{Edition}
use Rattle.abnf.specs.declared.Mark.{Mark}
use Rattle.abnf.specs.declared.Mark.TheVariants.{Defines}
use Rattle.abnf.specs.declared.Stage.{Stage}
use Rattle.abnf.specs.declared.Stage.TheVariants.{LineStart, Named, NamedSpaced, Open, OpenSpaced, Filled}
use Rattle.abnf.specs.declared.Stage.TheVariants.{FilledSpaced, Noted}
use Rattle.abnf.specs.Bytes.{is_wsp_lem}
use Rattle.abnf.specs.Text.{Element, Line, Many, OneOrMore, Rulename, Sign, DefinedAs}
use Rattle.abnf.specs.Text.{ElementText, last_element, next_element, Alternation, last_concatenation}
use Rattle.abnf.specs.Text.{next_concatenation, Elements, elements, LineEnd, rule, Rulelist, last_rule}
use Rattle.abnf.specs.Text.{next_rule}
use Rattle.abnf.specs.Reading.{Said}

-- nothing, or rules
pub data Rules (e : Edition) : List ℕ → List Line → Type 0 where
  no_rule : Rules e [] []
  rules : {s : List ℕ} {ls : List Line} → Rulelist e s ls → Rules e s ls

-- the end of a line, and what follows it
pub data Tail (e : Edition) : List ℕ → List Line → Type 0 where
  tail : {c t : List ℕ} {ls : List Line} → LineEnd c → Rules e t ls → Tail e (c ++ t) ls

-- what is said where a line is at its end
abbrev pub before_lines : List Line → Said
before_lines ls = record { mark = Defines; here = []; others = []; lines = ls }

-- The rest of a text of the part from a stage on, and what it says; outside there is none. Past an element it is what
-- makes elements of any element before it, and where blanks were read, of these too.
pub data Rest (e : Edition) : Stage → List ℕ → Said → Type 0 where
  start_rest :
      {s : List ℕ} {ls : List Line} → Rules e s ls → Rest e LineStart s (before_lines ls)
  named_rest :
      {d s t : List ℕ} {said : Said} →
      DefinedAs d said.mark → Elements e s (said.here ∷ said.others) → Tail e t said.lines →
      Rest e Named (d ++ (s ++ t)) said
  named_spaced_rest :
      {g c s t : List ℕ} {said : Said} →
      Sign g said.mark → Many is_wsp_lem c → Elements e s (said.here ∷ said.others) → Tail e t said.lines →
      Rest e NamedSpaced (g ++ (c ++ (s ++ t))) said
  open_rest :
      {a s t : List ℕ} {said : Said} →
      Many is_wsp_lem a → Elements e s (said.here ∷ said.others) → Tail e t said.lines →
      Rest e Open (a ++ (s ++ t)) said
  open_spaced_rest :
      {s t : List ℕ} {said : Said} →
      Elements e s (said.here ∷ said.others) → Tail e t said.lines → Rest e OpenSpaced (s ++ t) said
  filled_rest :
      {r t : List ℕ} {said : Said} →
      ((s : List ℕ) (x : Element) → ElementText e s x → Elements e (s ++ r) ((x ∷ said.here) ∷ said.others)) →
      Tail e t said.lines → Rest e Filled (r ++ t) said
  filled_spaced_rest :
      {r t : List ℕ} {said : Said} →
      ((s b : List ℕ) (x : Element) → ElementText e s x → OneOrMore is_wsp_lem b →
      Elements e (s ++ (b ++ r)) ((x ∷ said.here) ∷ said.others)) →
      Tail e t said.lines → Rest e FilledSpaced (r ++ t) said
  noted_rest :
      {t : List ℕ} {ls : List Line} → Rules e t ls → Rest e Noted (13 ∷ 10 ∷ t) (before_lines ls)

-- one element more before an alternation
alternation_before :
    {e : Edition} {s b t : List ℕ} {x : Element} {xs : List Element} {xss : List (List Element)} →
    ElementText e s x → OneOrMore is_wsp_lem b → Alternation e t (xs ∷ xss) →
    Alternation e (s ++ (b ++ t)) ((x ∷ xs) ∷ xss)
alternation_before w o (last_concatenation c) = last_concatenation (next_element w o c)
alternation_before {e} {s} {b} {x} {xs} {xss} w o (next_concatenation {s = u} {a = a} {b = c} {t = t} d m n r) =
    let it : Alternation e ((s ++ (b ++ u)) ++ (a ++ (47 ∷ (c ++ t)))) ((x ∷ xs) ∷ xss) =
    next_concatenation (next_element w o d) m n r in
    rw (append_assoc s, append_assoc b) at it

-- and before elements
pub element_before :
    {e : Edition} {s b t : List ℕ} {x : Element} {xs : List Element} {xss : List (List Element)} →
    ElementText e s x → OneOrMore is_wsp_lem b → Elements e t (xs ∷ xss) → Elements e (s ++ (b ++ t)) ((x ∷ xs) ∷ xss)
element_before {e} {s} {b} {x} {xs} {xss} w o (elements {s = t} {a = a} r m) =
    let it : Elements e ((s ++ (b ++ t)) ++ a) ((x ∷ xs) ∷ xss) = elements (alternation_before w o r) m in
    rw (append_assoc s, append_assoc b) at it

-- an element and a slash before elements
pub slash_before :
    {e : Edition} {s a b t : List ℕ} {x : Element} {xss : List (List Element)} →
    ElementText e s x → Many is_wsp_lem a → Many is_wsp_lem b → Elements e t xss →
    Elements e (s ++ (a ++ (47 ∷ (b ++ t)))) ((x ∷ []) ∷ xss)
slash_before {e} {s} {a} {b} {x} {xss} w m n (elements {s = t} {a = c} r k) =
    let it : Elements e ((s ++ (a ++ (47 ∷ (b ++ t)))) ++ c) ((x ∷ []) ∷ xss) =
    elements (next_concatenation (last_element w) m n r) k in
    rw (append_assoc s, append_assoc a, append_assoc b) at it

-- an element alone, with blanks after it
pub element_last :
    {e : Edition} {s a : List ℕ} {x : Element} → ElementText e s x → Many is_wsp_lem a → Elements e (s ++ a) ((x ∷ []) ∷ [])
element_last w m = elements (last_concatenation (last_element w)) m

-- a rule before the rules that follow it
pub rule_before :
    {e : Edition} {n d s t : List ℕ} {m : Mark} {xss : List (List Element)} {ls : List Line} →
    Rulename n → DefinedAs d m → Elements e s xss → Tail e t ls →
    Rulelist e (n ++ (d ++ (s ++ t))) (record { name = n; mark = m; alternatives = xss } ∷ ls)
rule_before n d s (tail {c = c} l no_rule) = rw (append-nil c) (last_rule (rule n d s l))
rule_before {e} {n} {d} {s} {m} {xss} {ls} N D S (tail {c = c} {t = t} l (rules r)) =
    let it : Rulelist e ((n ++ (d ++ (s ++ c))) ++ t) (record { name = n; mark = m; alternatives = xss } ∷ ls) =
    next_rule (rule N D S l) r in
    rw (append_assoc n, append_assoc d, append_assoc s) at it
