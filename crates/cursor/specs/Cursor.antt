-- What stands at an offset of a text of the part: rules, alternatives, elements and characters one after the other.
-- Assumes nothing.
use Rattle.std.specs.Prelude.{ℕ, ◌≤◌, ◌<◌, ◌≡◌, Bool, false, true, cond, Option, None, Some, ⊤, MatchOption, List, [], ◌∷◌, ◌++◌, map, length, drop}
use Rattle.abnf.specs.declared.Edition.{Edition}
use Rattle.abnf.specs.declared.Character.{Character}
use Rattle.abnf.specs.declared.Stage.{Stage}
use Rattle.abnf.specs.declared.Stage.TheVariants.{LineStart, Open, Filled}
use Rattle.abnf.specs.declared.Fault.TheVariants.{Nothing}
use Rattle.abnf.specs.Bytes.{is_wsp_lem, exact, either_case}
use Rattle.abnf.specs.Text.{Element, name, characters, Literal, Rulename}
use Rattle.abnf.specs.Pieces.{pieces_of, begins, fit, values_from}
use Rattle.abnf.specs.Reading.{Said, says_from, fault_from, line_said, mark_said, element_said, slash_said, characters_of_lem}
use Rattle.abnf.specs.Uses.{Use, heads, mentioned, uses_from}
use Rattle.scanner.specs.Parts.{part_of_lem}
use Rattle.cursor.specs.declared.Head.{Head}
use Rattle.cursor.specs.declared.After.{After}
use Rattle.cursor.specs.declared.After.TheVariants.{ElementAfter, AlternativeAfter, RuleAfter}
use Rattle.cursor.specs.declared.ElementPart.{ElementPart}
use Rattle.cursor.specs.declared.Characters.{Characters}

-- what the text says from an offset on, where names stand in it, and that it does not leave the part there
abbrev pub said_at : Edition → Stage → List ℕ → ℕ → Said
said_at e stage text at = says_from stage (pieces_of e (drop at text))

abbrev pub uses_at : Edition → Stage → List ℕ → ℕ → List Use
uses_at e stage text at = uses_from stage at (pieces_of e (drop at text))

abbrev pub FineAt : Edition → Stage → List ℕ → ℕ → Type 0
FineAt e stage text at = fault_from stage at (pieces_of e (drop at text)) ≡ Nothing

-- an element begins at the offset
pub record ElementBegins (e : Edition) (text : List ℕ) (at : ℕ) : Type 0 where
  pub inside : at < length text
  pub fine : FineAt e Open text at
  pub no_blank : begins is_wsp_lem (drop at text) ≡ false

-- the rule whose line begins at the offset: its name, its mark, and where its first element begins
pub record HeadRead (e : Edition) (text : List ℕ) (at : ℕ) (h : Head) : Type 0 where
  pub past : at < h.end
  pub order : h.end < h.body
  pub within : h.body ≤ length text
  pub name : Rulename (part_of_lem text at h.end)
  pub says :
      said_at e LineStart text at
      ≡ line_said (part_of_lem text at h.end) (mark_said h.mark (said_at e Open text h.body))
  pub uses :
      uses_at e LineStart text at ≡ heads at (part_of_lem text at h.end) h.mark ∷ uses_at e Open text h.body
  pub element : ElementBegins e text h.body

-- what stands after an element: another of the same alternative, another alternative, or the end of the rule
abbrev pub said_after : Edition → After → List ℕ → ℕ → Said
said_after e ElementAfter text next = said_at e Open text next
said_after e AlternativeAfter text next = slash_said (said_at e Open text next)
said_after e RuleAfter text next = said_at e LineStart text next

abbrev pub uses_after : Edition → After → List ℕ → ℕ → List Use
uses_after e ElementAfter text next = uses_at e Open text next
uses_after e AlternativeAfter text next = uses_at e Open text next
uses_after e RuleAfter text next = uses_at e LineStart text next

abbrev pub FineAfter : Edition → After → List ℕ → ℕ → Type 0
FineAfter e ElementAfter text next = ElementBegins e text next
FineAfter e AlternativeAfter text next = ElementBegins e text next
FineAfter e RuleAfter text next = FineAt e LineStart text next

-- the bytes of a literal of any edition
pub data IsLiteral : List ℕ → Type 0 where
  is_literal : {e : Edition} {s : List ℕ} {cs : List Character} → Literal e s cs → IsLiteral s

-- the bytes of a literal or of a name, the element that they are, and its use of a name if it is one
abbrev pub IsElement : Bool → List ℕ → Type 0
IsElement true s = IsLiteral s
IsElement false s = Rulename s

abbrev pub element_of : Bool → List ℕ → Element
element_of true s = characters (characters_of_lem s)
element_of false s = name s

abbrev pub uses_in : ℕ → Bool → List ℕ → List Use
uses_in at true s = []
uses_in at false s = mentioned at s ∷ []

-- the element that begins at the offset, and what stands after it
pub record ElementRead (e : Edition) (text : List ℕ) (at : ℕ) (x : ElementPart) : Type 0 where
  pub past : at < x.end
  pub order : x.end ≤ x.next
  pub within : x.next ≤ length text
  pub bytes : IsElement x.literal (part_of_lem text at x.end)
  pub says :
      said_at e Open text at
      ≡ element_said (element_of x.literal (part_of_lem text at x.end)) (said_after e x.after text x.next)
  pub uses :
      uses_at e Open text at
      ≡ uses_in at x.literal (part_of_lem text at x.end) ++ uses_after e x.after text x.next
  pub after : FineAfter e x.after text x.next

-- the characters of a literal from an offset on, if there is one
abbrev pub characters_from : List ℕ → Characters → Option ℕ → List Character
characters_from text c None = []
characters_from text c (Some at) =
    cond c.hex (map exact (values_from 0 (part_of_lem text at c.end)))
    (map (cond c.either either_case exact) (part_of_lem text at c.end))

-- the characters of a literal that are left
abbrev pub characters_left : List ℕ → Characters → List Character
characters_left text c = characters_from text c c.at

-- one of them begins at an offset, and numbers among them are at most FF
pub record FirstAt (text : List ℕ) (c : Characters) (at : ℕ) : Type 0 where
  pub order : at ≤ c.end
  pub string : c.hex ≡ false → at < c.end
  pub fits : c.hex ≡ true → fit (values_from 0 (part_of_lem text at c.end)) ≡ true

-- they stand in the text
pub record Ready (text : List ℕ) (c : Characters) : Type 0 where
  pub within : c.end ≤ length text
  pub first : MatchOption c.at ⊤ (FirstAt text c)

-- what stands after an element that ends at an offset, and where
pub record AfterRead (e : Edition) (text : List ℕ) (end : ℕ) (a : After) (next : ℕ) : Type 0 where
  pub order : end ≤ next
  pub within : next ≤ length text
  pub says : said_at e Filled text end ≡ said_after e a text next
  pub uses : uses_at e Filled text end ≡ uses_after e a text next
  pub after : FineAfter e a text next
