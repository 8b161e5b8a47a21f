-- The part of ABNF that is read, rule by rule as RFC 5234, section 4, has them and under its names, over the bytes of a
-- text. Each family also says what the bytes say. Assumes nothing.
use Rattle.std.specs.Prelude.{ℕ, ◌≤◌, ◌≡◌, Bool, true, List, [], ◌∷◌, ◌++◌, map}
use Rattle.abnf.specs.declared.Edition.{Edition}
use Rattle.abnf.specs.declared.Edition.TheVariants.{Rfc7405}
use Rattle.abnf.specs.declared.Mark.{Mark}
use Rattle.abnf.specs.declared.Mark.TheVariants.{Defines, Adds}
use Rattle.abnf.specs.declared.Character.{Character}
use Rattle.abnf.specs.Bytes.{is_alpha_lem, is_hexdig, is_wsp_lem, in_name, in_string, in_comment, is_x, is_s, is_i, value_from}
use Rattle.abnf.specs.Bytes.{exact, either_case}

-- The text of ABNF: an element is the name of a rule or a string of characters
pub data Element : Type 0 where
  name : List ℕ → Element
  characters : List Character → Element

-- The text of ABNF: what a line says. An alternative is a string of elements.
pub record Line : Type 0 where
  pub name : List ℕ
  pub mark : Mark
  pub alternatives : List (List Element)

-- bytes that all pass a test, any number of them
pub data Many (p : ℕ → Bool) : List ℕ → Type 0 where
  no_more : Many p []
  one_more : {b : ℕ} {s : List ℕ} → p b ≡ true → Many p s → Many p (b ∷ s)

-- and at least one
pub data OneOrMore (p : ℕ → Bool) : List ℕ → Type 0 where
  at_least_one : {b : ℕ} {s : List ℕ} → p b ≡ true → Many p s → OneOrMore p (b ∷ s)

-- RFC 5234, rulename: a letter, then letters, digits and dashes
pub data Rulename : List ℕ → Type 0 where
  rulename : {b : ℕ} {s : List ℕ} → is_alpha_lem b ≡ true → Many in_name s → Rulename (b ∷ s)

-- RFC 5234, defined_as: the signs = and =/ themselves, and with the blanks around them
pub data Sign : List ℕ → Mark → Type 0 where
  equals : Sign (61 ∷ []) Defines
  equals_slash : Sign (61 ∷ 47 ∷ []) Adds

pub data DefinedAs : List ℕ → Mark → Type 0 where
  defined_as :
      {a s c : List ℕ} {m : Mark} → Many is_wsp_lem a → Sign s m → Many is_wsp_lem c → DefinedAs (a ++ (s ++ c)) m

-- RFC 7405, quoted_string: what stands between two quotes
pub data QuotedString : List ℕ → List ℕ → Type 0 where
  quoted_string : {s : List ℕ} → Many in_string s → QuotedString (34 ∷ (s ++ (34 ∷ []))) s

-- RFC 5234, hex_val, without ranges: numbers of hexadecimal digits with dots between them, none above FF
pub data HexVal : List ℕ → List ℕ → Type 0 where
  last_value : {d : List ℕ} → OneOrMore is_hexdig d → value_from 0 d ≤ 255 → HexVal d (value_from 0 d ∷ [])
  dot :
      {d s vs : List ℕ} → OneOrMore is_hexdig d → value_from 0 d ≤ 255 → HexVal s vs →
      HexVal (d ++ (46 ∷ s)) (value_from 0 d ∷ vs)

-- RFC 5234, char_val and num_val, and RFC 7405, case-sensitive-string and case-insensitive-string with its %i
pub data Literal : Edition → List ℕ → List Character → Type 0 where
  char_val : {e : Edition} {s w : List ℕ} → QuotedString s w → Literal e s (map either_case w)
  num_val :
      {e : Edition} {x : ℕ} {s vs : List ℕ} → is_x x ≡ true → HexVal s vs → Literal e (37 ∷ x ∷ s) (map exact vs)
  sensitive :
      {x : ℕ} {s w : List ℕ} → is_s x ≡ true → QuotedString s w → Literal Rfc7405 (37 ∷ x ∷ s) (map exact w)
  insensitive :
      {x : ℕ} {s w : List ℕ} → is_i x ≡ true → QuotedString s w → Literal Rfc7405 (37 ∷ x ∷ s) (map either_case w)

-- RFC 5234, element, and repetition without a number
pub data ElementText : Edition → List ℕ → Element → Type 0 where
  by_name : {e : Edition} {s : List ℕ} → Rulename s → ElementText e s (name s)
  by_literal : {e : Edition} {s : List ℕ} {cs : List Character} → Literal e s cs → ElementText e s (characters cs)

-- RFC 5234, concatenation: elements with blanks between them
pub data Concatenation : Edition → List ℕ → List Element → Type 0 where
  last_element : {e : Edition} {s : List ℕ} {x : Element} → ElementText e s x → Concatenation e s (x ∷ [])
  next_element :
      {e : Edition} {s b t : List ℕ} {x : Element} {xs : List Element} →
      ElementText e s x → OneOrMore is_wsp_lem b → Concatenation e t xs → Concatenation e (s ++ (b ++ t)) (x ∷ xs)

-- RFC 5234, alternation: concatenations with slashes between them, and blanks around these
pub data Alternation : Edition → List ℕ → List (List Element) → Type 0 where
  last_concatenation :
      {e : Edition} {s : List ℕ} {xs : List Element} → Concatenation e s xs → Alternation e s (xs ∷ [])
  next_concatenation :
      {e : Edition} {s a b t : List ℕ} {xs : List Element} {xss : List (List Element)} →
      Concatenation e s xs → Many is_wsp_lem a → Many is_wsp_lem b → Alternation e t xss →
      Alternation e (s ++ (a ++ (47 ∷ (b ++ t)))) (xs ∷ xss)

-- RFC 5234, elements: an alternation, and blanks after it
pub data Elements : Edition → List ℕ → List (List Element) → Type 0 where
  elements :
      {e : Edition} {s a : List ℕ} {xss : List (List Element)} → Alternation e s xss → Many is_wsp_lem a →
      Elements e (s ++ a) xss

-- RFC 5234, comment, less its CRLF, and c-nl, for which a line ends by CRLF with or without a comment before it
pub data Comment : List ℕ → Type 0 where
  comment : {s : List ℕ} → Many in_comment s → Comment (59 ∷ s)

pub data LineEnd : List ℕ → Type 0 where
  at_once : LineEnd (13 ∷ 10 ∷ [])
  after_comment : {s : List ℕ} → Comment s → LineEnd (s ++ (13 ∷ 10 ∷ []))

-- RFC 5234, rule
pub data RuleText : Edition → List ℕ → Line → Type 0 where
  rule :
      {e : Edition} {n d s c : List ℕ} {m : Mark} {xss : List (List Element)} →
      Rulename n → DefinedAs d m → Elements e s xss → LineEnd c →
      RuleText e (n ++ (d ++ (s ++ c))) (record { name = n; mark = m; alternatives = xss })

-- RFC 5234, rulelist: one rule or more, and no lines without a rule
pub data Rulelist : Edition → List ℕ → List Line → Type 0 where
  last_rule : {e : Edition} {s : List ℕ} {l : Line} → RuleText e s l → Rulelist e s (l ∷ [])
  next_rule :
      {e : Edition} {s t : List ℕ} {l : Line} {ls : List Line} →
      RuleText e s l → Rulelist e t ls → Rulelist e (s ++ t) (l ∷ ls)
