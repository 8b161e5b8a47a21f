-- The characters of a text of the part are bytes: those between quotes are at most 126, and no value is above 255.
-- Assumes nothing.
use Rattle.grammar.proofs.Basics.{◌≡◌, refl, true, List, map, Memᴰ·of-map, ℕ, ◌<◌, arith, leb, and_left, and_right}
use Rattle.grammar.proofs.Basics.{leb-true, eqb, not, ◌&&◌}
use Rattle.abnf.specs.declared.Edition.{Edition}
use Rattle.abnf.specs.declared.Character.{Character}
use Rattle.abnf.specs.declared.Fault.TheVariants.{Nothing}
use Rattle.abnf.specs.Bytes.{in_string, exact, either_case}
use Rattle.abnf.specs.Text.{Element, name, characters, Line, Many, no_more, one_more, quoted_string, QuotedString}
use Rattle.abnf.specs.Text.{HexVal, last_value, dot, Literal, char_val, num_val, sensitive, insensitive, ElementText}
use Rattle.abnf.specs.Text.{by_name, by_literal, Concatenation, last_element, next_element, Alternation}
use Rattle.abnf.specs.Text.{last_concatenation, next_concatenation, elements, RuleText, rule, Rulelist, last_rule}
use Rattle.abnf.specs.Text.{next_rule}
use Rattle.abnf.specs.Reading.{fault_of, lines_of}
use Rattle.abnf.proofs.OfThePart.{of_the_part_lem}
use Rattle.abnf_jobs.proofs.Premises.{Bytes}
use Rattle.abnf_jobs.proofs.EveryMember.{Every, every_none, every_more}

abbrev Byte : ℕ → Type 0
Byte b = b < 256

abbrev CharacterByte : Character → Type 0
CharacterByte c = c.byte < 256

abbrev ElementBytes : Element → Type 0
ElementBytes (name n) = Unit {0}
ElementBytes (characters cs) = Every CharacterByte cs

abbrev AlternativeBytes : List Element → Type 0
AlternativeBytes xs = Every ElementBytes xs

abbrev LineBytes : Line → Type 0
LineBytes l = Every AlternativeBytes l.alternatives

-- what may stand between quotes
string_byte : (b : ℕ) → in_string b ≡ true → b < 256
string_byte b h =
    let range = and_left (leb 32 b && leb b 126) (not (eqb b 34)) h in
    omega (arith, leb-true b 126 (and_right (leb 32 b) (leb b 126) range))

many_bytes : {w : List ℕ} → Many in_string w → Every Byte w
many_bytes no_more = every_none Byte
many_bytes (one_more {b = b} h m) = every_more Byte (string_byte b h) (many_bytes m)

quoted_bytes : {s w : List ℕ} → QuotedString s w → Every Byte w
quoted_bytes (quoted_string m) = many_bytes m

value_bytes : {s vs : List ℕ} → HexVal s vs → Every Byte vs
value_bytes (last_value o l) = every_more Byte (omega arith) (every_none Byte)
value_bytes (dot o l v) = every_more Byte (omega arith) (value_bytes v)

-- characters of bytes
made_bytes : (f : ℕ → Character) → ((b : ℕ) → (f b).byte ≡ b) → (w : List ℕ) → Every Byte w →
    Every CharacterByte (map f w)
made_bytes f is w below c m =
    let (b, k, e) = Memᴰ·of-map f w m in
    rw (← e, is b) (below b k)

literal_bytes : {e : Edition} {s : List ℕ} {cs : List Character} → Literal e s cs → Every CharacterByte cs
literal_bytes (char_val {w = w} q) = made_bytes either_case (λ b. refl) w (quoted_bytes q)
literal_bytes (num_val {vs = vs} h v) = made_bytes exact (λ b. refl) vs (value_bytes v)
literal_bytes (sensitive {w = w} h q) = made_bytes exact (λ b. refl) w (quoted_bytes q)
literal_bytes (insensitive {w = w} h q) = made_bytes either_case (λ b. refl) w (quoted_bytes q)

module _ {e : Edition} where
  element_bytes : {s : List ℕ} {x : Element} → ElementText e s x → ElementBytes x
  element_bytes (by_name n) = tt
  element_bytes (by_literal l) = literal_bytes l

  concatenation_bytes : {s : List ℕ} {xs : List Element} → Concatenation e s xs → AlternativeBytes xs
  concatenation_bytes (last_element x) = every_more ElementBytes (element_bytes x) (every_none ElementBytes)
  concatenation_bytes (next_element x b c) = every_more ElementBytes (element_bytes x) (concatenation_bytes c)

  alternation_bytes : {s : List ℕ} {xss : List (List Element)} → Alternation e s xss → Every AlternativeBytes xss
  alternation_bytes (last_concatenation c) =
      every_more AlternativeBytes (concatenation_bytes c) (every_none AlternativeBytes)
  alternation_bytes (next_concatenation c a b r) =
      every_more AlternativeBytes (concatenation_bytes c) (alternation_bytes r)

  rule_bytes_lem' : {s : List ℕ} {l : Line} → RuleText e s l → LineBytes l
  rule_bytes_lem' (rule n d (elements a w) c) = alternation_bytes a

  rulelist_bytes : {s : List ℕ} {ls : List Line} → Rulelist e s ls → Every LineBytes ls
  rulelist_bytes (last_rule r) = every_more LineBytes (rule_bytes_lem' r) (every_none LineBytes)
  rulelist_bytes (next_rule r rs) = every_more LineBytes (rule_bytes_lem' r) (rulelist_bytes rs)

pub characters_bytes : (e : Edition) (text : List ℕ) → fault_of e text ≡ Nothing → Bytes (lines_of e text)
characters_bytes e text fine =
    let all = rulelist_bytes ((of_the_part_lem e text (lines_of e text)).1 (fine, refl)) in
    record {
      below = λ x it.
          all it.line it.line_is_one it.alternative it.alternative_is_one (characters it.literal)
          it.literal_is_one x it.character_is_one;
    }
