-- ABNF text as a job: the bodies of a text. Assumes nothing.
use Rattle.std.specs.Prelude.{ℕ, cond, ◌&&◌, List, [], ◌∷◌, ◌++◌, map}
use Rattle.abnf.specs.declared.Character.{Character}
use Rattle.abnf.specs.Bytes.{is_alpha_lem, lower}
use Rattle.abnf.specs.Text.{Element, name, characters, Line}
use Rattle.abnf.specs.Meaning.{number_of, names_of}

-- ABNF text as a job: what stands in a body: a name, by its number; a letter of either case, as a small one; any other
-- character
pub data Item : Type 0 where
  named : ℕ → Item
  letter : ℕ → Item
  character : ℕ → Item

-- ABNF text as a job: a letter of a quoted string has either case; a value is one character, be it a letter or not
abbrev pub item_of : Character → Item
item_of c = cond (c.either && is_alpha_lem c.byte) (letter (lower c.byte)) (character c.byte)

-- the items of an alternative
unfoldable pub items_of : List (List ℕ) → List Element → List Item
items_of names [] = []
items_of names (name n ∷ xs) = named (number_of names n) ∷ items_of names xs
items_of names (characters cs ∷ xs) = map item_of cs ++ items_of names xs

-- ABNF text as a job: a body is one alternative of a name, given by its number
pub record Body : Type 0 where
  pub head : ℕ
  pub items : List Item

-- the bodies of alternatives, and of lines
abbrev pub body_of : List (List ℕ) → ℕ → List Element → Body
body_of names head xs = record { head = head; items = items_of names xs }

unfoldable pub bodies_from : List (List ℕ) → List Line → List Body
bodies_from names [] = []
bodies_from names (l ∷ ls) = map (body_of names (number_of names l.name)) l.alternatives ++ bodies_from names ls

-- ABNF text as a job: names are numbered in the order in which they first begin a line
abbrev pub bodies_of : List Line → List Body
bodies_of lines = bodies_from (names_of lines) lines
