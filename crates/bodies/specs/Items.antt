-- The items of a body as numbers, as they are read from a text. Assumes nothing.
use Rattle.std.specs.Prelude.{ℕ, ◌+◌, ◌-◌, ◌≤◌, ◌<◌, ◌≡◌, cond, List, ◌∷◌, ◌++◌, map, ltb, length, take}
use Rattle.abnf.specs.declared.Edition.{Edition}
use Rattle.abnf.specs.declared.Stage.TheVariants.{LineStart, Open}
use Rattle.abnf.specs.Reading.{Said}
use Rattle.abnf_jobs.specs.Bodies.{Item, named, letter, character, items_of, Body, body_of, bodies_from}
use Rattle.cursor.specs.Cursor.{said_at, FineAt, ElementBegins}
use Rattle.bodies.specs.declared.Rest.{Rest}
use Rattle.bodies.specs.declared.Rest.TheVariants.{NextLine, NextBody}

-- the number of an item, and the item of a number
abbrev pub code_of : Item → ℕ
code_of (named n) = 512 + n
code_of (letter l) = 256 + l
code_of (character b) = b

abbrev pub item_from_lem : ℕ → Item
item_from_lem k = cond (ltb k 256) (character k) (cond (ltb k 512) (letter (k - 256)) (named (k - 512)))

-- the bodies from an element of a name's alternative on, by what is said there
abbrev pub bodies_said : List (List ℕ) → ℕ → Said → List Body
bodies_said names head said = map (body_of names head) (said.here ∷ said.others) ++ bodies_from names said.lines

-- what begins behind a body: another line, or a body of the same line; its offset, and the bodies from there on
abbrev pub Behind : Edition → List ℕ → Rest → Type 0
Behind e text (NextLine next) = FineAt e LineStart text next
Behind e text (NextBody next) = ElementBegins e text next

abbrev pub offset_of : Rest → ℕ
offset_of (NextLine next) = next
offset_of (NextBody next) = next

abbrev pub bodies_behind : Edition → List ℕ → List (List ℕ) → ℕ → Rest → List Body
bodies_behind e text names head (NextLine next) = bodies_from names (said_at e LineStart text next).lines
bodies_behind e text names head (NextBody next) = bodies_said names head (said_at e Open text next)

-- the body that begins at an offset: its items, as far as they are kept, and what is behind it
pub record ReadBody (e : Edition) (text : List ℕ) (names : List (List ℕ)) (at : ℕ) (items : List ℕ) (r : Rest) :
    Type 0 where
  pub kept : items ≡ take 35 (map code_of (items_of names (said_at e Open text at).here))
  pub past : at < offset_of r
  pub within : offset_of r ≤ length text
  pub behind : Behind e text r
  pub bodies :
      (head : ℕ) →
      bodies_said names head (said_at e Open text at)
      ≡ body_of names head (said_at e Open text at).here ∷ bodies_behind e text names head r
