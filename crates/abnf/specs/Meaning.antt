-- What a text means: its productions over characters and names. A character is its byte; the name of number n, counted
-- from 0 in the order in which names first begin a line, is 256 + n. Assumes nothing.
use Rattle.std.specs.Prelude.{ℕ, suc, ◌+◌, ◌≡◌, Bool, false, true, cond, ◌&&◌, ◌||◌, eqb}
use mathlib.Core.List.{List, [], ◌∷◌, ◌++◌, Memᴰ}
use Rattle.abnf.specs.declared.Character.{Character}
use Rattle.abnf.specs.Bytes.{lower}
use Rattle.abnf.specs.Text.{Element, name, characters, Line}

-- The text of ABNF: the same name, without regard to case
unfoldable pub same_name : List ℕ → List ℕ → Bool
same_name [] [] = true
same_name [] (c ∷ t) = false
same_name (b ∷ s) [] = false
same_name (b ∷ s) (c ∷ t) = eqb (lower b) (lower c) && same_name s t

-- the place of a name in a list, its length where the name is not in it
unfoldable pub number_of : List (List ℕ) → List ℕ → ℕ
number_of [] n = 0
number_of (m ∷ ms) n = cond (same_name m n) 0 (suc (number_of ms n))

unfoldable pub is_among_lem : List (List ℕ) → List ℕ → Bool
is_among_lem [] n = false
is_among_lem (m ∷ ms) n = same_name m n || is_among_lem ms n

-- The text of ABNF: the names that begin lines, each once and in the order in which they first do, after those before
unfoldable pub names_from : List (List ℕ) → List Line → List (List ℕ)
names_from before [] = before
names_from before (l ∷ ls) =
    names_from (cond (is_among_lem before l.name) before (before ++ (l.name ∷ []))) ls

abbrev pub names_of : List Line → List (List ℕ)
names_of lines = names_from [] lines

-- The text of ABNF: the bytes that a character stands for
pub data StandsFor : Character → ℕ → Type 0 where
  itself : (b : ℕ) → StandsFor (record { byte = b; either = false }) b
  same_letter : (b c : ℕ) → lower b ≡ lower c → StandsFor (record { byte = b; either = true }) c

-- a string of them; none is the empty string
pub data Spelled : List Character → List ℕ → Type 0 where
  nothing : Spelled [] []
  one_more : {x : Character} {c : ℕ} {xs : List Character} {w : List ℕ} →
      StandsFor x c → Spelled xs w → Spelled (x ∷ xs) (c ∷ w)

-- The text of ABNF: the strings of names and characters that an alternative stands for
pub data Reads (names : List (List ℕ)) : List Element → List ℕ → Type 0 where
  no_element : Reads names [] []
  by_name : {n : List ℕ} {xs : List Element} {β : List ℕ} →
      Reads names xs β → Reads names (name n ∷ xs) ((256 + number_of names n) ∷ β)
  by_characters : {cs : List Character} {xs : List Element} {w β : List ℕ} →
      Spelled cs w → Reads names xs β → Reads names (characters cs ∷ xs) (w ++ β)

-- The text of ABNF: a production for each alternative of each line
pub data TextProductions (lines : List Line) : ℕ → List ℕ → Type 0 where
  of_line : (l : Line) (xs : List Element) {β : List ℕ} →
      Memᴰ l lines → Memᴰ xs l.alternatives → Reads (names_of lines) xs β →
      TextProductions lines (256 + number_of (names_of lines) l.name) β
