-- Parts of a text between two offsets, and what begins at an offset. Assumes nothing.
use Rattle.std.specs.Prelude.{ℕ, ◌-◌, Bool, false, ◌&&◌, ◌||◌, Option, None, Some, List, [], ◌∷◌, eqb, take, drop}
use Rattle.abnf.specs.Bytes.{is_hexdig}
use Rattle.abnf.specs.Pieces.{begins, values_from}

-- the bytes from an offset up to another
abbrev pub part_of_lem : List ℕ → ℕ → ℕ → List ℕ
part_of_lem text from to = take (to - from) (drop from text)

-- a digit begins the text, or a dot with a digit after it
abbrev pub dotted_at : List ℕ → Bool
dotted_at [] = false
dotted_at (b ∷ s) = is_hexdig b || (eqb b 46 && begins is_hexdig s)

-- the numbers of a value from an offset on, if there is one, up to another
abbrev pub values_after : List ℕ → Option ℕ → ℕ → List ℕ
values_after text None to = []
values_after text (Some next) to = values_from 0 (part_of_lem text next to)
