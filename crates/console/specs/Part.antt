-- A part of a buffer, as the programs read and write it. Assumes nothing.
use Rattle.std.specs.Prelude.{ℕ, cond, List, [], leb, length, take}

-- the first n bytes, none where there are fewer
abbrev pub first_bytes : ℕ → List ℕ → List ℕ
first_bytes n bytes = cond (leb n (length bytes)) (take n bytes) []
