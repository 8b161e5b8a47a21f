-- Words and numbers as the bytes that the programs print, in ASCII. Assumes nothing.
use Rattle.std.specs.Prelude.{ℕ, zero, suc, ◌+◌, ◌/◌, ◌%◌, cond, List, [], ◌∷◌, ◌++◌, ltb}
use Prim.Native.Char.{code}
use Prim.Native.String.{String, [] as []ˢ, ◌∷◌ as ◌∷ˢ◌}

-- the bytes of a word: the codes of its characters
abbrev pub ascii : String → List ℕ
ascii []ˢ = []
ascii (c ∷ˢ s) = code c ∷ ascii s

-- the byte of a digit: 48 is the code of 0
abbrev pub digit : ℕ → ℕ
digit d = 48 + d

-- the digits of a number, the most significant first, where it has at most k
unfoldable pub digits : ℕ → ℕ → List ℕ
digits zero n = []
digits (suc k) n = cond (ltb n 10) (digit n ∷ []) (digits k (n / 10) ++ (digit (n % 10) ∷ []))

-- The report program: numbers are decimal. Numbers of 64 bits have at most 20 digits
unfoldable pub decimal : ℕ → List ℕ
decimal n = digits 20 n
