-- The lines that the programs print. Assumes nothing.
use Rattle.std.specs.Prelude.{ℕ, zero, suc, Bool, cond, List, [], ◌++◌}
use Rattle.spelling.specs.Words.{ascii, decimal}

abbrev pub newline : List ℕ
newline = ascii "\n"

-- The report program: a refused call is the one line 'refused N at P'
unfoldable pub refused_line_lem : ℕ → ℕ → List ℕ
refused_line_lem number place = ascii "refused " ++ decimal number ++ ascii " at " ++ decimal place ++ newline

-- The report program: a line 'WORD N'
unfoldable pub number_line_lem : List ℕ → ℕ → List ℕ
number_line_lem word n = word ++ ascii " " ++ decimal n ++ newline

-- The report program: a line 'WORD yes' or 'WORD no'
unfoldable pub answer_line_lem : List ℕ → Bool → List ℕ
answer_line_lem word is = word ++ cond is (ascii " yes\n") (ascii " no\n")

-- Verdicts: a symbol and its code, 'SYMBOL CODE'
unfoldable pub code_line_lem : ℕ → ℕ → List ℕ
code_line_lem X code = decimal X ++ ascii " " ++ decimal code ++ newline

-- the lines 0 to n - 1, one after the other
unfoldable pub lines : (ℕ → List ℕ) → ℕ → List ℕ
lines line zero = []
lines line (suc n) = lines line n ++ line n
