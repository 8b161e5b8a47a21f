-- The codes of symbols as bytes. Assumes nothing.
use Rattle.std.specs.Prelude.{ℕ}
use Rattle.judging.specs.declared.codes.SymbolCode.{SymbolCode}
use Rattle.judging.specs.declared.codes.SymbolCode.TheVariants.{NotNamed, Useful, NotProductive, NotUseful}

-- The verdicts: 0 for a symbol that is not named, 1 useful, 2 not productive, 3 productive but not useful
abbrev pub code_byte : SymbolCode → ℕ
code_byte NotNamed = 0
code_byte Useful = 1
code_byte NotProductive = 2
code_byte NotUseful = 3
