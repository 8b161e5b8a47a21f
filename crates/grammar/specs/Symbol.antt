-- The symbols of a grammar. Assumes nothing.
use Rattle.std.specs.Prelude.{ℕ, ◌≤◌, ◌<◌, Bool, cond, ◌&&◌, List, [], ◌∷◌, ltb, leb}
use Rattle.grammar.specs.declared.SymbolClass.{SymbolClass}
use Rattle.grammar.specs.declared.SymbolClass.TheVariants.{Variable, Terminal, Neither}

-- The job: variables are the numbers 0 to 31, terminals 32 to 63
abbrev pub class_of : ℕ → SymbolClass
class_of x = cond (ltb x 32) Variable (cond (ltb x 64) Terminal Neither)

-- a terminal symbol
abbrev pub IsTerminal : ℕ → Type 0
IsTerminal x = (32 ≤ x) × (x < 64)

-- The job: whether a symbol is one, 32 to 63
abbrev pub is_terminal_lem : ℕ → Bool
is_terminal_lem x = leb 32 x && ltb x 64

-- a string of terminals
unfoldable pub Terminals : List ℕ → Type 0
Terminals [] = Unit {0}
Terminals (x ∷ w) = IsTerminal x × Terminals w
