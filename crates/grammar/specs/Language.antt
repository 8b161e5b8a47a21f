-- The language of a grammar: when it has infinitely many strings, and when finitely many. Assumes nothing.
use Rattle.std.specs.Prelude.{ℕ}
use mathlib.Core.List.{List, [], ◌∷◌, Memᴰ}
use Rattle.grammar.specs.Symbol.{Terminals}
use Rattle.grammar.specs.Rule.{Rules, ProductionsOf}
use Rattle.grammar.specs.Derivation.{Derives}

-- Verdicts: the terminal strings that the start symbol derives. [Esparza], section 5.
abbrev pub Language : Rules → ℕ → List ℕ → Type 0
Language R S w = Terminals w × Derives (ProductionsOf R) (S ∷ []) w

-- Verdicts: infinitely many, as whatever list of strings is given lacks one of the language
unfoldable pub Infinite : Rules → ℕ → Type 0
Infinite R S = (ws : List (List ℕ)) → (w : List ℕ) × Language R S w × (Memᴰ w ws → ⊥)

-- Verdicts: finitely many, as some list of strings has them all
unfoldable pub Finite : Rules → ℕ → Type 0
Finite R S = (ws : List (List ℕ)) × ((w : List ℕ) → Language R S w → Memᴰ w ws)
