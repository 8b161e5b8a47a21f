-- Growing grammars. Assumes nothing.
use Rattle.std.specs.Prelude.{ℕ, ◌<◌, List, [], ◌∷◌, ◌++◌, length}
use Rattle.grammar.specs.Symbol.{Terminals}
use Rattle.grammar.specs.Rule.{Rules, ProductionsOf}
use Rattle.grammar.specs.Derivation.{Derives}
use Rattle.grammar.specs.Useful.{Useful}

-- Verdicts: some useful X derives itself between terminal strings that are not both empty. [Esparza], section 5.
unfoldable pub Growing : Rules → ℕ → Type 0
Growing R S =
    (X : ℕ) × (u : List ℕ) × (v : List ℕ) × Useful R S X × Terminals u × Terminals v ×
    Derives (ProductionsOf R) (X ∷ []) (u ++ (X ∷ v)) × (0 < length (u ++ v))
