-- Productive symbols, symbols in a terminal context, useful symbols and useful rules. Assumes nothing.
use Rattle.std.specs.Prelude.{ℕ, List, [], ◌∷◌, ◌++◌}
use Rattle.grammar.specs.Symbol.{Terminals}
use Rattle.grammar.specs.Rule.{Rules, ProductionsOf, head, body}
use Rattle.grammar.specs.Derivation.{Derives}

-- Verdicts: X derives a terminal string. [Esparza], section 5: productive.
unfoldable pub Productive : Rules → ℕ → Type 0
Productive R X = (w : List ℕ) × Terminals w × Derives (ProductionsOf R) (X ∷ []) w

-- Verdicts: the start symbol derives w₁ X w₂ with terminal strings w₁ and w₂. [Esparza], section 5: reachable.
unfoldable pub InContext : Rules → ℕ → ℕ → Type 0
InContext R S X =
    (w₁ : List ℕ) × (w₂ : List ℕ) × Terminals w₁ × Terminals w₂ × Derives (ProductionsOf R) (S ∷ []) (w₁ ++ (X ∷ w₂))

-- Verdicts: X stands in some form on the way from the start symbol to a terminal string. [Bouajjani], section 5, and
-- [Lecture 25], Definition 25.2.
unfoldable pub Useful : Rules → ℕ → ℕ → Type 0
Useful R S X =
    (α : List ℕ) × (β : List ℕ) × (w : List ℕ) × Terminals w ×
    Derives (ProductionsOf R) (S ∷ []) (α ++ (X ∷ β)) × Derives (ProductionsOf R) (α ++ (X ∷ β)) w

-- every symbol of the string is useful
unfoldable pub AllUseful : Rules → ℕ → List ℕ → Type 0
AllUseful R S [] = Unit {0}
AllUseful R S (X ∷ α) = Useful R S X × AllUseful R S α

-- Verdicts: the rules whose symbols are all useful
abbrev pub UsefulRules : Rules → ℕ → Rules
UsefulRules R S ρ = R ρ × AllUseful R S (head ρ ∷ body ρ)
