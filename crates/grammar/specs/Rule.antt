-- The rules of a context-free grammar, in the shapes of [Esparza], section 4: bodies of at most two symbols. A body
-- may hold any symbols. And productions, whose bodies may be any strings. Assumes nothing.
use Rattle.std.specs.Prelude.{ℕ}
use mathlib.Core.List.{List, [], ◌∷◌, Memᴰ}

-- A → ε, A → X and A → X Y
pub data Rule : Type 0 where
  empty : ℕ → Rule
  unit : ℕ → ℕ → Rule
  pair : ℕ → ℕ → ℕ → Rule

-- A in A → β
abbrev pub head : Rule → ℕ
head (empty A) = A
head (unit A X) = A
head (pair A X Y) = A

-- β in A → β
abbrev pub body : Rule → List ℕ
body (empty A) = []
body (unit A X) = X ∷ []
body (pair A X Y) = X ∷ Y ∷ []

-- a set of rules
abbrev pub Rules : Type 1
Rules = Rule → Type 0

-- [Esparza], section 2: a set of productions A → β, where β is any string
abbrev pub Productions : Type 1
Productions = ℕ → List ℕ → Type 0

-- the productions that a set of rules gives
pub data ProductionsOf (R : Rules) : ℕ → List ℕ → Type 0 where
  of_rule : (ρ : Rule) → R ρ → ProductionsOf R (head ρ) (body ρ)

-- the set of the rules of a list
abbrev pub Among : List Rule → Rules
Among rs ρ = Memᴰ ρ rs
