-- Derivation, by productions with any body. Assumes nothing.
use Rattle.std.specs.Prelude.{ℕ, List, ◌∷◌, ◌++◌}
use Rattle.grammar.specs.Rule.{Productions}

-- [Esparza], section 2: a step α A γ ⇒ α β γ puts the body of a production A → β in the place of one A
pub data Step (P : Productions) : List ℕ → List ℕ → Type 0 where
  by_production : {A : ℕ} {β : List ℕ} (α γ : List ℕ) → P A β → Step P (α ++ (A ∷ γ)) (α ++ (β ++ γ))

-- [Esparza], section 2: ⇒* is zero or more steps
pub data Derives (P : Productions) : List ℕ → List ℕ → Type 0 where
  none : {α : List ℕ} → Derives P α α
  more : {α β γ : List ℕ} → Step P α β → Derives P β γ → Derives P α γ
