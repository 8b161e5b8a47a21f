-- A pass over the rules of a list, which adds in place what each rule adds. Assumes nothing.
use Rattle.std.specs.Prelude.{ℕ, Bool, List, [], ◌∷◌}
use Rattle.grammar.specs.Rule.{Rule}
use Rattle.usefulness.specs.declared.Direction.{Direction}
use Rattle.usefulness.specs.Sets.{round}

-- a set with what the rules add to it, one after the other
unfoldable pub in_place : Direction → List Rule → (ℕ → Bool) → ℕ → Bool
in_place d [] set = set
in_place d (ρ ∷ ρs) set = in_place d ρs (round d (ρ ∷ []) set)
