-- Sets of symbols as tests, and how the rules of a list make a set grow. Assumes nothing.
use Rattle.std.specs.Prelude.{ℕ, zero, suc, Bool, true, false, cond, ◌&&◌, ◌||◌, List, [], ◌∷◌, eqb}
use Rattle.grammar.specs.Rule.{Rule, head, body}
use Rattle.usefulness.specs.declared.Direction.{Direction}
use Rattle.usefulness.specs.declared.Direction.TheVariants.{Up, Down, Back}

-- each symbol of a string is in the set
unfoldable pub all_in_lem : (ℕ → Bool) → List ℕ → Bool
all_in_lem set [] = true
all_in_lem set (X ∷ α) = set X && all_in_lem set α

-- some symbol of a string is in the set
unfoldable pub any_in : (ℕ → Bool) → List ℕ → Bool
any_in set [] = false
any_in set (X ∷ α) = set X || any_in set α

-- the symbol stands in the string
abbrev pub stands_in : ℕ → List ℕ → Bool
stands_in X = any_in (λ Y. eqb Y X)

-- all symbols of a rule are in the set
abbrev pub rule_in : (ℕ → Bool) → Rule → Bool
rule_in set ρ = all_in_lem set (head ρ ∷ body ρ)

-- the rules of a list whose symbols are all in the set, in the order of the list
unfoldable pub within : (ℕ → Bool) → List Rule → List Rule
within set [] = []
within set (ρ ∷ ρs) = cond (rule_in set ρ) (ρ ∷ within set ρs) (within set ρs)

-- some rule of a list passes a test
unfoldable pub any_rule : (Rule → Bool) → List Rule → Bool
any_rule test [] = false
any_rule test (ρ ∷ ρs) = test ρ || any_rule test ρs

-- When a rule adds to a set. Up: its whole body is in the set. Down: its head is. Back: some symbol of its body is.
abbrev pub ready : Direction → (ℕ → Bool) → Rule → Bool
ready Up set ρ = all_in_lem set (body ρ)
ready Down set ρ = set (head ρ)
ready Back set ρ = any_in set (body ρ)

-- What it then adds. Down: the symbols of its body. Up and back: its head.
abbrev pub added : Direction → Rule → List ℕ
added Up ρ = head ρ ∷ []
added Down ρ = body ρ
added Back ρ = head ρ ∷ []

-- one round: the set, and all that the rules add to it
unfoldable pub round : Direction → List Rule → (ℕ → Bool) → ℕ → Bool
round d rules set X = set X || any_rule (λ ρ. ready d set ρ && stands_in X (added d ρ)) rules

-- k rounds
unfoldable pub rounds : Direction → List Rule → ℕ → (ℕ → Bool) → ℕ → Bool
rounds d rules zero set = set
rounds d rules (suc k) set = round d rules (rounds d rules k set)

-- 64 rounds: one that changes anything adds at least one of the 64 symbols, so that nothing is left to add
unfoldable pub grown : Direction → List Rule → (ℕ → Bool) → ℕ → Bool
grown d rules = rounds d rules 64
