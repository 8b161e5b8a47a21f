-- The productive symbols, the useful symbols and rules, and the symbols that lead to others, computed from a list of
-- rules. That the first three are the papers' is proved (specs/Theorems). Assumes nothing.
use Rattle.std.specs.Prelude.{ℕ, Bool, ◌&&◌, List, eqb}
use Rattle.grammar.specs.Symbol.{is_terminal_lem}
use Rattle.grammar.specs.Rule.{Rule}
use Rattle.usefulness.specs.declared.Direction.TheVariants.{Up, Down, Back}
use Rattle.usefulness.specs.Sets.{within, grown}

-- Verdicts: the symbols that derive a terminal string. [Lecture 25], Theorem 25.1, from the bottom up: the terminals,
-- and the head of a rule whose body is all productive.
unfoldable pub productive : List Rule → ℕ → Bool
productive rules = grown Up rules is_terminal_lem

-- Verdicts: the useful symbols. [Lecture 25], Theorem 25.3, from the top down: among the rules whose symbols are all
-- productive, the start symbol if it is productive, and the symbols of the body of a rule whose head is useful.
unfoldable pub useful : List Rule → ℕ → ℕ → Bool
useful rules S = grown Down (within (productive rules) rules) (λ X. eqb S X && productive rules X)

-- Verdicts: the rules whose symbols are all useful, in the order of the list
abbrev pub useful_rules : List Rule → ℕ → List Rule
useful_rules rules S = within (useful rules S) rules

-- the symbols that lead to one of a set in the graph of [Lecture 25], Theorem 25.4: those of the set, and the head of
-- a rule with some symbol of its body among them
unfoldable pub leads : List Rule → (ℕ → Bool) → ℕ → Bool
leads rules set = grown Back rules set

-- the symbols that lead to a terminal; among useful rules, those that derive a terminal string that is not empty
abbrev pub to_terminal : List Rule → ℕ → Bool
to_terminal rules = leads rules is_terminal_lem
