-- The verdicts on a grammar, given by its rules and its start symbol: codes, empty and growing, computed. That they
-- say what the papers' definitions say is proved (specs/Theorems). Assumes nothing.
use Rattle.std.specs.Prelude.{ℕ, Bool, false, cond, not, ◌&&◌, ◌||◌, List, ◌∷◌, eqb}
use Rattle.grammar.specs.Rule.{Rule, head, body, empty, unit, pair}
use Rattle.usefulness.specs.Sets.{stands_in, any_rule}
use Rattle.usefulness.specs.Usefulness.{productive, useful, useful_rules, leads, to_terminal}

-- one of two symbols is in a set, and the other in another
abbrev pub one_each_lem : (ℕ → Bool) → (ℕ → Bool) → ℕ → ℕ → Bool
one_each_lem set other X Y = (set X && other Y) || (set Y && other X)

-- a pair rule with one symbol that leads back to its head, and with another beside it that leads to a terminal
abbrev pub on_cycle : List Rule → Rule → Bool
on_cycle rules (empty A) = false
on_cycle rules (unit A X) = false
on_cycle rules (pair A X Y) = one_each_lem (leads rules (λ Z. eqb A Z)) (to_terminal rules) X Y

-- some rule of the list is such a pair rule
unfoldable pub cyclic : List Rule → Bool
cyclic rules = any_rule (on_cycle rules) rules

-- Verdicts: a grammar grows if one of its useful rules is such a pair rule among them
abbrev pub growing : List Rule → ℕ → Bool
growing rules S = cyclic (useful_rules rules S)

-- Verdicts: a grammar is empty if its start symbol is not productive
abbrev pub is_empty : List Rule → ℕ → Bool
is_empty rules S = not (productive rules S)

-- the symbol is the rule's head or stands in its body
abbrev pub names : ℕ → Rule → Bool
names X ρ = stands_in X (head ρ ∷ body ρ)

-- the symbol is the start symbol or stands in a rule
abbrev pub is_named_lem : List Rule → ℕ → ℕ → Bool
is_named_lem rules S X = eqb S X || any_rule (names X) rules

-- Verdicts: the code of a symbol is 0 if it is not named, else 2 if it is not productive, else 1 if it is useful,
-- else 3
abbrev pub code_of : List Rule → ℕ → ℕ → ℕ
code_of rules S X = cond (is_named_lem rules S X) (cond (productive rules X) (cond (useful rules S X) 1 3) 2) 0
