-- The search for a pair rule on a cycle that grows, head by head. Assumes nothing.
use Rattle.std.specs.Prelude.{ℕ, Bool, false, ◌&&◌, List, eqb}
use Rattle.grammar.specs.Rule.{Rule, empty, unit, pair}
use Rattle.usefulness.specs.Sets.{any_rule}
use Rattle.usefulness.specs.Usefulness.{leads, to_terminal}
use Rattle.verdicts.specs.Verdicts.{one_each_lem}

-- a pair rule of the head Z with one symbol of its body in a set, and the other in another
abbrev pub pair_to_lem : ℕ → (ℕ → Bool) → (ℕ → Bool) → Rule → Bool
pair_to_lem Z set other (empty A) = false
pair_to_lem Z set other (unit A X) = false
pair_to_lem Z set other (pair A X Y) = eqb A Z && one_each_lem set other X Y

-- a pair rule of the head Z with one symbol that leads back to Z, and the other to a terminal
abbrev pub leads_back : List Rule → ℕ → Rule → Bool
leads_back rules Z = pair_to_lem Z (leads rules (λ X. eqb Z X)) (to_terminal rules)

-- a pair rule of the head Z stands on a cycle of the rules that grows
abbrev pub cycle_at_lem : ℕ → List Rule → Bool
cycle_at_lem Z rules = any_rule (leads_back rules Z) rules
