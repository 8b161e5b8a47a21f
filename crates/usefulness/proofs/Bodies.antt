-- The symbols of rules, of one read by value too: all are symbols; and the tests of a body by its length. Assumes
-- nothing.
use Rattle.grammar.proofs.Basics.{◌≡◌, refl, true, false, Bool, ◌&&◌, ◌||◌, or-false, and-true, List, [], ◌∷◌, ℕ, ◌<◌}
use Rattle.grammar.proofs.Basics.{arith}
use Rattle.grammar.specs.Rule.{Rule, head, body, empty, unit, pair}
use Rattle.grammar.proofs.Strings.{All, nil, cons}
use Rattle.job.specs.declared.RuleFields as declared
use Rattle.job.specs.Inside.Keys.{Keys, rules_of_keys, rule_from, RuleFits}
use Rattle.job.specs.Theorems.InRange.{RuleInRange, RulesInRange}
use Rattle.job.proofs.KeyRules.{keys_in_range, from_in_range}
use Rattle.usefulness.specs.Sets.{all_in_lem, any_in}
use Rattle.usefulness.proofs.Rounds.{Below}

-- a rule in range is over the 64 symbols
rule_below : (ρ : Rule) → RuleInRange ρ → All (λ X. X < 64) (head ρ ∷ body ρ)
rule_below (empty A) r = cons {X = A} (omega arith) nil
rule_below (unit A X) r = cons {X = A} (omega arith) (cons r.1 nil)
rule_below (pair A X Y) r = cons {X = A} (omega arith) (cons r.1 (cons r.2 nil))

pub range_below : {rules : List Rule} → RulesInRange rules → Below 64 rules
range_below r ρ m = rule_below ρ (r ρ m)

pub keys_below : {keys : List ℕ} → Keys keys → Below 64 (rules_of_keys keys)
keys_below {keys} ks = range_below (keys_in_range keys ks.fit)

pub from_below : (r : declared.RuleFields) → RuleFits r → All (λ X. X < 64) (head (rule_from r) ∷ body (rule_from r))
from_below r f = rule_below (rule_from r) (from_in_range r f)

-- the tests of bodies of no, one and two symbols
module _ (set : ℕ → Bool) where
  pub all_of_none : all_in_lem set [] ≡ true
  unfolding all_in_lem
  all_of_none = refl

  pub all_of_one : (X : ℕ) → all_in_lem set (X ∷ []) ≡ set X
  unfolding all_in_lem
  all_of_one X = and-true (set X)

  pub all_of_two : (X Y : ℕ) → all_in_lem set (X ∷ Y ∷ []) ≡ (set X && set Y)
  unfolding all_in_lem
  all_of_two X Y = rw and-true

  pub any_of_none : any_in set [] ≡ false
  unfolding any_in
  any_of_none = refl

  pub any_of_one : (X : ℕ) → any_in set (X ∷ []) ≡ set X
  unfolding any_in
  any_of_one X = or-false (set X)

  pub any_of_two : (X Y : ℕ) → any_in set (X ∷ Y ∷ []) ≡ (set X || set Y)
  unfolding any_in
  any_of_two X Y = rw or-false
