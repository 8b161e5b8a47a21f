-- Rounds of growth. What a closed set contains stays within it, and n rounds over n symbols leave a closed set: a
-- round that changes anything makes the count of the set grow. Assumes nothing.
use Rattle.grammar.proofs.Basics.{◌≡◌, refl, ◌∙◌, ⊎_elim, inl, inr, ◌⊎◌, true, Bool, List, ◌∷◌, ℕ, ◌<◌, ◌≤◌, suc, zero}
use Rattle.grammar.proofs.Basics.{eq-or-lt_of_le, arith, Subset, and_left, and_right, or_split, or_right}
use Rattle.grammar.specs.Counting.{count}
use Rattle.grammar.specs.Rule.{Rule, Among, head, body}
use Rattle.grammar.proofs.Counting.{count_monotone, count_equal, count-all, count_bound}
use Rattle.grammar.proofs.Strings.{All}
use Rattle.usefulness.specs.declared.Direction.{Direction}
use Rattle.usefulness.specs.Sets.{stands_in, ready, added, round, rounds, grown}
use Rattle.usefulness.proofs.Tests.{ready_grows, added_has, any_rule_lem, rule_any}

-- the rules add nothing to the set
abbrev pub ClosedUnder : Direction → List Rule → (ℕ → Bool) → Type 0
ClosedUnder d rules set =
    (ρ : Rule) → Among rules ρ → (X : ℕ) → ready d set ρ ≡ true → stands_in X (added d ρ) ≡ true → set X ≡ true

-- all symbols of the rules are below n
abbrev pub Below : ℕ → List Rule → Type 0
Below n rules = (ρ : Rule) → Among rules ρ → All (λ X. X < n) (head ρ ∷ body ρ)

module _ (d : Direction) (rules : List Rule) where
  pub round_keeps : (set : ℕ → Bool) → Subset set (round d rules set)
  unfolding round
  round_keeps set X e = rw e

  pub round_adds :
      (set : ℕ → Bool) (ρ : Rule) → Among rules ρ → (X : ℕ) → ready d set ρ ≡ true → stands_in X (added d ρ) ≡ true →
      round d rules set X ≡ true
  unfolding round
  round_adds set ρ m X r s = or_right (set X) _ (rule_any _ rules ρ m (rw r s))

  -- what holds of a set, and of all that a rule adds to it, holds of the round
  round_sound : (P : ℕ → Type 0) {s : ℕ → Bool} → ((X : ℕ) → s X ≡ true → P X) →
      ((ρ : Rule) → Among rules ρ → (X : ℕ) → ready d s ρ ≡ true → stands_in X (added d ρ) ≡ true → P X) →
      (X : ℕ) → round d rules s X ≡ true → P X
  unfolding round
  round_sound P {s} base step X e =
      ⊎_elim (base X)
      (λ a. let (ρ, m, t) = any_rule_lem _ rules a in step ρ m X (and_left _ _ t) (and_right (ready d s ρ) _ t))
      (or_split (s X) _ e)

  -- and of all rounds, where what a rule adds has it as soon as what makes the rule ready has it
  module _ (P : ℕ → Type 0) {s : ℕ → Bool} (base : (X : ℕ) → s X ≡ true → P X)
      (step :
      (t : ℕ → Bool) → ((X : ℕ) → t X ≡ true → P X) → (ρ : Rule) → Among rules ρ → (X : ℕ) → ready d t ρ ≡ true →
      stands_in X (added d ρ) ≡ true → P X)
    where
      rounds_sound : (k X : ℕ) → rounds d rules k s X ≡ true → P X
      unfolding rounds
      rounds_sound zero = base
      rounds_sound (suc k) = round_sound P (rounds_sound k) (step _ (rounds_sound k))

      pub grown_sound : (X : ℕ) → grown d rules s X ≡ true → P X
      unfolding grown
      grown_sound = rounds_sound 64

  -- a round stays within a closed set
  pub round_within : {s c : ℕ → Bool} → ClosedUnder d rules c → Subset s c → Subset (round d rules s) c
  round_within {c = c} closed sub = round_sound (λ X. c X ≡ true) sub (λ ρ m X r. closed ρ m X (ready_grows d sub ρ r))

  rounds_keeps : (s : ℕ → Bool) (k : ℕ) → Subset s (rounds d rules k s)
  unfolding rounds
  rounds_keeps s zero X e = e
  rounds_keeps s (suc k) X e = round_keeps (rounds d rules k s) X (rounds_keeps s k X e)

  -- a round leaves a closed set closed
  closed_again : {c : ℕ → Bool} → ClosedUnder d rules c → ClosedUnder d rules (round d rules c)
  closed_again {c} closed ρ m X r s =
      round_keeps c X (closed ρ m X (ready_grows d (round_within closed (λ Y e. e)) ρ r) s)

  module _ (n : ℕ) (below : Below n rules) where
    -- a set to which a round adds none of the n symbols is closed
    closed_same : (s : ℕ → Bool) → ((X : ℕ) → X < n → s X ≡ round d rules s X) → ClosedUnder d rules s
    closed_same s same ρ m X r t = same X (added_has d ρ X (below ρ m) t) ∙ round_adds s ρ m X r t

    -- k rounds make the set closed, or each has added a symbol
    stage : (s : ℕ → Bool) (k : ℕ) → (k ≤ count (rounds d rules k s) n) ⊎ ClosedUnder d rules (rounds d rules k s)
    unfolding rounds
    stage s zero = inl (omega arith)
    stage s (suc k) =
        let old = rounds d rules k s in
        let new = round d rules old in
        ⊎_elim
        (λ l. ⊎_elim
        (λ e. inr (closed_again (closed_same old (count_equal old new n (λ X _. round_keeps old X) e))))
        (λ h. inl (omega arith)) (eq-or-lt_of_le (count_monotone old new n (λ X _. round_keeps old X))))
        (λ c. inr (closed_again c)) (stage s k)

    rounds_closed : (s : ℕ → Bool) → ClosedUnder d rules (rounds d rules n s)
    rounds_closed s =
        let new = rounds d rules n s in
        ⊎_elim
        (λ l ρ m X r t. count_equal new (λ _. true) n (λ Y _ e. refl)
        (omega (arith, count_bound new n, count-all (λ _. true) n (λ Y _. refl))) X (added_has d ρ X (below ρ m) t))
        (λ c. c) (stage s n)

-- 64 rounds over 64 symbols give the smallest closed set that contains the set
module _ (d : Direction) (rules : List Rule) (s : ℕ → Bool) where
  pub grown_keeps : Subset s (grown d rules s)
  unfolding grown
  grown_keeps = rounds_keeps d rules s 64

  pub grown_within : {c : ℕ → Bool} → ClosedUnder d rules c → Subset s c → Subset (grown d rules s) c
  grown_within {c} closed sub =
      grown_sound d rules (λ X. c X ≡ true) sub (λ t one ρ m X r. closed ρ m X (ready_grows d one ρ r))

  pub grown_closed : Below 64 rules → ClosedUnder d rules (grown d rules s)
  unfolding grown
  grown_closed below = rounds_closed d rules 64 below s
