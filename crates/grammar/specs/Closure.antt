-- The smallest set of transitions that contains the given ones and is closed under the rules. Assumes nothing.
use Rattle.std.specs.Prelude.{ℕ, ◌<◌}
use Rattle.grammar.specs.Rule.{Rule, Rules, head, body, empty, unit, pair}
use Rattle.grammar.specs.Automaton.{Transitions, Path, StatesBelow}

-- From papers to product: the set T has the given transitions D, and saturation adds nothing to it: where β leads from
-- a state q below s to r and A → β is a rule, (q, A, r) is there already. [Esparza], section 3.
pub record Closed (R : Rules) (D : Transitions) (s : ℕ) (T : Transitions) : Type 0 where
  pub given : (q X r : ℕ) → D q X r → T q X r
  pub saturated : (ρ : Rule) (q r : ℕ) → R ρ → q < s → Path T q (body ρ) r → T q (head ρ) r

-- [Esparza], section 4: T adds no states, is closed, and lies in every closed set, whether a test decides it or not. A
-- record about all sets is one of Type 1; a function carries it by proofs/Carried.
pub record SmallestClosed (R : Rules) (D : Transitions) (s : ℕ) (T : Transitions) : Type 1 where
  pub states : StatesBelow T s
  pub closed : Closed R D s T
  pub least : (U : Transitions) → Closed R D s U → (q X r : ℕ) → T q X r → U q X r

-- the smallest such set, by the four ways into it: [Esparza], section 4, lines 1, 3, 9 and 12 of the algorithm
pub data Closure (R : Rules) (D : Transitions) (s : ℕ) : ℕ → ℕ → ℕ → Type 0 where
  given : {q X r : ℕ} → D q X r → Closure R D s q X r
  by_empty : {A q : ℕ} → R (empty A) → q < s → Closure R D s q A q
  by_unit : {A X q r : ℕ} → R (unit A X) → Closure R D s q X r → Closure R D s q A r
  by_pair :
      {A X Y q m r : ℕ} → R (pair A X Y) → Closure R D s q X m → Closure R D s m Y r → Closure R D s q A r
