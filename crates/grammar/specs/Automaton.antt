-- Finite automata: sets of transitions, and the strings that lead from one state to another. Assumes nothing.
use Rattle.std.specs.Prelude.{◌≡◌, ℕ, ◌<◌, Bool, true, List, [], ◌∷◌}

-- a set of transitions (q, X, r)
abbrev pub Transitions : Type 1
Transitions = ℕ → ℕ → ℕ → Type 0

-- the set of the transitions that pass a test
abbrev pub Holds : (ℕ → ℕ → ℕ → Bool) → Transitions
Holds d q X r = d q X r ≡ true

-- [Esparza], section 2: the string w leads from q to r
pub data Path (D : Transitions) : ℕ → List ℕ → ℕ → Type 0 where
  here : {q : ℕ} → Path D q [] q
  along : {q X m r : ℕ} {w : List ℕ} → D q X m → Path D m w r → Path D q (X ∷ w) r

-- both states of each transition are below s: they are states of an automaton with s states
abbrev pub StatesBelow : Transitions → ℕ → Type 0
StatesBelow D s = (q X r : ℕ) → D q X r → (q < s) × (r < s)
