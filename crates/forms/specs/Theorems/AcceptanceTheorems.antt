-- What acceptance and the route mean: paths of done transitions, the first accepting state sequence, membership in
-- pre*. Each statement is the contract of a function of src/theorems.rt, so it is proved. Assumes nothing.
use Rattle.std.specs.Prelude.{◌≡◌, ◌↔◌, Bool, true, List, [], ◌∷◌, map, ℕ, ◌<◌, ◌≤◌}
use Rattle.grammar.specs.Automaton.{Transitions, Holds, Path, StatesBelow}
use Rattle.job.specs.Job.{Job}
use Rattle.machine.specs.Table.{table_place, to_state}
use Rattle.machine.specs.Smallest.{DecidesSmallest}
use Rattle.forms.specs.Acceptance.{SymbolsFit, can_finish, is_accepted_lem, route, DerivesGiven}

-- Table and machine: the transitions that pass a test, over all 32 state numbers
abbrev pub Done : (ℕ → ℕ → ℕ → Bool) → Transitions
Done done q X r = (q < 32) × (r < 32) × (done q X r ≡ true)

-- a form can finish from a state exactly where the done transitions lead from it along the form to a final state
unfoldable pub FinishIsPath : Type 0
FinishIsPath =
    (final : ℕ → Bool) (done : ℕ → ℕ → ℕ → Bool) (w : List ℕ) (q : ℕ) → q < 32 →
    (can_finish final done w q ≡ true) ↔ ((r : ℕ) × Path (Done done) q w r × (final r ≡ true))

-- an accepting state sequence: from a state it follows done transitions along the form, and its last state is final
pub data Accepting (final : ℕ → Bool) (done : ℕ → ℕ → ℕ → Bool) : List ℕ → ℕ → List ℕ → Type 0 where
  ends : {q : ℕ} → final q ≡ true → Accepting final done [] q []
  follows :
      {q X r : ℕ} {w states : List ℕ} → Done done q X r → Accepting final done w r states →
      Accepting final done (X ∷ w) q (r ∷ states)

-- lexicographic order, equal sequences included: where the two first differ, the first is lower or has ended
pub data LexAtMost : List ℕ → List ℕ → Type 0 where
  none : {ss : List ℕ} → LexAtMost [] ss
  lower : {r s : ℕ} {rs ss : List ℕ} → r < s → LexAtMost (r ∷ rs) (s ∷ ss)
  later : {r : ℕ} {rs ss : List ℕ} → LexAtMost rs ss → LexAtMost (r ∷ rs) (r ∷ ss)

-- Forms and listings: the accepting state sequence that comes first in lexicographic order
pub record FirstAccepting (final : ℕ → Bool) (done : ℕ → ℕ → ℕ → Bool) (w : List ℕ) (q : ℕ) (states : List ℕ) : Type
    0 where
  pub accepting : Accepting final done w q states
  pub first : (others : List ℕ) → Accepting final done w q others → LexAtMost states others

-- the places of the transitions from a state along a form through a sequence of states
unfoldable pub places_along : ℕ → List ℕ → List ℕ → List ℕ
places_along q [] states = []
places_along q (X ∷ w) [] = []
places_along q (X ∷ w) (r ∷ states) = table_place q X r ∷ places_along r w states

-- the route of an accepted form: its states come first of all accepting sequences, and its places are those of the
-- transitions through them
unfoldable pub RouteIsFirst : Type 0
RouteIsFirst =
    (final : ℕ → Bool) (done : ℕ → ℕ → ℕ → Bool) (w : List ℕ) (q : ℕ) → q < 32 → can_finish final done w q ≡ true →
    FirstAccepting final done w q (map to_state (route final done w q))
    × (route final done w q ≡ places_along q w (map to_state (route final done w q)))

-- Forms and listings: where the done transitions are the smallest set, as on each table that the job's start and
-- advance have finished, a form is accepted if and only if it derives a string of the given automaton
unfoldable pub AcceptanceIsPreStar : Type 0
AcceptanceIsPreStar =
    (J : Job) (done : ℕ → ℕ → ℕ → Bool) (w : List ℕ) → J.states ≤ 32 →
    StatesBelow (Holds J.given) J.states → J.initial < J.states → SymbolsFit w → DecidesSmallest J done →
    (is_accepted_lem J.final done J.initial w ≡ true) ↔ DerivesGiven J w
