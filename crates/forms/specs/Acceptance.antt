-- Whether a form is accepted, and along which states, by the final states and the transitions that are done. Assumes
-- nothing.
use Rattle.std.specs.Prelude.{◌≡◌, ℕ, ◌<◌, ◌≤◌, Bool, true, ◌&&◌, List, [], ◌∷◌, length, get_or}
use Rattle.grammar.specs.Rule.{Among, ProductionsOf}
use Rattle.grammar.specs.Derivation.{Derives}
use Rattle.grammar.specs.Automaton.{Holds, Path}
use Rattle.grammar.specs.Counting.{some}
use Rattle.job.specs.Job.{Job}
use Rattle.machine.specs.Table.{table_place}
use Rattle.machine.specs.Step.{first_from}

-- The job: the bytes of a form are symbols, variables or terminals, from 0 to 63
abbrev pub SymbolsFit : List ℕ → Type 0
SymbolsFit form = (i : ℕ) → i < length form → get_or form i 0 ≤ 63

-- Forms and listings: a form is read along done transitions, with all 32 state numbers as states. Whether its rest
-- leads from a state to a final one
unfoldable pub can_finish : (ℕ → Bool) → (ℕ → ℕ → ℕ → Bool) → List ℕ → ℕ → Bool
can_finish final done [] q = final q
can_finish final done (X ∷ w) q = some (λ r. done q X r && can_finish final done w r) 32

-- Forms and listings: a form is accepted if it can finish from the initial state; the empty form is if that state is
-- final
abbrev pub is_accepted_lem : (ℕ → Bool) → (ℕ → ℕ → ℕ → Bool) → ℕ → List ℕ → Bool
is_accepted_lem final done initial form = can_finish final done form initial

-- the lowest next state from which the rest of the form can still finish
unfoldable pub next_state : (ℕ → Bool) → (ℕ → ℕ → ℕ → Bool) → ℕ → List ℕ → ℕ → ℕ
next_state final done X w q = first_from (λ r. done q X r && can_finish final done w r) 0 32

-- Forms and listings: of all accepting state sequences the one that comes first in lexicographic order is listed: the
-- places of its transitions from a state on
unfoldable pub route : (ℕ → Bool) → (ℕ → ℕ → ℕ → Bool) → List ℕ → ℕ → List ℕ
route final done [] q = []
route final done (X ∷ w) q =
    table_place q X (next_state final done X w q) ∷ route final done w (next_state final done X w q)

-- The demands, 2: the form derives, by the job's rules, some string along which the given transitions lead from the
-- initial state to a final one. That is membership in pre* of the language of the job's automaton ([Esparza], section
-- 3).
abbrev pub DerivesGiven : Job → List ℕ → Type 0
DerivesGiven J form =
    (β : List ℕ) × (r : ℕ) × Derives (ProductionsOf (Among J.rules)) form β × Path (Holds J.given)
    J.initial β r
    × (J.final r ≡ true)
