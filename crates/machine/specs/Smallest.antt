-- The set of transitions that saturation makes, and its number. Assumes nothing.
use Rattle.std.specs.Prelude.{◌≡◌, ◌↔◌, Bool, true, ℕ, ◌<◌}
use Rattle.grammar.specs.Rule.{Among}
use Rattle.grammar.specs.Automaton.{Transitions, Holds}
use Rattle.grammar.specs.Closure.{Closure}
use Rattle.grammar.specs.Counting.{HasCount}
use Rattle.job.specs.Job.{Job}
use Rattle.machine.specs.Table.{table_size, from_state, symbol_at, to_state}

-- The demands, 2: the smallest set of transitions that has the given ones and is closed under the rules
abbrev pub Smallest : Job → Transitions
Smallest J = Closure (Among J.rules) (Holds J.given) J.states

-- a test of transitions decides the smallest set, at the states and symbols that there are
abbrev pub DecidesSmallest : Job → (ℕ → ℕ → ℕ → Bool) → Type 0
DecidesSmallest J test = (q X r : ℕ) → q < 32 → X < 64 → r < 32 → (test q X r ≡ true) ↔ Smallest J q X r

-- The demands, 3: the smallest set has k transitions; each has one place
abbrev pub SmallestCount : Job → ℕ → Type 0
SmallestCount J k = HasCount (λ p. Smallest J (from_state p) (symbol_at p) (to_state p)) table_size k
