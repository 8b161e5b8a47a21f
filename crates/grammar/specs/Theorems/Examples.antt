-- The papers' examples and what the papers say of them. `PaperExamples` is the contract of a function of
-- src/theorems.rt, so it is proved. Assumes nothing.
use Rattle.std.specs.Prelude.{◌≡◌, ◌↔◌, Bool, ℕ, ◌<◌, length}
use mathlib.Core.List.{List, [], ◌∷◌, ◌++◌, Memᴰ}
use Rattle.grammar.specs.Rule.{Rule, Among, unit, pair}
use Rattle.grammar.specs.Automaton.{Transitions, Holds}
use Rattle.grammar.specs.Closure.{Closure}
use Rattle.grammar.specs.Counting.{meetings, NoRepeat}
use Rattle.grammar.specs.Useful.{Productive, InContext, Useful}
use Rattle.grammar.specs.Growing.{Growing}

-- the set of the transitions of a list
abbrev pub TransitionsOf : List (ℕ × ℕ × ℕ) → Transitions
TransitionsOf ts q X r = Memᴰ {A = ℕ × ℕ × ℕ} (q, X, r) ts

-- [Esparza], section 3: A → a, A → B B, B → A B, B → b. A and B are 0 and 1, a and b 32 and 33.
abbrev pub figure1_rules : List Rule
figure1_rules = unit 0 32 ∷ pair 0 1 1 ∷ pair 1 0 1 ∷ unit 1 33 ∷ []

-- [Esparza], Figure 1, the left half: the given automaton, with three states
abbrev pub figure1_before : List (ℕ × ℕ × ℕ)
figure1_before = (0, 32, 1) ∷ (1, 33, 2) ∷ (2, 32, 1) ∷ []

-- the right half: the transitions that are added come behind, in the order in which section 3 names them
abbrev pub figure1_after : List (ℕ × ℕ × ℕ)
figure1_after =
    figure1_before
    ++ ((0, 0, 1) ∷ (1, 1, 2) ∷ (2, 0, 1) ∷ (0, 1, 2) ∷ (2, 1, 2) ∷ (0, 0, 2) ∷ (1, 0, 2) ∷ (2, 0, 2) ∷ [])

-- the smallest closed set is the right half, 11 transitions in all, and its pair meetings are 8
pub record Figure1 : Type 0 where
  pub result :
      (q X r : ℕ) →
      Closure (Among figure1_rules) (TransitionsOf figure1_before) 3 q X r ↔ TransitionsOf figure1_after q X r
  pub apart : NoRepeat figure1_after
  pub number : length figure1_after ≡ 11
  pub met :
      (t : ℕ → ℕ → ℕ → Bool) →
      ((q X r : ℕ) → q < 3 → r < 3 → Holds t q X r ↔ TransitionsOf figure1_after q X r) →
      meetings t 3 figure1_rules ≡ 8

-- [Lecture 25], Example 25.5: S → A B, A → B C, A → a, B → b, C → c. S, A, B, C are 0 to 3, and a, b, c 32 to 34.
abbrev pub finite_rules : List Rule
finite_rules = pair 0 1 2 ∷ pair 1 2 3 ∷ unit 1 32 ∷ unit 2 33 ∷ unit 3 34 ∷ []

-- [Lecture 25], Example 25.6: S → A B, A → B S, A → a, B → b, C → c, numbered alike
abbrev pub infinite_rules : List Rule
infinite_rules = pair 0 1 2 ∷ pair 1 2 0 ∷ unit 1 32 ∷ unit 2 33 ∷ unit 3 34 ∷ []

-- a symbol that the second example leaves out as useless: it derives a terminal string, but the start symbol derives
-- it in no terminal context
pub record Pruned (X : ℕ) : Type 0 where
  pub productive : Productive (Among infinite_rules) X
  pub not_in_context : InContext (Among infinite_rules) 0 X → ⊥
  pub not_useful : Useful (Among infinite_rules) 0 X → ⊥

-- the figure; 25.5 does not grow, as its graph has no cycle; 25.6 grows, by the cycle S, A, S, and leaves C and c out
pub record PaperExamples : Type 0 where
  pub figure_1 : Figure1
  pub finite : Growing (Among finite_rules) 0 → ⊥
  pub infinite : Growing (Among infinite_rules) 0
  pub C-pruned : Pruned 3
  pub c_pruned : Pruned 34
