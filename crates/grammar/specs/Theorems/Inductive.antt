-- The sets that a computation builds up, rule by rule. The theorems say which sets of the papers they are.
-- Assumes nothing.
use Rattle.std.specs.Prelude.{ℕ, ◌⊎◌}
use Rattle.grammar.specs.Symbol.{IsTerminal}
use Rattle.grammar.specs.Rule.{Rules, empty, unit, pair}

-- [Lecture 25], Theorem 25.1, from the bottom up: terminals, and the head of a rule whose body is all in the set
pub data Generating (R : Rules) : ℕ → Type 0 where
  terminal : {X : ℕ} → IsTerminal X → Generating R X
  by_empty : {A : ℕ} → R (empty A) → Generating R A
  by_unit : {A X : ℕ} → R (unit A X) → Generating R X → Generating R A
  by_pair : {A X Y : ℕ} → R (pair A X Y) → Generating R X → Generating R Y → Generating R A

-- [Lecture 25], Theorem 25.3, from the top down: the start symbol, and a symbol of a body whose head is in the set and
-- whose other symbol generates
pub data Reached (R : Rules) (S : ℕ) : ℕ → Type 0 where
  start : Reached R S S
  by_unit : {A X : ℕ} → R (unit A X) → Reached R S A → Reached R S X
  by_left : {A X Y : ℕ} → R (pair A X Y) → Generating R Y → Reached R S A → Reached R S X
  by_right : {A X Y : ℕ} → R (pair A X Y) → Generating R X → Reached R S A → Reached R S Y

-- [Lecture 25], Theorem 25.4, the graph: from A to Z by zero or more rules, each from its head to a symbol of its body
pub data Leads (R : Rules) : ℕ → ℕ → Type 0 where
  here : {A : ℕ} → Leads R A A
  by_unit : {A X Z : ℕ} → R (unit A X) → Leads R X Z → Leads R A Z
  by_left : {A X Y Z : ℕ} → R (pair A X Y) → Leads R X Z → Leads R A Z
  by_right : {A X Y Z : ℕ} → R (pair A X Y) → Leads R Y Z → Leads R A Z

-- from X to a terminal
abbrev pub LeadsToTerminal : Rules → ℕ → Type 0
LeadsToTerminal R X = (a : ℕ) × IsTerminal a × Leads R X a

-- one of two symbols leads to Z, and the other to a terminal
abbrev pub OneLeads : Rules → (Z X Y : ℕ) → Type 0
OneLeads R Z X Y = (Leads R X Z × LeadsToTerminal R Y) ⊎ (Leads R Y Z × LeadsToTerminal R X)

-- a pair rule with one symbol that leads back to its head, and with another beside it that leads to a terminal
abbrev pub GrowingCycle : Rules → Type 0
GrowingCycle R = (A : ℕ) × (X : ℕ) × (Y : ℕ) × R (pair A X Y) × OneLeads R A X Y
