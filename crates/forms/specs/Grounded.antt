-- Reasons that lead down: turns fall from a transition to its premises, so no chain of them goes in a circle or is
-- longer than the table. Assumes nothing.
use Rattle.std.specs.Prelude.{◌≡◌, ◌⊎◌, true, ℕ, ◌*◌, ◌≤◌, ◌<◌, length, get_or}
use mathlib.Core.List.{List, Memᴰ}
use Rattle.grammar.specs.Rule.{Rule}
use Rattle.machine.specs.Table.{table_size, is_done_lem, given_reason, turn_at_lem}
use Rattle.forms.specs.Listing.{reason_at_lem, premises}

-- a place of the table whose transition is done
pub record DonePlace (t : List ℕ) (p : ℕ) : Type 0 where
  pub within : p < table_size
  pub is_done_lem' : is_done_lem (get_or t p 0) ≡ true

-- Table and machine: a reason is 65,535 for given, else one more than 32 times a rule's rank and the middle state
abbrev pub ReasonFits : List Rule → ℕ → Type 0
ReasonFits rules reason = (reason ≡ given_reason) ⊎ ((1 ≤ reason) × (reason ≤ 32 * length rules))

-- each done transition has a reason that fits, whose premises are done and of earlier turns
pub record Grounded (rules : List Rule) (reasons t : List ℕ) : Type 0 where
  pub bounded : (p : ℕ) → DonePlace t p → turn_at_lem reasons p ≤ table_size
  pub reason : (p : ℕ) → DonePlace t p → ReasonFits rules (reason_at_lem reasons p)
  pub premise_done :
      (p q : ℕ) → DonePlace t p → Memᴰ q (premises rules reasons p) → DonePlace t q
  pub premise_earlier :
      (p q : ℕ) → DonePlace t p → Memᴰ q (premises rules reasons p) → turn_at_lem reasons q < turn_at_lem reasons p
