-- A place and its three parts determine each other: division by 2048 and 32 takes apart what the sum put together.
-- Assumes nothing.
use Rattle.grammar.proofs.Basics.{◌≡◌, ℕ, ◌<◌, arith}
use Rattle.machine.specs.Table.{table_size, reasons_size, table_place, from_state, symbol_at, to_state, reason_place_lem}
use Rattle.machine.specs.Table.{reason_state, reason_variable}

-- a place in the table decodes to its parts
module _ (q X r : ℕ) (xl : X < 64) (rl : r < 32) where
  pub from_state_place : from_state (table_place q X r) ≡ q
  from_state_place = omega arith

  pub symbol_at_place : symbol_at (table_place q X r) ≡ X
  symbol_at_place = omega arith

pub to_state_place : (q X r : ℕ) → r < 32 → to_state (table_place q X r) ≡ r
to_state_place q X r rl = omega arith

-- its parts are in range, and make it up again
pub from_state_below : (p : ℕ) → p < table_size → from_state p < 32
from_state_below p l = omega arith

pub symbol_at_below : (p : ℕ) → symbol_at p < 64
symbol_at_below p = omega arith

pub to_state_below : (p : ℕ) → to_state p < 32
to_state_below p = omega arith

pub place_of_parts : (p : ℕ) → p < table_size → table_place (from_state p) (symbol_at p) (to_state p) ≡ p
place_of_parts p l = omega arith

pub place_below : (q X r : ℕ) → q < 32 → X < 64 → r < 32 → table_place q X r < table_size
place_below q X r ql xl rl = omega arith

-- different transitions have different places
pub place_injective : (q X r q' X' r' : ℕ) → X < 64 → r < 32 → X' < 64 → r' < 32 →
    table_place q X r ≡ table_place q' X' r' → (q ≡ q') × (X ≡ X') × (r ≡ r')
place_injective q X r q' X' r' xl rl xl' rl' e = omega arith

-- a property of the places below 65,536 is one of the transitions
pub by_parts : (P : ℕ → Type 0) → ((q X r : ℕ) → q < 32 → X < 64 → r < 32 → P (table_place q X r)) →
    (p : ℕ) → p < table_size → P p
by_parts P f p l =
    rw place_of_parts at (f (from_state p) (symbol_at p) (to_state p) (omega arith) (omega arith) (omega arith))

-- the same of the reasons, whose labels are variables
module _ (q A r : ℕ) (al : A < 32) (rl : r < 32) where
  pub reason_state_place : reason_state (reason_place_lem q A r) ≡ q
  reason_state_place = omega arith

  pub reason_variable_place : reason_variable (reason_place_lem q A r) ≡ A
  reason_variable_place = omega arith

pub to_state_reason_place : (q A r : ℕ) → r < 32 → to_state (reason_place_lem q A r) ≡ r
to_state_reason_place q A r rl = omega arith

pub reason_place_of_parts : (k : ℕ) → k < reasons_size → reason_place_lem (reason_state k) (reason_variable k) (to_state k) ≡ k
reason_place_of_parts k l = omega arith

pub reason_place_below : (q A r : ℕ) → q < 32 → A < 32 → r < 32 → reason_place_lem q A r < reasons_size
reason_place_below q A r ql al rl = omega arith

pub reason_place_injective : (q A r q' A' r' : ℕ) → A < 32 → r < 32 → A' < 32 → r' < 32 →
    reason_place_lem q A r ≡ reason_place_lem q' A' r' → (q ≡ q') × (A ≡ A') × (r ≡ r')
reason_place_injective q A r q' A' r' al rl al' rl' e = omega arith
