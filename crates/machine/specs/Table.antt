-- Table and machine: the places of transitions and of reasons, what a table says of a place, and how bytes say it.
-- Assumes nothing.
use Rattle.std.specs.Prelude.{◌≡◌, ℕ, suc, ◌+◌, ◌*◌, ◌/◌, ◌%◌, Bool, true, false, cond, ◌||◌, List, [], ◌∷◌, eqb, leb, length, get_or, drop}
use Rattle.grammar.specs.Counting.{count}

-- what is lent: a table of bytes and reasons of 32 bits each
pub record Lent : Type 0 where
  pub table : List ℕ
  pub reasons : List ℕ

-- the two lists as one
abbrev pub lent_of : List ℕ → List ℕ → Lent
lent_of t rs = record { table = t; reasons = rs }

-- the bytes and the numbers that the machine reads and writes; what is lent beyond them stays as it is
abbrev pub table_size : ℕ
table_size = 65536

abbrev pub reasons_size : ℕ
reasons_size = 32768

-- the same lengths, and what is lent past a table of that size and past the reasons as it was
pub record KeepsRest (size : ℕ) (before after : Lent) : Type 0 where
  pub long_table : length after.table ≡ length before.table
  pub long_reasons : length after.reasons ≡ length before.reasons
  pub rest_table : drop size after.table ≡ drop size before.table
  pub rest_reasons : drop reasons_size after.reasons ≡ drop reasons_size before.reasons

-- the place of the transition (q, X, r) in a table, and the three parts of a place
abbrev pub table_place : ℕ → ℕ → ℕ → ℕ
table_place q X r = q * 2048 + X * 32 + r

abbrev pub from_state : ℕ → ℕ
from_state p = p / 2048

abbrev pub symbol_at : ℕ → ℕ
symbol_at p = p / 32 % 64

abbrev pub to_state : ℕ → ℕ
to_state p = p % 32

-- the place of the reason of a variable's transition (q, A, r); the state and the variable of such a place
abbrev pub reason_place_lem : ℕ → ℕ → ℕ → ℕ
reason_place_lem q A r = q * 1024 + A * 32 + r

abbrev pub reason_state : ℕ → ℕ
reason_state k = k / 1024

abbrev pub reason_variable : ℕ → ℕ
reason_variable k = k / 32 % 32

-- a transition is absent, pending or done
pub data Status : Type 0 where
  absent : Status
  pending : Status
  done : Status

abbrev pub says_absent : Status → Bool
says_absent Status.absent = true
says_absent Status.pending = false
says_absent Status.done = false

abbrev pub says_pending : Status → Bool
says_pending Status.absent = false
says_pending Status.pending = true
says_pending Status.done = false

abbrev pub says_done : Status → Bool
says_done Status.absent = false
says_done Status.pending = false
says_done Status.done = true

-- what a table says of each place, however it is written
abbrev pub Statuses : Type 0
Statuses = ℕ → Status

abbrev pub is_absent_at : Statuses → ℕ → Bool
is_absent_at v p = says_absent (v p)

abbrev pub is_pending_at : Statuses → ℕ → Bool
is_pending_at v p = says_pending (v p)

abbrev pub is_done_at : Statuses → ℕ → Bool
is_done_at v p = says_done (v p)

-- the transition is done
unfoldable pub done_in : Statuses → ℕ → ℕ → ℕ → Bool
done_in v q X r = is_done_at v (table_place q X r)

-- the number of done places
unfoldable pub done_count_lem : Statuses → ℕ
done_count_lem v = count (is_done_at v) table_size

-- a byte of 1 is pending, 2 is done, 3 is done and listed; every other is absent
abbrev pub byte_status : ℕ → Status
byte_status b = cond (eqb b 1) Status.pending (cond (eqb b 2 || eqb b 3) Status.done Status.absent)

abbrev pub is_absent : ℕ → Bool
is_absent b = says_absent (byte_status b)

abbrev pub is_pending_lem : ℕ → Bool
is_pending_lem b = says_pending (byte_status b)

abbrev pub is_done_lem : ℕ → Bool
is_done_lem b = says_done (byte_status b)

-- the byte that says a status
abbrev pub status_byte : Status → ℕ
status_byte Status.absent = 0
status_byte Status.pending = 1
status_byte Status.done = 2

-- what a table of bytes says
unfoldable pub statuses : List ℕ → Statuses
statuses t p = byte_status (get_or t p 0)

abbrev pub done_at_lem : List ℕ → ℕ → ℕ → ℕ → Bool
done_at_lem t = done_in (statuses t)

-- a reason is 0 for none, 65,535 for a given transition, else made of a rule's rank and a middle state
abbrev pub given_reason : ℕ
given_reason = 65535

abbrev pub reason_of : ℕ → ℕ → ℕ
reason_of rank middle = 1 + 32 * rank + middle

-- the smaller of two reasons, where 0 is none
abbrev pub lesser : ℕ → ℕ → ℕ
lesser a b = cond (eqb a 0) b (cond (eqb b 0) a (cond (leb a b) a b))

-- a reason where a test holds, else none
abbrev pub when : Bool → ℕ → ℕ
when b n = cond b n 0

-- what stands among the reasons: a reason, and 65,536 times the turn at which its transition was added
abbrev pub entry_of : ℕ → ℕ → ℕ
entry_of reason turn = reason + 65536 * turn

-- the reason and the turn of what stands there
abbrev pub reason_in : ℕ → ℕ
reason_in entry = entry % 65536

abbrev pub turn_in : ℕ → ℕ
turn_in entry = entry / 65536

-- the turn of the transition at a place; that of a terminal is 0, as no step adds one
abbrev pub turn_at_lem : List ℕ → ℕ → ℕ
turn_at_lem reasons p =
    cond (leb 32 (symbol_at p)) 0
    (turn_in (get_or reasons (reason_place_lem (from_state p) (symbol_at p) (to_state p)) 0))

-- a list changed element by element, by its index from i on
unfoldable pub each : (ℕ → ℕ → ℕ) → ℕ → List ℕ → List ℕ
each f i [] = []
each f i (x ∷ xs) = f i x ∷ each f (suc i) xs
