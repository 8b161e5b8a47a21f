-- The bytes that steps leave, by what their places say. Assumes nothing.
use Rattle.std.specs.Prelude.{◌≡◌, true, cond, List, ℕ, leb}
use Rattle.grammar.specs.Rule.{Rule}
use Rattle.machine.specs.Table.{Lent, table_size, Status, Statuses, is_absent_at, is_absent, is_pending_lem, is_done_lem}
use Rattle.machine.specs.Table.{statuses, each}
use Rattle.machine.specs.Advance.{steps}

-- the byte of a place that is to say a status: the old one where it says it
abbrev pub byte_for : Status → ℕ → ℕ
byte_for Status.absent old = cond (is_absent old) old 0
byte_for Status.pending old = cond (is_pending_lem old) old 1
byte_for Status.done old = cond (is_done_lem old) old 2

-- a table rewritten to say v, in the bytes of the machine
unfoldable pub rewritten : Statuses → List ℕ → List ℕ
rewritten v table = each (λ p old. cond (leb table_size p) old (byte_for (v p) old)) 0 table

-- Table and machine, one step: nothing else changes. So after n steps on any table a byte is the old one where its
-- place says what it said, and 1 or 2 where it says something new: no place becomes absent
pub record BytesKept (before after : List ℕ) : Type 0 where
  pub bytes : after ≡ rewritten (statuses after) before
  pub there : (p : ℕ) → is_absent_at (statuses after) p ≡ true → is_absent_at (statuses before) p ≡ true

unfoldable pub StepsKeepBytes : Type 0
StepsKeepBytes = (ρs : List Rule) (m : Lent) (n : ℕ) → BytesKept m.table (steps ρs n m).table
