-- What a machine on bits has changed, written into a byte table, row by row. Assumes nothing.
use Rattle.std.specs.Prelude.{◌≡◌, true, cond, ◌&&◌, List, ℕ, ◌*◌, ◌/◌, ◌%◌, ◌≤◌, ◌<◌, eqb, length, get_or}
use Rattle.machine.specs.Table.{table_size, is_absent_at, statuses}
use Rattle.machine.specs.Theorems.Bytes.{byte_for}
use Rattle.bit_machine.specs.BitTable.{bit_of, bit_statuses}

-- a byte is written at the places of row k that are ones of a word, and nothing else is changed
pub record OnesWritten (before after : List ℕ) (k ones byte : ℕ) : Type 0 where
  pub long : length after ≡ length before
  pub bytes : (p : ℕ) → get_or after p 0 ≡ cond (eqb (p / 32) k && bit_of ones (p % 32)) byte (get_or before p 0)

-- what can be merged into a table: the old bits say what it says, and no place that is there is absent in the new ones
pub record Merges (old new table : List ℕ) : Type 0 where
  pub says : (p : ℕ) → p < table_size → bit_statuses old p ≡ statuses table p
  pub there : (p : ℕ) → p < table_size → is_absent_at (bit_statuses new) p ≡ true →
      is_absent_at (bit_statuses old) p ≡ true

-- the first k rows say what the new bits say, in the bytes that did before
pub record RowsMerged (new : List ℕ) (k : ℕ) (before after : List ℕ) : Type 0 where
  pub long : length after ≡ length before
  pub bytes : (p : ℕ) → p < k * 32 → get_or after p 0 ≡ byte_for (bit_statuses new p) (get_or before p 0)
  pub rest : (p : ℕ) → k * 32 ≤ p → get_or after p 0 ≡ get_or before p 0

-- two bit tables agree in the 32 rows of a part
abbrev pub PartSame : List ℕ → List ℕ → ℕ → Type 0
PartSame old new n = (p : ℕ) → p < table_size → p / 1024 ≡ n → bit_statuses new p ≡ bit_statuses old p
