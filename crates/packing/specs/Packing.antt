-- A byte table packed into bits, row by row. Assumes nothing.
use Rattle.std.specs.Prelude.{◌≡◌, Bool, ◌&&◌, List, ℕ, ◌+◌, ◌*◌, ◌/◌, ◌<◌, get_or}
use Rattle.machine.specs.Table.{table_size, is_pending_lem, is_done_lem}
use Rattle.bit_machine.specs.BitTable.{pending_half, done_half, bit_of, bit_at}

-- the word of row k by a test of bytes
abbrev pub Says : (ℕ → Bool) → List ℕ → ℕ → ℕ → Type 0
Says test table k word = (j : ℕ) → j < 32 → bit_of word j ≡ test (get_or table (k * 32 + j) 0)

-- in some rows each place has the bit that its byte says; in the others no place has a bit
pub record PackedRows (rows : ℕ → Bool) (table bits : List ℕ) : Type 0 where
  pub pending : (p : ℕ) → p < table_size →
      bit_at bits pending_half p ≡ (rows (p / 32) && is_pending_lem (get_or table p 0))
  pub done : (p : ℕ) → p < table_size → bit_at bits done_half p ≡ (rows (p / 32) && is_done_lem (get_or table p 0))
