-- What functions that write bits leave. Assumes nothing.
use Rattle.std.specs.Prelude.{◌≡◌, ℕ, ◌/◌, ◌%◌, ◌<◌, Bool, false, cond, ◌&&◌, List, eqb, length, get_or, drop}
use Rattle.machine.specs.Table.{table_size, is_done_lem}
use Rattle.bit_machine.specs.BitTable.{bits_size, bit_of, bit_at, has_both, table_of_bits}

-- the 32 bits of row k of a half are those of a word, and nothing else is changed
pub record RowWritten (before after : List ℕ) (half k word : ℕ) : Type 0 where
  pub long : length after ≡ length before
  pub rest : drop bits_size after ≡ drop bits_size before
  pub bits : (h p : ℕ) → h < 2 → p < table_size →
      bit_at after h p ≡ cond (eqb h half && eqb (p / 32) k) (bit_of word (p % 32)) (bit_at before h p)

-- one bit is changed, and nothing else
pub record BitSet (before after : List ℕ) (half place : ℕ) (value : Bool) : Type 0 where
  pub long : length after ≡ length before
  pub rest : drop bits_size after ≡ drop bits_size before
  pub bits : (h p : ℕ) → h < 2 → p < table_size →
      bit_at after h p ≡ cond (eqb h half && eqb p place) value (bit_at before h p)

-- what every write but start's clearing keeps: the length, what is lent past the two halves, and which places have
-- both bits
pub record Kept (before after : List ℕ) : Type 0 where
  pub long : length after ≡ length before
  pub rest : drop bits_size after ≡ drop bits_size before
  pub both : (p : ℕ) → p < table_size → has_both after p ≡ has_both before p

-- no place is done, as where start has cleared both halves
abbrev pub NoneDone : List ℕ → Type 0
NoneDone bits = (p : ℕ) → p < table_size → is_done_lem (get_or (table_of_bits bits) p 0) ≡ false
