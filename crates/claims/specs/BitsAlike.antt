-- A bit table and a byte table that say the same stay alike, call by call. Assumes nothing.
use Rattle.std.specs.Prelude.{◌≡◌, List, [], ◌∷◌, ℕ, ◌<◌, ◌≤◌, length, take}
use Rattle.machine.specs.Table.{Lent, table_size, reasons_size, statuses}
use Rattle.machine.specs.Operations.{start_of, advance_of}
use Rattle.bit_machine.specs.BitTable.{bits_size, bit_statuses}
use Rattle.bit_machine.specs.Operations.{start_bits_of, advance_bits_of}
use Rattle.forms.specs.Operations.{ask_of, ask_bits_of}

-- what is lent is long enough on both sides, whatever it holds
pub record BothLong (bits table : Lent) : Type 0 where
  pub bits_long : bits_size ≤ length bits.table
  pub bit_reasons_long : reasons_size ≤ length bits.reasons
  pub table_long : table_size ≤ length table.table
  pub reasons_long : reasons_size ≤ length table.reasons

-- The bit table: each place says the same, and the reasons that the machine reads and writes, the first 32,768, are
-- equal; past them each side keeps its own
pub record AlikeFirst (bits table : Lent) : Type 0 where
  pub says : (p : ℕ) → p < table_size → bit_statuses bits.table p ≡ statuses table.table p
  pub reasons : take reasons_size bits.reasons ≡ take reasons_size table.reasons

-- The bit table: start answers the same, and where it is not refused leaves tables that say the same, with the same
-- reasons, whatever was there
pub record StartAlike (job : List ℕ) (bits table : Lent) : Type 0 where
  pub answer : (start_bits_of job bits).answer ≡ (start_of job table).answer
  pub lent : (start_of job table).answer.number ≡ 0 → AlikeFirst (start_bits_of job bits).lent (start_of job table).lent

-- The bit table: on tables that say the same, advance answers the same and leaves such tables
pub record AdvanceAlike (job : List ℕ) (bits table : Lent) (n : ℕ) : Type 0 where
  pub answer : (advance_bits_of job bits n).answer ≡ (advance_of job table n).answer
  pub lent : AlikeFirst (advance_bits_of job bits n).lent (advance_of job table n).lent

unfoldable pub CallsAlike : Type 0
CallsAlike =
    (job : List ℕ) (bits table : Lent) → BothLong bits table →
    StartAlike job bits table
    × (AlikeFirst bits table →
    ((n : ℕ) → AdvanceAlike job bits table n)
    × ((form : List ℕ) → ask_bits_of job bits.table form ≡ ask_of job table.table form))

-- what is lent after advances by some numbers, one after the other
abbrev pub advanced_bits : List ℕ → List ℕ → Lent → Lent
advanced_bits job [] m = m
advanced_bits job (n ∷ ns) m = advanced_bits job ns (advance_bits_of job m n).lent

abbrev pub advanced : List ℕ → List ℕ → Lent → Lent
advanced job [] m = m
advanced job (n ∷ ns) m = advanced job ns (advance_of job m n).lent

-- The bit table: from a start, whatever was there, after any number of steps, in any number of calls, the two halves
-- say of each place what the byte table says; the first 32,768 reasons are equal, and so is what the next advance and
-- what ask answer
pub record RunAlike (job : List ℕ) (bits table : Lent) : Type 0 where
  pub alike : AlikeFirst bits table
  pub advance : (n : ℕ) → (advance_bits_of job bits n).answer ≡ (advance_of job table n).answer
  pub ask : (form : List ℕ) → ask_bits_of job bits.table form ≡ ask_of job table.table form

unfoldable pub RunsAlike : Type 0
RunsAlike =
    (job : List ℕ) (bits table : Lent) → BothLong bits table → (start_of job table).answer.number ≡ 0 → (ns : List ℕ) →
    RunAlike job (advanced_bits job ns (start_bits_of job bits).lent) (advanced job ns (start_of job table).lent)
