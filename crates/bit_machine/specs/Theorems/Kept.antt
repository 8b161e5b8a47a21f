-- What start and steps on a bit table leave as it is. Assumes nothing.
use Rattle.std.specs.Prelude.{◌≡◌, true, List, ℕ, ◌<◌, get_or}
use Rattle.grammar.specs.Rule.{Rule}
use Rattle.job.specs.Job.{Job}
use Rattle.machine.specs.Table.{Lent, KeepsRest}
use Rattle.machine.specs.Step.{is_finished}
use Rattle.bit_machine.specs.BitTable.{bits_size, bit_statuses}
use Rattle.bit_machine.specs.Machine.{started_bits, steps_bits}

-- the numbers of the two halves are bytes
abbrev pub Bytes : List ℕ → Type 0
Bytes bits = (i : ℕ) → i < bits_size → get_or bits i 0 < 256

-- Table and machine, The bit table: without a pending place nothing happens, and a place with both bits is none. So
-- steps on a finished table change no bit and no reason, and neither does an advance by 0 on any table.
pub record StandStill (ρs : List Rule) (m : Lent) : Type 0 where
  pub no_step : steps_bits ρs 0 m ≡ m
  pub finished : is_finished (bit_statuses m.table) ≡ true → (n : ℕ) → steps_bits ρs n m ≡ m

unfoldable pub FinishedBitsStay : Type 0
FinishedBitsStay = (ρs : List Rule) (m : Lent) → Bytes m.table → StandStill ρs m

-- The bit table: neither start nor a step writes past the first 16,384 bytes and 32,768 numbers
unfoldable pub RestOfBitsIsKept : Type 0
RestOfBitsIsKept =
    (m : Lent) →
    ((J : Job) → KeepsRest bits_size m (started_bits J m))
    × ((ρs : List Rule) (n : ℕ) → KeepsRest bits_size m (steps_bits ρs n m))
