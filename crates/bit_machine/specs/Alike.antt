-- A bit table and a byte table that say the same. Assumes nothing.
use Rattle.std.specs.Prelude.{◌≡◌, ℕ, ◌<◌}
use Rattle.machine.specs.Table.{Lent, table_size, statuses}
use Rattle.bit_machine.specs.BitTable.{bit_statuses}

-- what two tables of either kind have in common: each place says the same, and the reasons are equal
pub record Alike (bits table : Lent) : Type 0 where
  pub says : (p : ℕ) → p < table_size → bit_statuses bits.table p ≡ statuses table.table p
  pub reasons : bits.reasons ≡ table.reasons
