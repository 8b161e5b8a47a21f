-- The machine on a bit table. It is the machine of the byte table: what the two halves say is read as bytes, and what
-- start or steps make of them is written in the halves again. Assumes nothing.
use Rattle.std.specs.Prelude.{ℕ, Bool, false, List}
use Rattle.grammar.specs.Rule.{Rule}
use Rattle.job.specs.Job.{Job}
use Rattle.machine.specs.Table.{Lent, lent_of, statuses}
use Rattle.machine.specs.Start.{started}
use Rattle.machine.specs.Advance.{steps}
use Rattle.bit_machine.specs.BitTable.{has_both, write_bits, saying, table_of_bits}

-- a bit table and reasons, with the byte table that says the same
abbrev pub as_bytes : Lent → Lent
as_bytes m = lent_of (table_of_bits m.table) m.reasons

-- what a byte table says, written in bits; some places have both
abbrev pub in_bits : (ℕ → Bool) → List ℕ → Lent → Lent
in_bits both bits m = lent_of (write_bits (saying both (statuses m.table)) bits) m.reasons

-- The bit table: start writes all of both halves
unfoldable pub started_bits : Job → Lent → Lent
started_bits J m = in_bits (λ p. false) m.table (started J (as_bytes m))

-- The bit table: n steps; a place that has both bits keeps both
unfoldable pub steps_bits : List Rule → ℕ → Lent → Lent
steps_bits ρs n m = in_bits (has_both m.table) m.table (steps ρs n (as_bytes m))
