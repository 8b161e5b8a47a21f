-- The halves of a bit table by number. Assumes nothing.
use Rattle.std.specs.Prelude.{ℕ}
use Rattle.bit_machine.specs.BitTable.{pending_half, done_half}
use Rattle.bits.specs.declared.Half.{Half}
use Rattle.bits.specs.declared.Half.TheVariants.{Pending, Done}

-- which half of the bytes it is
abbrev pub number_of : Half → ℕ
number_of Pending = pending_half
number_of Done = done_half
