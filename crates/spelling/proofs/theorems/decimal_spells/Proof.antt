-- `theorems::decimal_spells`: one digit more spells ten times the number and the digit. Assumes nothing.
use Rattle.spelling.proofs.Decimal.{decimal_spells_lem}
use Rattle.spelling.proofs.theorems.decimal_spells.Statement.{statement}
use Rattle.spelling.proofs.theorems.decimal_spells.Tie as tie

pub decimal_spells_spec : {M : Type 1} → statement M
decimal_spells_spec = tie.close (tie.spec (λ c. decimal_spells_lem))
