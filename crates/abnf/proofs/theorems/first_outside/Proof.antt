-- `abnf::theorems::first_outside` meets its contract: the pieces before the offset can be ended as a text of the part.
-- Assumes nothing.
use Rattle.abnf.proofs.FirstOutside.{first_outside_lem}
use Rattle.abnf.proofs.theorems.first_outside.Statement.{statement}
use Rattle.abnf.proofs.theorems.first_outside.Tie as tie

pub first_outside_spec : {M : Type 1} → statement M
first_outside_spec = tie.close (tie.spec (λ c. first_outside_lem))
