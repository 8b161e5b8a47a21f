-- `abnf::theorems::of_the_part` meets its contract: pieces that may stand are the families' pieces, and are those of
-- their bytes. Assumes nothing.
use Rattle.abnf.proofs.OfThePart.{of_the_part_lem}
use Rattle.abnf.proofs.theorems.of_the_part.Statement.{statement}
use Rattle.abnf.proofs.theorems.of_the_part.Tie as tie

pub of_the_part_spec : {M : Type 1} → statement M
of_the_part_spec = tie.close (tie.spec (λ c. of_the_part_lem))
