-- `theorems::copy_fits`: the rules of a copy are no more than those of the job. Assumes nothing.
use Rattle.copies.proofs.Copied.{copy_fits_lem}
use Rattle.copies.proofs.theorems.copy_fits.Statement.{statement}
use Rattle.copies.proofs.theorems.copy_fits.Tie as tie

pub copy_fits_spec : {M : Type 1} → statement M
copy_fits_spec = tie.close (tie.spec (λ c. copy_fits_lem))
