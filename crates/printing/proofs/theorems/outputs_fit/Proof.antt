-- `theorems::outputs_fit`: each line has a longest. Assumes nothing.
use Rattle.printing.proofs.Lengths.{outputs_fit_lem}
use Rattle.printing.proofs.theorems.outputs_fit.Statement.{statement}
use Rattle.printing.proofs.theorems.outputs_fit.Tie as tie

pub outputs_fit_spec : {M : Type 1} → statement M
outputs_fit_spec = tie.close (tie.spec (λ c. outputs_fit_lem))
