-- Cites the theorem. Assumes nothing.
use Rattle.forms.proofs.ListingTheorems.{depth_bound_never_met_lem}
use Rattle.forms.proofs.listing_theorems.depth_bound_never_met.Statement.{statement}
use Rattle.forms.proofs.listing_theorems.depth_bound_never_met.Tie as tie

pub depth_bound_never_met_spec : {M : Type 1} → statement M
depth_bound_never_met_spec = tie.close (tie.spec (λ c. depth_bound_never_met_lem))
