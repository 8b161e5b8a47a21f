-- Cites the theorem. Assumes nothing.
use Rattle.forms.specs.Theorems.ListingTheorems.{ListingIsRight}
use Rattle.forms.proofs.ListingTheorems.{listing_is_right_lem}
use Rattle.forms.proofs.listing_theorems.listing_is_right.Statement.{statement}
use Rattle.forms.proofs.listing_theorems.listing_is_right.Tie as tie

pub listing_is_right_spec : {M : Type 1} → statement M
unfolding ListingIsRight
listing_is_right_spec = tie.close (tie.spec (λ c ρs reasons t ps. listing_is_right_lem))
