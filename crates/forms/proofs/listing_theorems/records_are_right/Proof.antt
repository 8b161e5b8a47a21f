-- Cites the theorem. Assumes nothing.
use Rattle.forms.specs.Theorems.ListingTheorems.{RecordsAreRight}
use Rattle.forms.proofs.ListingTheorems.{records_are_right_lem}
use Rattle.forms.proofs.listing_theorems.records_are_right.Statement.{statement}
use Rattle.forms.proofs.listing_theorems.records_are_right.Tie as tie

pub records_are_right_spec : {M : Type 1} → statement M
unfolding RecordsAreRight
records_are_right_spec = tie.close (tie.spec (λ c ρs given s reasons t ps. records_are_right_lem))
