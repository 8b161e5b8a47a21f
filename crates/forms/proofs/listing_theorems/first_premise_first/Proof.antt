-- Cites the law. Assumes nothing.
use Rattle.forms.proofs.ListingOrder.{first_premise_first_lem}
use Rattle.forms.proofs.listing_theorems.first_premise_first.Statement.{statement}
use Rattle.forms.proofs.listing_theorems.first_premise_first.Tie as tie

pub first_premise_first_spec : {M : Type 1} → statement M
first_premise_first_spec = tie.close (tie.spec (λ c. first_premise_first_lem))
