-- Cites the theorem. Assumes nothing.
use Rattle.forms.specs.Theorems.ListingTheorems.{MarksTakenBack}
use Rattle.forms.proofs.ListingTheorems.{marks_taken_back_lem}
use Rattle.forms.proofs.listing_theorems.marks_taken_back.Statement.{statement}
use Rattle.forms.proofs.listing_theorems.marks_taken_back.Tie as tie

pub marks_taken_back_spec : {M : Type 1} → statement M
unfolding MarksTakenBack
marks_taken_back_spec = tie.close (tie.spec (λ c ρs reasons t ps. marks_taken_back_lem))
