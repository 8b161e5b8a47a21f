-- Cites the law: an explain leaves the reasons of its run and what the run's table says. Assumes nothing.
use Rattle.forms.specs.Theorems.ExplainTheorems.{ExplainAbsentHaveNone}
use Rattle.forms.proofs.ExplainListing.{explain_absent_have_none_lem}
use Rattle.forms.proofs.listing_theorems.explain_absent_have_none.Statement.{statement}
use Rattle.forms.proofs.listing_theorems.explain_absent_have_none.Tie as tie

pub explain_absent_have_none_spec : {M : Type 1} → statement M
unfolding ExplainAbsentHaveNone
explain_absent_have_none_spec =
    tie.close (tie.spec (λ c. λ job m form out unrefused. explain_absent_have_none_lem job m form unrefused out))
