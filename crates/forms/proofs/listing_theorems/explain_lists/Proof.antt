-- Cites the theorem. Assumes nothing.
use Rattle.forms.specs.Theorems.ExplainTheorems.{ExplainLists}
use Rattle.forms.proofs.ExplainListing.{explain_lists_lem}
use Rattle.forms.proofs.listing_theorems.explain_lists.Statement.{statement}
use Rattle.forms.proofs.listing_theorems.explain_lists.Tie as tie

pub explain_lists_spec : {M : Type 1} → statement M
unfolding ExplainLists
explain_lists_spec = tie.close (tie.spec
    (λ c. λ job m form out unrefused accepts. explain_lists_lem job m form unrefused accepts out))
