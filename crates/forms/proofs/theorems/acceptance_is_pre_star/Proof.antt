-- `theorems::acceptance_is_pre_star` meets its contract: done paths are paths of the
-- closure, and these are derivations. Assumes nothing.
use Rattle.forms.specs.Theorems.AcceptanceTheorems.{AcceptanceIsPreStar}
use Rattle.forms.proofs.Membership.{accepted_is_derived}
use Rattle.forms.proofs.theorems.acceptance_is_pre_star.Statement.{statement}
use Rattle.forms.proofs.theorems.acceptance_is_pre_star.Tie as tie

pub acceptance_is_pre_star_spec : {M : Type 1} → statement M
unfolding AcceptanceIsPreStar
acceptance_is_pre_star_spec = tie.close (tie.spec
    (λ c. λ J done w few below start fit smallest. accepted_is_derived J done few below start smallest w fit))
