-- `theorems::route_is_first` meets its contract: at each symbol the route takes the lowest state
-- that can finish. Assumes nothing.
use Rattle.forms.specs.Theorems.AcceptanceTheorems.{RouteIsFirst}
use Rattle.forms.proofs.FirstRoute.{route_first}
use Rattle.forms.proofs.theorems.route_is_first.Statement.{statement}
use Rattle.forms.proofs.theorems.route_is_first.Tie as tie

pub route_is_first_spec : {M : Type 1} → statement M
unfolding RouteIsFirst
route_is_first_spec = tie.close (tie.spec (λ c. route_first))
