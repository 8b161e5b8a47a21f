-- `Finish::route` meets its contract. The loop's invariant: the places filled and the route from the state reached on
-- are the whole route. Assumes nothing.
use Rattle.machine.specs.Table.{done_in}
use Rattle.bit_machine.specs.BitTable.{bit_statuses}
use Rattle.forms.specs.Inside.AcceptanceParts.{final_of}
use Rattle.forms.proofs.Routes.{RouteFilled}
use Rattle.asking.proofs.acceptance.Finish.route.Given as goal

abbrev pub invariant-loop-i : goal.invariant-loop-i
invariant-loop-i l =
    RouteFilled (final_of l.self.form.now l.self.words) (done_in (bit_statuses l.self.bits.now)) l.self.form.now
    l.places l.self.initial l.at l.i
