-- The invariant: the marks before i are gone, and the rest is as it was. Assumes nothing.
use Rattle.grammar.proofs.Basics.{◌≡◌}
use Rattle.machine.specs.Table.{each}
use Rattle.forms.proofs.Unmarking.{unmarked_to}
use Rattle.listing.proofs.unmark.Given as goal

abbrev pub invariant-loop-i : goal.invariant-loop-i
invariant-loop-i l = l.table ≡ each (unmarked_to l.i) 0 l.initial.table
