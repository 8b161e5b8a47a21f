-- The invariant: the pass is on the way to the whole listing, with the places of the route from the i-th on left to
-- visit. Assumes nothing.
use Rattle.grammar.proofs.Basics.{◌≡◌, length, take}
use Rattle.machine.specs.Table.{reasons_size}
use Rattle.forms.specs.Inside.ListingParts.{pass_of, CanListAll}
use Rattle.job.specs.Inside.Keys.{rules_of_keys}
use Rattle.forms.proofs.ListAll.{Passing}
use Rattle.listing.proofs.list_all.Given as goal

abbrev pub invariant-loop-i : goal.invariant-loop-i
invariant-loop-i l =
    (length l.path ≡ reasons_size)
    × (can : CanListAll l.write (rules_of_keys l.keys) l.reasons l.initial.table (take l.n l.route) l.initial.listing)
    × Passing can l.i (pass_of l.table l.count l.listing)
