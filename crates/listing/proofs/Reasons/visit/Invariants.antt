-- The invariant of the loop: the walk is underway to the whole visit; what is left of the table and the path falls.
-- Assumes nothing.
use Rattle.forms.specs.Inside.ListingParts.{pass_of, walking_of}
use Rattle.job.specs.Inside.Keys.{rules_of_keys}
use Rattle.forms.proofs.WalkMoves.{Underway, left_of}
use Rattle.listing.proofs.Reasons.visit.Given as goal

abbrev pub invariant-loop-w : goal.invariant-loop-w
invariant-loop-w l =
    Underway l.write (rules_of_keys l.self.keys.now) l.self.entries.now l.p (pass_of l.initial.table l.count l.initial.listing)
    (walking_of l.table l.w.count l.listing l.path l.w.depth)

abbrev pub decreases-loop-w : goal.decreases-loop-w
decreases-loop-w l = left_of l.table l.w.depth
