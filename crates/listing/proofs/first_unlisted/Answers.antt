-- Each return is a clause of the definition, by the tests that led there. Assumes nothing.
use Rattle.grammar.proofs.Basics.{eq-eqb, ne_eqb}
use Rattle.forms.specs.Inside.ListingParts.{first_unlisted_lem}
use Rattle.listing.proofs.first_unlisted.Goals as goal

pub returns-then-table-a-ne3 : goal.returns-then-table-a-ne3
unfolding first_unlisted_lem
returns-then-table-a-ne3 c = record { first = (rw (ne_eqb _ 3 c.if-table-a-ne3.true), c.requires.within.0) }

pub returns-then-table-b-ne3 : goal.returns-then-table-b-ne3
unfolding first_unlisted_lem
returns-then-table-b-ne3 c =
    record {
      first = (rw (eq-eqb _ 3 c.if-table-a-ne3.false, ne_eqb _ 3 c.if-table-b-ne3.true), c.requires.within.1);
    }

pub returns-else-table-b-ne3 : goal.returns-else-table-b-ne3
unfolding first_unlisted_lem
returns-else-table-b-ne3 c =
    record { first = rw (eq-eqb _ 3 c.if-table-a-ne3.false, eq-eqb _ 3 c.if-table-b-ne3.false) }
