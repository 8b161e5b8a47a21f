-- The reason says which premises there are; the table is read at those alone, and they are done places. Assumes
-- nothing.
use Rattle.grammar.proofs.Basics.{⊎_elim}
use Rattle.forms.proofs.ReasonLaws.{next_of_unit, next_of_pair, none_of_given, none_of_empty, unit_within, pair_within}
use Rattle.listing.proofs.Reasons.next_premise.Goals as goal

pub first_unlisted-requires-clause-within : goal.first_unlisted-requires-clause-within
first_unlisted-requires-clause-within c =
    let p = c.requires.able in
    let w = unit_within p.0 p.1 c.reason_of.ensures.bytes c.in-Unit.is in
    (w, w)

pub first_unlisted-requires-in-Pair-clause-within : goal.first_unlisted-requires-in-Pair-clause-within
first_unlisted-requires-in-Pair-clause-within c =
    let p = c.requires.able in pair_within p.0 p.1 c.reason_of.ensures.bytes c.in-Pair.is

pub returns-in-Given : goal.returns-in-Given
returns-in-Given c =
    let p = c.requires.able in
    record {
      next =
          ⊎_elim (none_of_given p.0 p.1 c.reason_of.ensures.bytes) (none_of_empty p.0 p.1 c.reason_of.ensures.bytes)
          c.in-Given.is;
    }

pub returns-in-Unit : goal.returns-in-Unit
returns-in-Unit c =
    let p = c.requires.able in
    record { next = rw (next_of_unit p.0 p.1 c.reason_of.ensures.bytes c.in-Unit.is) at c.first_unlisted.ensures.first }

pub returns-in-Pair : goal.returns-in-Pair
returns-in-Pair c =
    let p = c.requires.able in
    record {
      next =
          rw (next_of_pair p.0 p.1 c.reason_of.ensures.bytes c.in-Pair.is) at c.first_unlisted-in-Pair.ensures.first;
    }
