-- `places::line_place`: the line's name is found, or there is no line more. Assumes nothing.
use Rattle.bodies.proofs.BodyPlaces.{first_body, no_line}
use Rattle.bodies.proofs.places.line_place.Goals as goal

pub returns-then-at-text : goal.returns-then-at-text
returns-then-at-text c =
    let t = c.text-text.ensures.text in
    record {
      place =
          first_body _ _ _ c.args.at _ _ (rw (c.edition.ensures.edition, t) at c.head_at-head.ensures.read)
          (rw t at c.number-number.ensures.number);
    }

pub returns : goal.returns
returns c = record { place = no_line _ _ _ _ (rw c.text-text.ensures.text at c.if-at-text.false) }
