use Rattle.reader.proofs.ReadyText.{ready_starts, no_place}
use Rattle.reader.proofs.CountingText.{counting_starts, counting_ends, too_long, part_fits}
use Rattle.reader.proofs.CountingText.{part_short, too_many, counting_on}
use Rattle.reader.proofs.walk.count_bodies.Goals as goal

pub line_place-place-requires : goal.line_place-place-requires
line_place-place-requires c = record { fine = ready_starts c.requires.ready }

pub loop-place-init : goal.loop-place-init
loop-place-init c =
    rw c.of_names-variables.ensures.variables
    (counting_starts c.requires.ready c.requires.few c.line_place-place.ensures.place c.count.ensures.count
    c.requires.none)

pub read_body-rest-requires : goal.read_body-rest-requires
read_body-rest-requires c = record { element = (rw c.in-Some.is at c.loop-place.invariant).begins }

pub returns-then-items-eq-ITEMS : goal.returns-then-items-eq-ITEMS
returns-then-items-eq-ITEMS c =
    let it = rw c.in-Some.is at c.loop-place.invariant in
    record {
      needs =
          too_long c.requires.ready c.requires.few it c.read_body-rest.ensures.read
          (rw c.items-items.ensures.items at c.if-items-eq-ITEMS.true);
    }

pub count_items-requires : goal.count_items-requires
count_items-requires c =
    let it = rw c.in-Some.is at c.loop-place.invariant in
    let other = rw c.items-items.ensures.items at c.if-items-eq-ITEMS.false in
    record {
      fit =
          rw c.items-items.ensures.items
          (part_fits c.requires.ready c.requires.few it c.read_body-rest.ensures.read other);
      short =
          rw c.items-items.ensures.items
          (part_short c.requires.ready c.requires.few it c.read_body-rest.ensures.read other);
      few = it.counted.few;
    }

pub returns-then-variables-gt32 : goal.returns-then-variables-gt32
returns-then-variables-gt32 c =
    let it = rw c.in-Some.is at c.loop-place.invariant in
    let items = c.items-items.ensures.items in
    record {
      needs =
          too_many c.requires.ready c.requires.few it c.read_body-rest.ensures.read
          (rw items at c.if-items-eq-ITEMS.false) (rw items at c.count_items.ensures.counted)
          c.if-variables-gt32.true;
    }

pub loop-place-preserved : goal.loop-place-preserved
loop-place-preserved c =
    let it = rw c.in-Some.is at c.loop-place.invariant in
    let items = c.items-items.ensures.items in
    counting_on c.requires.ready c.requires.few it c.read_body-rest.ensures.read
    (rw items at c.if-items-eq-ITEMS.false) (rw items at c.count_items.ensures.counted)
    c.if-variables-gt32.false c.next_place-place.ensures.place

pub returns : goal.returns
returns c =
    let it = rw (no_place c.loop-place.place c.in_default.not-Some) at c.loop-place.invariant in
    record { needs = counting_ends c.requires.ready c.requires.few it }
