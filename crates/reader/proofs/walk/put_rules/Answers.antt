use Rattle.grammar.proofs.Basics.{arith}
use Rattle.reader.proofs.ReadyText.{ready_starts, no_place}
use Rattle.reader.proofs.PuttingText.{putting_starts, putting_ends, head_fits, few_taken, items_fit}
use Rattle.reader.proofs.PuttingText.{part_short, putting_on}
use Rattle.reader.proofs.walk.put_rules.Goals as goal

pub line_place-place-requires : goal.line_place-place-requires
line_place-place-requires c = record { fine = ready_starts c.requires.ready }

pub loop-place-init : goal.loop-place-init
loop-place-init c =
    rw (c.new-rules.ensures.none, c.of_names-variables.ensures.variables)
    (putting_starts c.requires.ready c.line_place-place.ensures.place c.count.ensures.count)

pub read_body-rest-requires : goal.read_body-rest-requires
read_body-rest-requires c = record { element = (rw c.in-Some.is at c.loop-place.invariant).begins }

pub overflow_cast-head : goal.overflow_cast-head
overflow_cast-head c =
    let pre = c.requires in
    let it = rw c.in-Some.is at c.loop-place.invariant in
    let head = head_fits pre.ready pre.fits pre.numbered it c.read_body-rest.ensures.read in
    omega (arith, head)

pub put_items-requires : goal.put_items-requires
put_items-requires c =
    let pre = c.requires in
    let it = rw c.in-Some.is at c.loop-place.invariant in
    let read = c.read_body-rest.ensures.read in
    record {
      fit = rw c.items.ensures.items (items_fit pre.ready pre.fits pre.numbered it read);
      short = rw c.items.ensures.items (part_short pre.ready pre.fits pre.numbered it read);
      few = few_taken pre.ready pre.fits pre.numbered it read;
    }

pub loop-place-preserved : goal.loop-place-preserved
loop-place-preserved c =
    let it = rw c.in-Some.is at c.loop-place.invariant in
    putting_on c.requires.ready c.requires.fits c.requires.numbered it c.read_body-rest.ensures.read
    (rw c.items.ensures.items at c.put_items.ensures.put) c.next_place-place.ensures.place

pub returns : goal.returns
returns c =
    let it = rw (no_place c.loop-place.place c.in_default.not-Some) at c.loop-place.invariant in
    record {
      rules = putting_ends c.requires.ready c.requires.fits c.requires.numbered it c.put_letters.ensures.put;
    }
