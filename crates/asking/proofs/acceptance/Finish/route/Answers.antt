use Rattle.grammar.proofs.Basics.{◌≡◌, List, ℕ, ◌+◌, ◌*◌, ◌<◌, suc, arith, length, get_or, set, drop}
use lib.Bits.{bit_and}
use Rattle.machine.specs.Table.{is_done_lem, done_in}
use Rattle.bit_machine.specs.BitTable.{bit_of, bit_statuses, table_of_bits}
use Rattle.bit_machine.specs.Inside.Word.{First}
use Rattle.forms.specs.Acceptance.{next_state}
use Rattle.forms.specs.Inside.AcceptanceParts.{FormFits, FinishWords, final_of}
use Rattle.forms.proofs.StateWords.{next_found}
use Rattle.forms.proofs.Routes.{RouteFilled, next_fits, route_more, route_whole}
use Rattle.asking.proofs.acceptance.Finish.route.Goals as goal

-- the state that is found next is that of the definition
module _ (bits words : List ℕ) (row : ℕ) {form places : List ℕ} {q at i symbol r : ℕ} (fits : FormFits form)
    (right : FinishWords (final_of form words) bits form words)
    (so_far : RouteFilled (final_of form words) (done_in (bit_statuses bits)) form places q at i) (l : i < length form)
    (read : symbol ≡ get_or form i 0)
    (says : (j : ℕ) → j < 32 → bit_of row j ≡ is_done_lem (get_or (table_of_bits bits) ((at * 64 + symbol) * 32 + j) 0))
    (first : First (bit_and row (get_or words (i + 1) 0)) r) where
  next : r ≡ next_state (final_of form words) (done_in (bit_statuses bits)) (get_or form i 0) (drop (suc i) form) at
  next =
      next_found _ bits form words right i at row r l so_far.below (omega (arith, fits.symbols i l)) (rw read at says) first

  within : (at * 64 + symbol) * 32 + r < 65536
  within = omega (arith, so_far.below, read, fits.symbols i l, (next_fits so_far l next).0)

  more : RouteFilled (final_of form words) (done_in (bit_statuses bits)) form
      (set places i ((at * 64 + symbol) * 32 + r)) q r (i + 1)
  more = route_more so_far l next (omega (arith, read)) (omega (arith, so_far.room, fits.short))

pub overflow_cast-places : goal.overflow_cast-places
overflow_cast-places c =
    let f = c.args.self.now in
    omega (
      arith,
      within f.bits.now f.words c.done_row.result f.fits.1 f.right c.loop-i.invariant c.loop-i-test.true c.from.ensures
          c.done_row.ensures.done c.first_one-at.ensures.first,
    )

pub loop-i-preserved : goal.loop-i-preserved
loop-i-preserved c =
    let f = c.args.self.now in
    more f.bits.now f.words c.done_row.result f.fits.1 f.right c.loop-i.invariant c.loop-i-test.true c.from.ensures
    c.done_row.ensures.done c.first_one-at.ensures.first

pub returns : goal.returns
returns c = record { route = route_whole c.loop-i.invariant (omega arith) }
