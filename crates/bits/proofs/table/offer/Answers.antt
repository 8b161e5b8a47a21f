-- `offer` leaves a place that is not absent alone, and else sets its bit and writes its reason. Assumes nothing.
use Rattle.grammar.proofs.Basics.{◌≡◌, false, ◌∙◌, sym, arith, get_or}
use Rattle.machine.specs.Table.{is_absent}
use Rattle.machine.specs.Inside.Offers.{add_offer}
use Rattle.bit_machine.specs.BitTable.{table_of_bits}
use Rattle.bit_machine.proofs.Keeping.{kept_same}
use Rattle.bit_machine.proofs.Changing.{done_bit, not_absent_done, not_absent_pending, absent}
use Rattle.bits.proofs.table.offer.Goals as goal
use Rattle.bits.proofs.table.offer.Goals.{then-has_bit-via-then-has_bit, then-has_bit-via-else-has_bit+then-has_bit-2}

pub returns-then-has_bit : goal.returns-then-has_bit
unfolding add_offer
returns-then-has_bit c =
    let there : is_absent (get_or (table_of_bits c.args.bits.now) c.args.place 0) ≡ false =
    elim c.then-has_bit.branch [
      | then-has_bit-via-then-has_bit w ↦
          not_absent_done _ _ c.requires.variable.0 (sym c.has_bit.ensures.bit ∙ w.if-has_bit.true)
      | then-has_bit-via-else-has_bit+then-has_bit-2 w ↦
          not_absent_pending _ _ c.requires.variable.0
          (sym w.has_bit-else-has_bit.ensures.bit ∙ w.if-has_bit-2.true)
    ] in
    record { absent = sym there; written = rw there; kept = kept_same _ }

pub make_pending-requires : goal.make_pending-requires
make_pending-requires c = record {
  within = omega (arith, c.requires);
  notDone = done_bit _ _ c.requires.variable.0 ∙ sym c.has_bit.ensures.bit ∙ c.if-has_bit.false;
}

pub returns : goal.returns
unfolding add_offer
returns c = let e = absent _ _ c.requires.variable.0 (sym c.has_bit-else-has_bit.ensures.bit ∙ c.if-has_bit-2.false)
    (sym c.has_bit.ensures.bit ∙ c.if-has_bit.false) in
    record {
      absent = sym e;
      written = rw (e, c.make_pending.ensures.written, c.requires.beside);
      kept = c.make_pending.ensures.kept;
    }
