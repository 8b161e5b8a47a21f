use Rattle.grammar.proofs.Basics.{◌∙◌, sym, arith, eq-eqb, ne_eqb, leb-true, leb-false}
use Rattle.forms.proofs.WalkMoves.{arrives, may_move, moves}
use Rattle.forms.proofs.WalkStarts.{already_listed, terminal_may, terminal_shown, sets_out}
use Rattle.listing.proofs.Reasons.visit.Goals as goal

pub returns-then-table-p-eq3 : goal.returns-then-table-p-eq3
returns-then-table-p-eq3 c = let v = c.requires.able in
    record {
      pass = already_listed v (eq-eqb _ 3 c.if-table-p-eq3.true);
      path = v.path_full;
    }

pub list_one-requires : goal.list_one-requires
list_one-requires c =
    let m =
    terminal_may c.requires.able (ne_eqb _ 3 c.if-table-p-eq3.false)
    (leb-true 32 _ (sym c.terminal_at.ensures.terminal ∙ c.if-terminal_at.true))
    in
    record { fits = m.0; room = m.1 }

pub returns-then-terminal_at : goal.returns-then-terminal_at
returns-then-terminal_at c = let v = c.requires.able in
    record {
      pass = c.list_one.ensures.listed
          ∙ terminal_shown v (ne_eqb _ 3 c.if-table-p-eq3.false)
          (leb-true 32 _ (sym c.terminal_at.ensures.terminal ∙ c.if-terminal_at.true));
      path = v.path_full;
    }

pub loop-w-init : goal.loop-w-init
loop-w-init c =
    sets_out c.requires.able (ne_eqb _ 3 c.if-table-p-eq3.false)
    (leb-false 32 _ (sym c.terminal_at.ensures.terminal ∙ c.if-terminal_at.false))

pub walk_step-w-requires : goal.walk_step-w-requires
walk_step-w-requires c =
    record {
      able =
          may_move c.loop-w.invariant c.loop-w-test.true;
    }

pub loop-w-smaller : goal.loop-w-smaller
loop-w-smaller c =
    (moves c.loop-w.invariant c.loop-w-test.true c.walk_step-w.ensures.moved).1

pub loop-w-preserved : goal.loop-w-preserved
loop-w-preserved c =
    (moves c.loop-w.invariant c.loop-w-test.true c.walk_step-w.ensures.moved).0

pub returns : goal.returns
returns c = let u = c.loop-w.invariant in record {
  pass = arrives u (omega arith);
  path = u.path_full;
}
