use Rattle.grammar.proofs.Basics.{arith, rules}
use Rattle.machine.proofs.Starts.Looping.{no_loop, looped_begins, looped_goes_on, looped_ends}
use Rattle.bit_machine.proofs.ByteTables.{bytes_as_long}
use Rattle.bit_machine.proofs.Keeping.{kept_same, kept_then}
use Rattle.starting.proofs.begin.loop_all.Goals as goal

pub returns-in_default : goal.returns-in_default
returns-in_default c = search (no_loop, kept_same, rules)

pub loop-q-init : goal.loop-q-init
loop-q-init c = (looped_begins _ _ _ _, kept_same _)

pub loop-q-preserved : goal.loop-q-preserved
loop-q-preserved c =
    let w = c.offer.ensures in (
      looped_goes_on _ _ _ _ _ _ _ _ (omega arith) w.written (bytes_as_long _ _) (search rules) c.loop-q.invariant.0,
      kept_then _ _ _ c.loop-q.invariant.1 w.kept,
    )

pub returns-clause-looped : goal.returns-clause-looped
returns-clause-looped c =
    looped_ends _ _ _ _ _ c.unpack-rule.ensures.rule _ _ c.in-Empty.is (omega arith)
    (rw c.from.ensures at c.loop-q.invariant.0)
