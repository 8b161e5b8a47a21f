use Rattle.grammar.proofs.Basics.{arith}
use Rattle.bit_machine.proofs.Turning.{run_begins, run_goes}
use Rattle.columns.proofs.turn.exchange_run.Goals as goal

pub loop-n-init : goal.loop-n-init
loop-n-init c = run_begins _ _ _ _

pub loop-n-preserved : goal.loop-n-preserved
loop-n-preserved c =
    run_goes (omega arith) c.loop-n.invariant c.exchange.ensures.exchanged
