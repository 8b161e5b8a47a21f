use Rattle.grammar.proofs.Basics.{arith, rules}
use Rattle.machine.proofs.Starts.Looping.{rules_go_on, rules_end}
use Rattle.bit_machine.proofs.ByteTables.{bytes_as_long}
use Rattle.bit_machine.proofs.Keeping.{kept_then}
use Rattle.starting.proofs.begin.loop_rules.Goals as goal

pub loop-k-preserved : goal.loop-k-preserved
loop-k-preserved c =
    let w = c.loop_all.ensures in (
      rules_go_on _ c.args.keys.now _ _ _ c.loop-k.invariant.0 _ _ c.loop-k-test.true w.looped (bytes_as_long _ _)
          (search rules),
      kept_then _ _ _ c.loop-k.invariant.1 w.kept,
    )

pub returns-clause-looped : goal.returns-clause-looped
returns-clause-looped c = rules_end _ _ _ _ _ c.loop-k.invariant.0 (omega arith)
