use Rattle.grammar.proofs.Basics.{sym, arith, rules}
use Rattle.job.proofs.Records.{records_counted}
use Rattle.machine.proofs.Starts.Giving.{giving_goes_on, giving_ends}
use Rattle.bit_machine.proofs.ByteTables.{bytes_as_long}
use Rattle.bit_machine.proofs.Keeping.{kept_then}
use Rattle.starting.proofs.begin.give_all.Goals as goal

pub give-requires-clause-fits : goal.give-requires-clause-fits
give-requires-clause-fits c =
    let counted = records_counted c.args.job.now in
    (rw c.record_at.ensures.record (c.requires.fit.0 c.loop-i.i (omega (arith, counted))), c.loop-i.invariant.2)

pub loop-i-preserved : goal.loop-i-preserved
loop-i-preserved c =
    let (walked, kept, none) = c.loop-i.invariant in
    let w = c.give.ensures in (
      giving_goes_on _ _ _ _ _ (sym (records_counted c.args.job.now)) walked _ _ (omega arith) _
          c.record_at.ensures.record w.given (bytes_as_long _ _) (search rules),
      kept_then _ _ _ kept w.kept.0,
      w.kept.1,
    )

pub returns-clause-given : goal.returns-clause-given
returns-clause-given c =
    giving_ends _ _ _ _ _ (sym (records_counted c.args.job.now)) c.loop-i.invariant.0 (omega arith)
