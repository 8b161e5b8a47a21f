use Rattle.grammar.proofs.Basics.{arith, get_or}
use lib.Seq.{take_all}
use Rattle.job.proofs.KeyRules.{read_rule, rules_more}
use Rattle.usefulness.specs.Inside.Passes.{in_place}
use Rattle.usefulness.proofs.InPlace.{in_place_more}
use Rattle.symbol_flags.proofs.passes.pass.Goals as goal

pub loop-key-init : goal.loop-key-init
unfolding in_place
loop-key-init c s held = held

pub loop-key-preserved : goal.loop-key-preserved
loop-key-preserved c s held =
    let keys = c.args.keys.now in
    let k = c.loop-key.key-index in
    let read = read_rule (get_or keys k 0) c.unpack.ensures.rule in
    rw (rules_more keys k c.loop-key-test.true, in_place_more, ← read)
    (c.add-set.ensures.flags _ (c.loop-key.invariant s held))

pub returns : goal.returns
returns c =
    record {
      flags = rw (take_all c.loop-key.key-index c.args.keys.now (omega arith)) at c.loop-key.invariant;
    }
