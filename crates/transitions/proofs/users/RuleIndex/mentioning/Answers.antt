use Rattle.grammar.proofs.Basics.{arith, length-map}
use Rattle.job.specs.Inside.Keys.{rule_of_key}
use Rattle.transitions.proofs.users.RuleIndex.mentioning.Goals as goal

pub slice_bounds-result-end : goal.slice_bounds-result-end
slice_bounds-result-end c =
    omega (arith, c.requires.indexed.room.at_most _ c.requires.symbol, length-map c.args.self.now.keys.now rule_of_key, c.requires.rules.few)
