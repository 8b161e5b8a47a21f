-- `passes::add` meets its contract: the rule is tried on the set, and adds where it is ready. Assumes nothing.
use Rattle.grammar.proofs.Basics.{or-false}
use Rattle.job.specs.Inside.Keys.{rule_from}
use Rattle.usefulness.specs.Sets.{any_rule, round}
use Rattle.usefulness.proofs.Bodies.{from_below}
use Rattle.usefulness.proofs.Tests.{ready_same}
use Rattle.usefulness.proofs.Raising.{flags_alike}
use Rattle.symbol_flags.proofs.passes.add.Goals as goal

pub returns-then-is_ready : goal.returns-then-is_ready
unfolding round any_rule
returns-then-is_ready c =
    record {
      flags = λ s held.
          let d = c.args.direction in
          let ρ = rule_from c.args.rule in
          let same = ready_same held.at d ρ (from_below c.args.rule c.requires.rule) in
          flags_alike (c.with_added.ensures.flags s held)
          (λ X _. rw (← same, ← c.is_ready.ensures.says, c.if-is_ready.true, or-false));
    }

pub returns-else-is_ready : goal.returns-else-is_ready
unfolding round any_rule
returns-else-is_ready c =
    record {
      flags = λ s held.
          let d = c.args.direction in
          let ρ = rule_from c.args.rule in
          let same = ready_same held.at d ρ (from_below c.args.rule c.requires.rule) in
          flags_alike held (λ X _. rw (← same, ← c.is_ready.ensures.says, c.if-is_ready.false, or-false));
    }
