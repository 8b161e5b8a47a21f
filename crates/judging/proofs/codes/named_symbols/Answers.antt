use Rattle.grammar.proofs.Basics.{or-false, or_assoc, get_or}
use Rattle.job.proofs.KeyRules.{from_head, read_rule, rules_more}
use Rattle.usefulness.specs.Sets.{any_in, any_rule}
use Rattle.usefulness.proofs.Raising.{flags_alike}
use Rattle.usefulness.proofs.Tests.{any_rule_more}
use Rattle.judging.proofs.codes.named_symbols.Goals as goal

pub loop-key-init : goal.loop-key-init
unfolding any_rule
loop-key-init c = flags_alike c.single-named.ensures.flags (λ X _. rw or-false)

pub loop-key-preserved : goal.loop-key-preserved
unfolding any_in
loop-key-preserved c =
    let keys = c.args.keys.now in
    let k = c.loop-key.key-index in
    let more = rules_more keys k c.loop-key-test.true in
    let read = read_rule (get_or keys k 0) c.unpack-rule.ensures.rule in
    flags_alike (c.with_body-named.ensures.flags _ (c.with.ensures.flags _ c.loop-key.invariant))
    (λ X _. rw (more, any_rule_more, ← read) (simp (from_head, or_assoc)))
