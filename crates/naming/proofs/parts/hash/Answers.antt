use Rattle.grammar.proofs.Basics.{◌∙◌, ◌≤◌, length, arith}
use Rattle.naming.proofs.Comparing.{hash_on, hash_whole}
use Rattle.naming.proofs.parts.hash.Goals as goal

pub loop-b-preserved : goal.loop-b-preserved
loop-b-preserved c = (
  omega arith,
  hash_on _ _ _ _ c.loop-b.invariant.1 c.loop-b-test.true (c.from.ensures ∙ c.to_lower.ensures.lowered),
)

pub returns-clause-hash : goal.returns-clause-hash
returns-clause-hash c =
    let whole : length c.args.name.now ≤ c.loop-b.b-index = omega arith in
    hash_whole _ _ _ c.loop-b.invariant.1 whole
