use Rattle.grammar.proofs.Basics.{arith}
use Rattle.machine.proofs.Users.Appending.{room_wider}
use Rattle.machine.proofs.Users.Mentioning.{rules_long, listed_none, listed_next}
use Rattle.transitions.proofs.users.RuleIndex.list_rules.Goals as goal

pub loop-k-init : goal.loop-k-init
loop-k-init c = (search, listed_none c.requires.room)

pub add-requires : goal.add-requires
add-requires c =
    record {
      fits =
          let long = rules_long c.args.self.now.keys.now c.loop-k.k (omega arith) in
          (c.requires.rules.fit _ c.loop-k-test.true, room_wider (omega (arith, long)) c.loop-k.invariant.1.room);
    }

pub loop-k-preserved : goal.loop-k-preserved
loop-k-preserved c = (
  cc,
  listed_next _ _ (omega arith) c.add.ensures.long.0 c.add.ensures.long.1 c.loop-k.invariant.1
      c.add.ensures.appended,
)
