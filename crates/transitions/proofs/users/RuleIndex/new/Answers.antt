use Rattle.grammar.proofs.Basics.{arith}
use Rattle.machine.proofs.Users.Appending.{room_empty}
use Rattle.transitions.proofs.users.RuleIndex.new.Goals as goal

pub list_rules-requires : goal.list_rules-requires
list_rules-requires c = record { rules = c.requires.rules; room = room_empty 16384 64 (omega arith) (omega arith) }
