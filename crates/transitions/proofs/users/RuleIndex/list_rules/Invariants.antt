-- `RuleIndex::list_rules` meets its contract. The loop's invariant: the rules passed so far are indexed. Assumes
-- nothing.
use Rattle.grammar.proofs.Basics.{◌≡◌, take}
use Rattle.job.specs.Inside.Keys.{rules_of_keys}
use Rattle.machine.specs.Inside.Users.{UsersListed}
use Rattle.transitions.proofs.users.RuleIndex.list_rules.Given as goal

abbrev pub invariant-loop-k : goal.invariant-loop-k
invariant-loop-k l =
    (l.self.keys.now ≡ l.keys) × UsersListed (rules_of_keys (take l.k l.keys)) l.self.users l.self.used
