-- `RuleIndex::add` meets its contract: each way out appends what the rule's body asks for. Assumes nothing.
use Rattle.grammar.proofs.Basics.{sym, arith, ne_eqb, ℕ, List, ◌<◌, get_or}
use Rattle.machine.specs.Inside.Users.{UsersRoom}
use Rattle.job.proofs.KeyRules.{read_body_fits}
use Rattle.machine.proofs.Users.Appending.{room_wider, room_after}
use Rattle.machine.proofs.Users.Mentioning.{none_appended, one_appended, twin_appended, two_appended}
use Rattle.transitions.proofs.users.RuleIndex.add.Goals as goal

-- there is room for one rank more
room_for : {symbol rank : ℕ} {users used : List ℕ} → symbol < 64 → rank < 256 → UsersRoom rank users used →
    (symbol < 64) × (get_or used symbol 0 < 256) × UsersRoom 256 users used
room_for l r room = (l, omega (arith, room.at_most _ l), room_wider (omega arith) room)

pub returns-in-Empty-clause-appended : goal.returns-in-Empty-clause-appended
returns-in-Empty-clause-appended c = none_appended _ _ c.unpack-rule.ensures.rule c.in-Empty.is

pub append-requires : goal.append-requires
append-requires c =
    record {
      room =
          let fits = read_body_fits _ c.unpack-rule.ensures.rule c.in-Unit.is c.requires.fits.0 in
          room_for fits (omega arith) c.requires.fits.1;
    }

pub append-requires-in-Pair : goal.append-requires-in-Pair
append-requires-in-Pair c =
    record {
      room =
          let fits = read_body_fits _ c.unpack-rule.ensures.rule c.in-Pair.is c.requires.fits.0 in
          room_for fits.0 (omega arith) c.requires.fits.1;
    }

pub append-requires-then-y-x : goal.append-requires-then-y-x
append-requires-then-y-x c =
    record {
      room =
          let fits = read_body_fits _ c.unpack-rule.ensures.rule c.in-Pair.is c.requires.fits.0 in
          let one = c.append-in-Pair in
          let count = rw (ne_eqb _ _ (λ e. c.if-y-x.true (sym e))) at (one.ensures.appended.counts _ fits.1) in (
            fits.1,
            omega (arith, count, c.requires.fits.1.at_most _ fits.1),
            room_wider (omega arith) (room_after one.ensures.appended one.ensures.long.0 one.ensures.long.1 c.requires.fits.1),
          );
    }

pub returns-in-Unit-clause-appended : goal.returns-in-Unit-clause-appended
returns-in-Unit-clause-appended c = one_appended _ _ c.unpack-rule.ensures.rule c.append.ensures.appended c.in-Unit.is

pub returns-then-y-x-clause-appended : goal.returns-then-y-x-clause-appended
returns-then-y-x-clause-appended c =
    two_appended _ _ c.unpack-rule.ensures.rule c.append-in-Pair.ensures.appended c.in-Pair.is c.if-y-x.true
    c.append-then-y-x.ensures.appended

pub returns-else-y-x-clause-appended : goal.returns-else-y-x-clause-appended
returns-else-y-x-clause-appended c =
    twin_appended _ _ c.unpack-rule.ensures.rule c.append-in-Pair.ensures.appended c.in-Pair.is c.if-y-x.false
