-- `write::room_check`: the test is the definition's. Assumes nothing.
use Rattle.grammar.proofs.Basics.{◌≡◌, ℕ, ◌<◌, ◌≤◌, ◌*◌, lt-ltb, le-ltb}
use Rattle.job.specs.Check.{refused, accepted, room_check}
use Rattle.records.proofs.write.room_check.Goals as goal

module _ (n room : ℕ) where
  no_room : room < 4 * n → refused 13 n ≡ room_check n room
  unfolding room_check
  no_room h = rw (lt-ltb room (4 * n) h)

  all_fit : 4 * n ≤ room → accepted ≡ room_check n room
  unfolding room_check
  all_fit h = rw (le-ltb room (4 * n) h)

ruleset ways = (no_room, all_fit)

pub returns-then-room-records : goal.returns-then-room-records
returns-then-room-records c = record { checked = search ways }

pub returns : goal.returns
returns c = record { checked = search ways }
