-- `rules::head_at`: a name, blanks, the mark and blanks lead to the first element. Assumes nothing.
use Rattle.cursor.proofs.HeadLaws.{past_mark, past_slash, adds_read, defines_read}
use Rattle.cursor.proofs.rules.head_at.Goals as goal

pub run_end-requires : goal.run_end-requires
run_end-requires c = record { inside = search past_slash }

pub returns-then-stands_at : goal.returns-then-stands_at
returns-then-stands_at c = record { read = search adds_read }

pub run_end-requires-else-stands_at : goal.run_end-requires-else-stands_at
run_end-requires-else-stands_at c = record { inside = search past_mark }

pub returns-else-stands_at : goal.returns-else-stands_at
returns-else-stands_at c = record { read = search defines_read }
