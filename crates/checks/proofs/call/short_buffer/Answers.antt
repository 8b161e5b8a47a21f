-- `call::short_buffer`: the test is the definition's. Assumes nothing.
use Rattle.grammar.proofs.Basics.{lt-ltb, le-ltb}
use Rattle.checks.proofs.call.short_buffer.Goals as goal

pub returns-then-long-needed : goal.returns-then-long-needed
returns-then-long-needed c = record { checked = rw (lt-ltb _ _ c.if-long-needed.true) }

pub returns : goal.returns
returns c = record { checked = rw (le-ltb _ _ c.if-long-needed.false) }
