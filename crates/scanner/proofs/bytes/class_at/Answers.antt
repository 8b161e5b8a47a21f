-- `bytes::class_at`: the byte at the offset decides, and past the end none stands. Assumes nothing.
use Rattle.grammar.proofs.Basics.{rules}
use Rattle.scanner.proofs.Offsets.{decides_here, none_past}
use Rattle.scanner.proofs.bytes.class_at.Goals as goal

pub returns-then-at-text : goal.returns-then-at-text
returns-then-at-text c = record { says = search (decides_here, rules) }

pub returns-else-at-text : goal.returns-else-at-text
returns-else-at-text c = record { says = search (none_past, rules) }
