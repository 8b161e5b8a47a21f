-- `scan::scan`: piece by piece, and at the end the last line decides. Assumes nothing.
use Rattle.grammar.proofs.Basics.{arith}
use Rattle.scanner.proofs.Leaving.{no_text, from_the_start, leaves_here, goes_on, in_the_part}
use Rattle.scanner.proofs.Leaving.{breaks_off}
use Rattle.scanner.proofs.scan.scan.Goals as goal

pub returns-then-is_empty : goal.returns-then-is_empty
returns-then-is_empty c = record { fault = search no_text }

pub loop-at-init : goal.loop-at-init
loop-at-init c = (omega arith, search from_the_start)

pub returns-then-is_outside : goal.returns-then-is_outside
returns-then-is_outside c = record { fault = search leaves_here }

pub loop-at-preserved : goal.loop-at-preserved
loop-at-preserved c = (omega arith, search goes_on)

pub returns-then-is_line_start : goal.returns-then-is_line_start
returns-then-is_line_start c = record { fault = search in_the_part }

pub returns-else-is_line_start : goal.returns-else-is_line_start
returns-else-is_line_start c = record { fault = search breaks_off }
