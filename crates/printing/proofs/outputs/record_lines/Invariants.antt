-- `outputs::record_lines`. The loop's invariant: the lines of the first k records are written. Assumes nothing.
use Rattle.std.proofs.Common.{◌*◌}
use Rattle.spelling.specs.Lines.{lines}
use Rattle.spelling.specs.Records.{record_line_lem}
use Rattle.spelling.specs.Inside.Placed.{Placed}
use Rattle.printing.proofs.outputs.record_lines.Given as goal

abbrev pub invariant-loop-k : goal.invariant-loop-k
invariant-loop-k l = Placed (lines (record_line_lem l.listing) l.k) (156 * l.k) l.initial.page l.page
