use Rattle.std.proofs.Common.{◌≡◌, ◌+◌, ◌*◌, arith}
use Rattle.spelling.specs.Lines.{lines}
use Rattle.spelling.proofs.Placing.{nothing, within, line_more}
use Rattle.printing.specs.Outputs.{shown_records_lem}
use Rattle.printing.proofs.outputs.record_lines.Goals as goal

pub loop-k-init : goal.loop-k-init
unfolding lines
loop-k-init c = nothing

pub loop-k-preserved : goal.loop-k-preserved
loop-k-preserved c =
    line_more _ c.loop-k.k (156 * (c.loop-k.k + 1)) c.loop-k.invariant c.record_line.ensures.placed (omega arith)

pub returns : goal.returns
unfolding shown_records_lem
returns c = record {
  placed = let e : c.loop-k.k ≡ shown_records_lem c.args.records c.args.listing.now = omega arith in
      within (rw e at c.loop-k.invariant) (omega arith);
}
