-- `explain::print_explanation` is safe: the listing has the length that it is made with, and keeps it. Assumes nothing.
use mathlib.Core.Path.{◌∙◌, sym}
use Rattle.explain.proofs.Made.{made_long}
use Rattle.explain.proofs.print_explanation.Goals as goal

pub slice_bounds-explain-end-3 : goal.slice_bounds-explain-end-3
slice_bounds-explain-end-3 c = made_long 524288

pub slice_bounds-explain_output-end : goal.slice_bounds-explain_output-end
slice_bounds-explain_output-end c = made_long 524288 ∙ sym c.explain-explained.auto.listing
