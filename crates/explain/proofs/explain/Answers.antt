-- `explain::explain` is safe: the buffer has the length that it is made with. Assumes nothing.
use Rattle.explain.proofs.Made.{made_long}
use Rattle.explain.proofs.explain.Goals as goal

pub slice_bounds-print_explanation-end : goal.slice_bounds-print_explanation-end
slice_bounds-print_explanation-end c = made_long 2424874
