-- `symbols::productive_symbols` meets its contract: the terminals grow upwards. Assumes nothing.
use Rattle.usefulness.specs.Usefulness.{productive}
use Rattle.symbol_flags.proofs.symbols.productive_symbols.Goals as goal

pub returns : goal.returns
unfolding productive
returns c = record { flags = c.grow.ensures.grown _ c.terminals.ensures.flags }
