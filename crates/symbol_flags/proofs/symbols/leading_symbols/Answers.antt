-- `symbols::leading_symbols` meets its contract: the symbol alone grows backwards. Assumes nothing.
use Rattle.usefulness.specs.Usefulness.{leads}
use Rattle.symbol_flags.proofs.symbols.leading_symbols.Goals as goal

pub returns : goal.returns
unfolding leads
returns c = record { flags = c.grow.ensures.grown _ c.single.ensures.flags }
