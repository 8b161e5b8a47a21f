-- `symbols::terminal_leading_symbols` meets its contract: the terminals grow backwards. Assumes nothing.
use Rattle.usefulness.specs.Usefulness.{leads}
use Rattle.symbol_flags.proofs.symbols.terminal_leading_symbols.Goals as goal

pub returns : goal.returns
unfolding leads
returns c = record { flags = c.grow.ensures.grown _ c.terminals.ensures.flags }
