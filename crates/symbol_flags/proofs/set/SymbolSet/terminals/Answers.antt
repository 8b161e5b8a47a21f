-- `set::SymbolSet::terminals` meets its contract: its bits are those of the terminals. Assumes nothing.
use Rattle.usefulness.proofs.Raising.{terminals_held}
use Rattle.symbol_flags.proofs.set.SymbolSet.terminals.Goals as goal

pub returns : goal.returns
returns c = record { flags = terminals_held }
