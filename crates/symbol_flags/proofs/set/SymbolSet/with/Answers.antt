-- `set::SymbolSet::with` meets its contract: one bit is made 1. Assumes nothing.
use Rattle.grammar.proofs.Basics.{arith}
use Rattle.std.proofs.lemmas.Nat.{or_lt}
use Rattle.usefulness.proofs.Raising.{flags_with}
use Rattle.symbol_flags.proofs.set.SymbolSet.with.Goals as goal

pub returns : goal.returns
returns c = record { flags = λ s held. flags_with held c.args.symbol c.requires.symbol }

pub invariant_of-result : goal.invariant_of-result
invariant_of-result c = record { within = or_lt 64 _ _ c.args.self.within (omega arith) }
