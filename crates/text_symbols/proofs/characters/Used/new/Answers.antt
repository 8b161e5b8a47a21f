-- `Used::new`: no byte is marked. Assumes nothing.
use Rattle.grammar.proofs.Basics.{false}
use lib.ListN.{get_or-replicate}
use Rattle.text_symbols.proofs.characters.Used.new.Goals as goal

pub returns : goal.returns
returns c = record { none = record { at = λ k l. get_or-replicate 256 k false false l } }
