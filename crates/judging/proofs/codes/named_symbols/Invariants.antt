-- `codes::named_symbols` meets its contract: the set is of what the first rules name. Assumes nothing.
use Rattle.grammar.proofs.Basics.{take}
use Rattle.job.specs.Inside.Keys.{rules_of_keys}
use Rattle.usefulness.specs.Inside.Flags.{Flags}
use Rattle.verdicts.specs.Verdicts.{is_named_lem}
use Rattle.judging.proofs.codes.named_symbols.Given as goal

abbrev pub invariant-loop-key : goal.invariant-loop-key
invariant-loop-key l = Flags (is_named_lem (rules_of_keys (take l.key-index l.keys)) l.start) l.named.word
