-- `rules::keep_rules` meets its contract: of the rules of the first keys those that stay are kept. Assumes nothing.
use Rattle.grammar.proofs.Basics.{◌≡◌, ◌≤◌, length, take}
use Rattle.job.specs.Inside.Keys.{Keys, rules_of_keys}
use Rattle.usefulness.specs.Sets.{within}
use Rattle.usefulness.specs.Inside.Flags.{flagged}
use Rattle.symbol_flags.proofs.rules.keep_rules.Given as goal

abbrev pub invariant-loop-key : goal.invariant-loop-key
invariant-loop-key l =
    (length l.kept ≤ l.key-index) × Keys l.kept
    × (rules_of_keys l.kept ≡ within (flagged l.set.word) (rules_of_keys (take l.key-index l.keys)))
