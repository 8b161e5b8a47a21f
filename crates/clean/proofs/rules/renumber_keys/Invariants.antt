-- `rules::renumber_keys`. The invariant: the keys so far are those of the first rules under new numbers. Assumes
-- nothing.
use Rattle.grammar.proofs.Basics.{◌≡◌, map, take}
use Rattle.copies.specs.Inside.Parts.{renumbered_key}
use Rattle.clean.proofs.rules.renumber_keys.Given as goal

abbrev pub invariant-loop-key : goal.invariant-loop-key
invariant-loop-key l = l.renumbered ≡ map (renumbered_key l.numbers) (take l.key-index l.kept)
