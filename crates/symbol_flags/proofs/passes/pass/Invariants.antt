-- `passes::pass` meets its contract: the rules of the first keys have added what they add. Assumes nothing.
use Rattle.grammar.proofs.Basics.{Bool, ℕ, take}
use Rattle.job.specs.Inside.Keys.{rules_of_keys}
use Rattle.usefulness.specs.Inside.Flags.{Flags}
use Rattle.usefulness.specs.Inside.Passes.{in_place}
use Rattle.symbol_flags.proofs.passes.pass.Given as goal

abbrev pub invariant-loop-key : goal.invariant-loop-key
invariant-loop-key l =
    (s : ℕ → Bool) → Flags s l.initial.set.word →
    Flags (in_place l.direction (rules_of_keys (take l.key-index l.keys)) s) l.set.word
