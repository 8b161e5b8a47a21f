-- `passes::with_added` meets its contract: up and back the head is added, down the body. Assumes nothing.
use Rattle.grammar.proofs.Basics.{inl, inr}
use Rattle.job.proofs.KeyRules.{from_head}
use Rattle.usefulness.proofs.Bodies.{any_of_one}
use Rattle.usefulness.proofs.Raising.{flags_alike}
use Rattle.symbol_flags.proofs.passes.with_added.Goals as goal

pub returns-in-Up : goal.returns-in-Up
returns-in-Up c =
    record {
      flags = λ s held. flags_alike (c.with.ensures.flags s held)
          (λ X _. elim c.in-Up.is [
            | inl up ↦ rw (up, any_of_one, from_head)
            | inr back ↦ rw (back, any_of_one, from_head)
          ]);
    }
