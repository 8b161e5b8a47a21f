use Rattle.grammar.proofs.Basics.{◌∙◌, sym, arith, eqb-true, eqb-false}
use Rattle.grammar.proofs.Counting.{count_bound}
use Rattle.usefulness.specs.Inside.Flags.{flagged}
use Rattle.usefulness.proofs.Bodies.{keys_below}
use Rattle.usefulness.proofs.Raising.{flags_self}
use Rattle.usefulness.proofs.InPlace.{part_grown_none, part_grown_more, part_grown_rises, part_grown_end}
use Rattle.symbol_flags.proofs.passes.grow.Goals as goal

pub loop-direction-init : goal.loop-direction-init
loop-direction-init c s held = part_grown_none held

pub returns-then-eq : goal.returns-then-eq
returns-then-eq c =
    record {
      grown = λ s held.
          let b = c.loop-direction.invariant s held in
          let same = eqb-true _ _ (sym c.eq.ensures ∙ c.if-eq.true) in
          rw (← same) (part_grown_end (keys_below c.requires.rules) b (c.pass-next.ensures.flags _ b.flags) same);
    }

pub loop-direction-smaller : goal.loop-direction-smaller
loop-direction-smaller c =
    let b = c.loop-direction.invariant _ (flags_self c.args.set.word) in
    let r = c.pass-next.ensures.flags _ b.flags in
    let new = eqb-false c.pass-next.result.word c.loop-direction.set.word (sym c.eq.ensures ∙ c.if-eq.false) in
    omega (
      arith,
      part_grown_rises (keys_below c.requires.rules) b r c.loop-direction.set.within c.pass-next.result.within new,
      count_bound (flagged c.pass-next.result.word) 64,
    )

pub loop-direction-preserved : goal.loop-direction-preserved
loop-direction-preserved c s held =
    let b = c.loop-direction.invariant s held in
    part_grown_more (keys_below c.requires.rules) b (c.pass-next.ensures.flags _ b.flags)
