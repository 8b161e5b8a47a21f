use Rattle.grammar.proofs.Basics.{◌≡◌, sym, true, false, List, ℕ, ◌<◌, ◌+◌, suc, add-one, arith, set}
use Rattle.long_jobs.specs.Fresh.{is_named_lem, unnamed_below}
use Rattle.long_jobs.specs.Inside.Parts.{InFront}
use Rattle.long_jobs.proofs.Front.{none_below_zero, none_in_front, named_below, unnamed_below_lem, unnamed_few, one_more_in_front}
use Rattle.binarize.proofs.fresh.free_in.Goals.{then-not-is_named, else-not-is_named}
use Rattle.binarize.proofs.fresh.free_in.Goals as goal

module _ (rs : List (List ℕ)) (free : List ℕ) (n v : ℕ) (front : InFront free n (unnamed_below rs v)) where
  few : v < 32 → n < 64
  few h = omega (arith, unnamed_few rs v, front.counted)

  as_before : is_named_lem rs v ≡ true → InFront free n (unnamed_below rs (suc v))
  as_before e = rw (named_below rs v e) front

  one_more : is_named_lem rs v ≡ false → v < 32 → InFront (set free n v) (n + 1) (unnamed_below rs (suc v))
  one_more e h =
      rw (unnamed_below_lem rs v e) (one_more_in_front free (unnamed_below rs v) n v front (few h))

pub loop-v-init : goal.loop-v-init
loop-v-init c = rw none_below_zero none_in_front

pub loop-v-preserved : goal.loop-v-preserved
loop-v-preserved c =
    elim c.if-not-is_named.branch [
      | then-not-is_named w ↦
          let free = c.loop-v.free in
          rw (add-one, w.free-is)
          (one_more _ free.variables free.count c.loop-v.v c.loop-v.invariant (sym w.if-not-is_named.ensures.says)
          c.loop-v-test.true)
      | else-not-is_named w ↦
          rw (add-one, w.free-is) (as_before _ _ _ c.loop-v.v c.loop-v.invariant (sym w.if-not-is_named.ensures.says))
    ]
