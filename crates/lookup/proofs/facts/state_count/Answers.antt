use Rattle.grammar.proofs.Basics.{◌≡◌, ◌∙◌, refl, ap, List, ℕ, ◌<◌, ◌≤◌, ◌+◌, add-one, arith, length, get_or}
use Rattle.grammar.proofs.Basics.{take, take-suc}
use Prim.Native.Nat.{max}
use lib.Seq.{take_all}
use Rattle.job.specs.declared.JobRecord.{JobRecord}
use Rattle.job.specs.Format.{no_record}
use Rattle.job.specs.Job.{states_in_lem, states_of}
use Rattle.job.proofs.Records.{records_counted}
use Rattle.job.proofs.States.{states_behind}
use Rattle.std.proofs.Common.{nat_cmp, rules}
use Rattle.std.specs.Ordering.{ord_max}
use Rattle.lookup.proofs.facts.state_count.Goals as goal

none_yet : (rs : List JobRecord) → 0 ≡ states_of (take 0 rs)
unfolding states_of
none_yet rs = refl

module _ (rs : List JobRecord) (count k states : ℕ) (all : length rs ≡ count)
    (inv : states ≡ states_of (take k rs)) where
  one_more : (r : JobRecord) (n m : ℕ) → k < count → r ≡ get_or rs k no_record → n ≡ states_in_lem r → m ≡ max states n
      → m ≡ states_of (take (k + 1) rs)
  one_more r n m h at e f =
      let l : k < length rs = omega arith in
      rw (f, inv, e, at, add-one, take-suc rs k no_record l, states_behind)

  no_more : count ≤ k → states ≡ states_of rs
  no_more h = let l : length rs ≤ k = omega arith in inv ∙ ap states_of (take_all k rs l)

-- the larger of two by their order
larger : (a b : ℕ) {m : ℕ} → m ≡ ord_max nat_cmp a b → m ≡ max a b
larger a b e = search rules

pub loop-k-init : goal.loop-k-init
loop-k-init c = search none_yet

pub loop-k-preserved : goal.loop-k-preserved
loop-k-preserved c =
    one_more _ _ _ _ (records_counted _) c.loop-k.invariant _ _ _ c.loop-k-test.true c.record_at.ensures.record c.states_in.ensures.states (larger _ _ c.max-states.ensures)

pub returns : goal.returns
returns c = record { states = search (no_more, records_counted) }
