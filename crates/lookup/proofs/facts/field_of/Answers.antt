use Rattle.grammar.proofs.Basics.{◌≡◌, ◌∙◌, List, ℕ, ◌<◌, ◌≤◌, ◌+◌, add-one, arith, length, get_or, drop}
use Rattle.grammar.proofs.Basics.{drop_of_length-le, drop-cons, eq-eqb, ne_eqb}
use Rattle.job.specs.declared.JobRecord.{JobRecord}
use Rattle.job.specs.Format.{no_record}
use Rattle.job.specs.Job.{field_of}
use Rattle.job.proofs.Records.{records_counted}
use Rattle.lookup.proofs.facts.field_of.Goals as goal

module _ (k : ℕ) (rs : List JobRecord) (count i : ℕ) (all : length rs ≡ count)
    (inv : field_of k rs ≡ field_of k (drop i rs)) where
  module _ (r : JobRecord) (h : i < count) (at : r ≡ get_or rs i no_record) where
    found : r.kind ≡ k → r.first ≡ field_of k rs
    unfolding field_of
    found e = let l : i < length rs = omega arith in rw (inv, drop-cons rs i no_record l, ← at, eq-eqb _ _ e)

    other : (r.kind ≡ k → ⊥) → field_of k rs ≡ field_of k (drop (i + 1) rs)
    unfolding field_of
    other n =
        let l : i < length rs = omega arith in
        inv ∙ rw (drop-cons rs i no_record l, ← at, ne_eqb _ _ n, add-one)

  none : count ≤ i → 0 ≡ field_of k rs
  unfolding field_of
  none h = let l : length rs ≤ i = omega arith in rw (inv, drop_of_length-le rs l)

pub returns-then-r-kind : goal.returns-then-r-kind
returns-then-r-kind c = record { field = search (found, records_counted) }

pub loop-i-preserved : goal.loop-i-preserved
loop-i-preserved c = search (other, records_counted)

pub returns : goal.returns
returns c = record { field = search (none, records_counted) }
