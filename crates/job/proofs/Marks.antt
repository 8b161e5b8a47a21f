-- The marks of the records that were met: a record whose mark is not set is none of them. Assumes nothing.
use Rattle.grammar.proofs.Basics.{◌≡◌, ◌∙◌, sym, true, false, false≢true, Bool, List, ℕ, ◌<◌, ◌≤◌, ◌+◌, suc, zero, le_refl, arith, eqb}
use Rattle.grammar.proofs.Basics.{length, get_or, take, set, length-set, get_or-set_same, get_or-set_other, eqb-true}
use Rattle.grammar.proofs.Basics.{eqb-false, cases, not_true_false, decided}
use Rattle.job.specs.declared.JobRecord.{JobRecord}
use Rattle.job.specs.Format.{same, has, no_record}
use Rattle.job.specs.Inside.Walk.{mark_of}
use Rattle.job.proofs.Earlier.{none_at_first, none_so_far}

-- each of the first i records is marked
pub record Marked (marks : List Bool) (rs : List JobRecord) (i : ℕ) : Type 0 where
  pub long : length marks ≡ 8192
  pub marked : (k : ℕ) → k < i → get_or marks (mark_of (get_or rs k no_record)) false ≡ true

pub none_marked : (marks : List Bool) (rs : List JobRecord) → length marks ≡ 8192 → Marked marks rs 0
none_marked marks rs l = record { long = l; marked = λ k h. absurd (omega arith) }

pub mark_within : (r : JobRecord) → mark_of r < 8192
unfolding mark_of
mark_within r = omega arith

same_mark : (a b : JobRecord) → same a b ≡ true → mark_of a ≡ mark_of b
unfolding mark_of
same_mark a b e = let s = simp decided at e in cc

module _ {marks : List Bool} {rs : List JobRecord} {i : ℕ} (m : Marked marks rs i) (r : JobRecord) where
  earlier : get_or marks (mark_of r) false ≡ false → (j : ℕ) → j ≤ i → j ≤ length rs → has (take j rs) r ≡ false
  earlier z zero h l = none_at_first r
  earlier z (suc j) h l =
      none_so_far r rs j l (earlier z j (omega arith) (omega arith))
      (not_true_false _
      (λ s.
      let e : mark_of (get_or rs j no_record) ≡ mark_of r = same_mark _ _ s in
      let t : get_or marks (mark_of (get_or rs j no_record)) false ≡ true = m.marked j h in
      false≢true (sym z ∙ rw e at t)))

  -- a record whose mark is not set is none of those before
  pub unmarked : i ≤ length rs → get_or marks (mark_of r) false ≡ false → has (take i rs) r ≡ false
  unmarked l z = earlier z i (le_refl i) l

  -- the record met is marked, and those before it still are
  module _ (here : r ≡ get_or rs i no_record) where
    still : (k : ℕ) → k < i + 1 → get_or (set marks (mark_of r) true) (mark_of (get_or rs k no_record)) false ≡ true
    still k h =
        let n = mark_of (get_or rs k no_record) in
        cases (eqb n (mark_of r))
        (λ t. rw (eqb-true n (mark_of r) t)
        (get_or-set_same marks (mark_of r) true false (omega (arith, m.long, mark_within r))))
        (λ t.
        let other = eqb-false n (mark_of r) t in
        get_or-set_other marks (mark_of r) n true false other
        ∙ m.marked k
        (cases (eqb k i) (λ u. absurd (other (rw (eqb-true k i u, ← here)))) (λ u. omega (arith, eqb-false k i u))))

    pub marked_on : {later : List Bool} → later ≡ set marks (mark_of r) true → Marked later rs (i + 1)
    marked_on e = rw e (record { long = simp length-set m.long; marked = still })
