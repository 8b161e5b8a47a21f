-- The first walk at record i of a long job: the records before it are counted, and what remains is what the whole walk
-- comes to. Assumes nothing.
use Rattle.grammar.proofs.Basics.{◌≡◌, sym, ◌∙◌, List, map, ◌∷◌, [], ℕ, ◌<◌, ◌≤◌, ◌+◌, add-one, le_of_lt, arith}
use Rattle.grammar.proofs.Basics.{length, get_or, take, length-map, length-take-le, take-suc}
use mathlib.Core.List.{map-append}
use lib.Seq.{take_all}
use Rattle.job.specs.declared.JobRecord.{JobRecord}
use Rattle.job.specs.Records.{Checked}
use Rattle.job.specs.declared.Tally.{Tally}
use Rattle.job.specs.Records.{refused, accepted, first_fault}
use Rattle.job.specs.Inside.Walk.{tally_of, counted}
use Rattle.job.proofs.RecordChecks.{Remains, refused_at, passed_at, all_passed}
use Rattle.job.proofs.Walk.{tally_none, tally_snoc, tally_counts, second_counted}
use Rattle.long_jobs.specs.Dialect.{short_of}
use Rattle.long_jobs.specs.Check.{fault, long_place, long_format}
use Rattle.long_jobs.specs.Inside.Parts.{fault_after}
use Rattle.long_jobs.proofs.LongRecords.{in_chunks, few_records}

-- the records before i are counted
abbrev pub Counted : List (List ℕ) → ℕ → Tally → Type 0
Counted rs i seen = seen ≡ tally_of (map short_of (take i rs))

module _ (rs : List (List ℕ)) (i : ℕ) where
  module _ (below : i < length rs) (seen : Tally) (so_far : Counted rs i seen) where
    pub few_counted : length rs ≤ 4096 → (seen.rules < 4096) × (seen.starts < 4096) × (seen.initials < 4096)
    few_counted h =
        omega (
          arith,
          tally_counts (map short_of (take i rs)) so_far,
          length-map (take i rs) short_of,
          length-take-le i rs (le_of_lt below),
        )

    module _ (r : List ℕ) (is : r ≡ get_or rs i []) where
      pub one_more : (s : JobRecord) (t : Tally) → s ≡ short_of r → t ≡ counted seen s → Counted rs (i + 1) t
      one_more s t short q =
          rw (
            add-one,
            take-suc rs i [] below,
            map-append short_of (take i rs) (get_or rs i [] ∷ []),
            tally_snoc,
            ← so_far,
            ← is,
            ← short,
          ) q

      module _ (rest : Remains long_format rs i) (n : ℕ) (found : n ≡ fault_after seen r) where
        -- the number that refuses record i is found by the counts
        fault_counted : fault (take i rs) (get_or rs i []) ≡ n
        unfolding fault fault_after
        fault_counted = rw (found, so_far, is, second_counted)

        pub refused_here : (c : Checked) → (n ≡ 0 → ⊥) → c ≡ refused n (long_place n i r)
            → c ≡ first_fault long_format [] rs
        refused_here c z q = rw (q, is) (sym (refused_at long_format rs i rest [] below n fault_counted z))

        pub passed_here : n ≡ 0 → Remains long_format rs (i + 1)
        passed_here e = passed_at long_format rs i rest [] below (fault_counted ∙ e)

  module _ (over : length rs ≤ i) where
    pub all_counted : (seen : Tally) → Counted rs i seen → seen ≡ tally_of (map short_of rs)
    all_counted seen so_far = rw (take_all i rs over) at so_far

    pub none_refused : Remains long_format rs i → accepted ≡ first_fault long_format [] rs
    none_refused rest = sym (all_passed long_format rs i rest over)

-- what the loops over the records of a long job need
pub ruleset steps = (tally_none, in_chunks, few_records, few_counted, one_more, all_counted, none_refused)
