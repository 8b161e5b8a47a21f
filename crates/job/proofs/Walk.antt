-- The walk over the records: what is known at record i, and what each way on or out makes of it. Assumes nothing.
use Rattle.grammar.proofs.Basics.{◌≡◌, refl, true, false, Bool, cond, List, ◌∷◌, [], ◌++◌, ℕ, ◌<◌, ◌≤◌, ◌+◌, add-one}
use Rattle.grammar.proofs.Basics.{arith, eqb, length, get_or, take, length-take-le, take-suc, ne_eqb, cases}
use lib.Seq.{take-length}
use Rattle.grammar.specs.Counting.{one_if_lem}
use Rattle.job.specs.declared.JobRecord.{JobRecord}
use Rattle.job.specs.declared.Limits.{Limits}
use Rattle.job.specs.Records.{Checked}
use Rattle.job.specs.declared.Tally.{Tally}
use Rattle.job.specs.Format.{field_classes, row_of, bad_field_lem, has, is_rule_lem, byte_i, byte_s, no_record}
use Rattle.job.specs.Records.{refused, or_else, first_fault}
use Rattle.job.specs.Check.{record_place, count_kind, count_rules, is_second_lem, fault, job_format, missing}
use Rattle.job.specs.Inside.Walk.{form_fault_lem, order_fault_lem, tally_of, counted, is_second_by, missing_by}
use Rattle.job.proofs.RecordChecks.{Remains, refused_at, passed_at, all_passed}

-- the number that refuses a record, by the parts that the code computes
fault_parts : (limits : Limits) (seen : List JobRecord) (r : JobRecord)
    → fault field_classes limits seen r
    ≡ cond (eqb (form_fault_lem r) 0) (cond (has seen r) 5 (order_fault_lem limits (tally_of seen) r)) (form_fault_lem r)
unfolding fault form_fault_lem order_fault_lem is_second_by tally_of
fault_parts limits seen r =
    cases (eqb (row_of r.kind) 7) (λ t. rw t)
    (λ t. cases (eqb (bad_field_lem field_classes r) 0) (λ u. rw (t, u)) (λ u. rw (t, u)))

one_if_within : (b : Bool) → one_if_lem b ≤ 1
one_if_within true = omega arith
one_if_within false = omega arith

-- one record more, and at most as many as there are
kind_snoc : (k : ℕ) (seen : List JobRecord) (r : JobRecord)
    → count_kind k (seen ++ (r ∷ [])) ≡ count_kind k seen + one_if_lem (eqb r.kind k)
unfolding count_kind
kind_snoc k [] r = omega arith
kind_snoc k (x ∷ xs) r = omega (arith, kind_snoc k xs r)

rules_snoc : (seen : List JobRecord) (r : JobRecord)
    → count_rules (seen ++ (r ∷ [])) ≡ count_rules seen + one_if_lem (is_rule_lem r)
unfolding count_rules
rules_snoc [] r = omega arith
rules_snoc (x ∷ xs) r = omega (arith, rules_snoc xs r)

all_within : (seen : List JobRecord)
    → (count_rules seen ≤ length seen) × (count_kind byte_s seen ≤ length seen) × (count_kind byte_i seen ≤ length seen)
unfolding count_kind count_rules
all_within [] = omega arith
all_within (x ∷ xs) =
    omega (
      arith,
      one_if_within (is_rule_lem x),
      one_if_within (eqb x.kind byte_s),
      one_if_within (eqb x.kind byte_i),
      all_within xs,
    )

pub tally_none : record { rules = 0; starts = 0; initials = 0 } ≡ tally_of []
unfolding tally_of count_kind count_rules
tally_none = refl

pub tally_snoc : (seen : List JobRecord) (r : JobRecord) → tally_of (seen ++ (r ∷ [])) ≡ counted (tally_of seen) r
unfolding tally_of counted
tally_snoc seen r = simp (kind_snoc, rules_snoc)

-- what is said by the counts is said of the records
pub tally_counts : {t : Tally} (seen : List JobRecord) → t ≡ tally_of seen
    → (t.rules ≤ length seen) × (t.starts ≤ length seen) × (t.initials ≤ length seen)
unfolding tally_of
tally_counts seen e = rw e (all_within seen)

pub second_counted : (seen : List JobRecord) (r : JobRecord) → is_second_by (tally_of seen) r ≡ is_second_lem seen r
unfolding is_second_by tally_of
second_counted seen r = refl

pub missing_counted : (needed : Bool) (rs : List JobRecord)
    → missing_by needed (tally_of rs) (length rs) ≡ missing needed rs
unfolding missing_by missing tally_of
missing_counted needed rs = refl

-- the answer of all checks of the records
abbrev pub answer_of : Limits → Bool → List JobRecord → Checked
answer_of limits needed rs = or_else (first_fault (job_format field_classes limits) [] rs) (missing needed rs)

-- what is known where the walk stands at record i, with those before it counted
pub record Walked (limits : Limits) (rs : List JobRecord) (i : ℕ) (seen : Tally) : Type 0 where
  pub tally : seen ≡ tally_of (take i rs)
  pub rest : Remains (job_format field_classes limits) rs i

pub walked_none : (limits : Limits) (rs : List JobRecord)
    → Walked limits rs 0 (record { rules = 0; starts = 0; initials = 0 })
walked_none limits rs = record { tally = tally_none; rest = refl }

-- at most as many are counted as records were passed
pub tally_within : (limits : Limits) (rs : List JobRecord) (i : ℕ) (seen : Tally) → Walked limits rs i seen
    → i ≤ length rs
    → (seen.rules ≤ i) × (seen.starts ≤ i) × (seen.initials ≤ i)
tally_within limits rs i seen w h = omega (arith, tally_counts (take i rs) w.tally, length-take-le i rs h)

-- and once record i is read and its form is looked at
pub record Read (limits : Limits) (rs : List JobRecord) (i : ℕ) (seen : Tally) (r : JobRecord)
    (form : ℕ) : Type 0 where
  pub walked : Walked limits rs i seen
  pub below : i < length rs
  pub here : r ≡ get_or rs i no_record
  pub formed : form ≡ form_fault_lem r

module _ {limits : Limits} {rs : List JobRecord} {i : ℕ} {seen : Tally} {r : JobRecord} {form : ℕ}
    (a : Read limits rs i seen r form) where
  pub fault_here : fault field_classes limits (take i rs) (get_or rs i no_record)
      ≡ cond (eqb form 0) (cond (has (take i rs) r) 5 (order_fault_lem limits seen r)) form
  fault_here = rw (← a.here, a.walked.tally, a.formed) (fault_parts limits (take i rs) r)

  -- record i is refused
  pub refused_here : (needed : Bool) {n : ℕ} {c : Checked}
      → fault field_classes limits (take i rs) (get_or rs i no_record) ≡ n
      → (n ≡ 0 → ⊥)
      → c ≡ refused n (record_place n i r) → c ≡ answer_of limits needed rs
  refused_here needed {n} e z is =
      rw (
        is,
        a.here,
        refused_at (job_format field_classes limits) rs i a.walked.rest no_record a.below n e z,
        ne_eqb n 0 z,
      )

  -- record i is not refused
  pub walked_on : {t : Tally} → fault field_classes limits (take i rs) (get_or rs i no_record) ≡ 0 → t ≡ counted seen r
      → Walked limits rs (i + 1) t
  walked_on e q =
      record {
        tally = rw (add-one, take-suc rs i no_record a.below, ← a.here, tally_snoc, ← a.walked.tally) q;
        rest = passed_at (job_format field_classes limits) rs i a.walked.rest no_record a.below e;
      }

pub walked_all : {limits : Limits} {rs : List JobRecord} {i : ℕ} {seen : Tally} → Walked limits rs i seen
    → (needed : Bool) (count : ℕ)
    → count ≡ length rs → i ≤ count → count ≤ i → missing_by needed seen count ≡ answer_of limits needed rs
walked_all {limits} {rs} {i} {seen} w needed count all p q =
    let e : i ≡ length rs = omega arith in
    rw (all_passed (job_format field_classes limits) rs i w.rest (omega arith), w.tally, all, e, take-length)
    (missing_counted needed rs)
