-- The sort key is a number in base 256: of two such numbers the lower is the one whose leading part is lower, or whose
-- last digit is where the leading parts are equal. Three times over, that is the order of the four bytes. Assumes
-- nothing.
use Rattle.grammar.proofs.Basics.{◌≡◌, ⊎_elim, inl, inr, ◌⊎◌, false, ℕ, ◌<◌, ◌+◌, ◌*◌, arith, ltb, length, get_or, ltb-true}
use Rattle.grammar.proofs.Basics.{ltb-false, cases}
use Rattle.grammar.proofs.NoRepeat.{member_at}
use Rattle.job.specs.declared.JobRecord.{JobRecord}
use Rattle.job.specs.Format.{field_classes, records_of, no_record}
use Rattle.job.specs.Job.{sort_key_lem, sorted_rules_lem}
use Rattle.job.specs.Theorems.RankCounts.{ComesBefore, FourBytes, KeysInOrder, RanksInOrder}
use Rattle.job.proofs.Accepted.{check_passed}
use Rattle.job.proofs.Sound.{Sound}
use Rattle.job.proofs.Shapes.{rule_shape, shape_bounds}
use Rattle.job.proofs.Ranks.{sorted_member, sorted_rising, rising_places}

-- the last digit decides where the rest is equal
digit_decides : (x y a b : ℕ) → a < 256 → b < 256 → x * 256 + a < y * 256 + b → (x < y) ⊎ ((x ≡ y) × (a < b))
digit_decides x y a b al bl h =
    cases (ltb x y)
    (λ t. inl (ltb-true x y t))
    (λ t. let l = ltb-false x y t in inr (omega arith))

key_before : (a b : JobRecord) → FourBytes a → FourBytes b → sort_key_lem a < sort_key_lem b → ComesBefore a b
key_before a b fa fb h =
    ⊎_elim
    (λ h. ⊎_elim
    (λ h. ⊎_elim ComesBefore.by_first (λ e. ComesBefore.by_kind e.0 e.1)
    (digit_decides a.first b.first _ _ fa.kind fb.kind h))
    (λ e. ComesBefore.by_second (omega (arith, fa.kind, fb.kind)) (omega (arith, fa.kind, fb.kind)) e.1)
    (digit_decides (a.first * 256 + a.kind) (b.first * 256 + b.kind) _ _ fa.second fb.second h))
    (λ e. ComesBefore.by_third (omega (arith, fa, fb)) (omega (arith, fa, fb)) (omega (arith, fa, fb)) e.1)
    (digit_decides ((a.first * 256 + a.kind) * 256 + a.second) ((b.first * 256 + b.kind) * 256 + b.second) _ _
    fa.third fb.third h)

before_key : (a b : JobRecord) → FourBytes a → FourBytes b → ComesBefore a b → sort_key_lem a < sort_key_lem b
before_key a b fa fb (ComesBefore.by_first l) = omega arith
before_key a b fa fb (ComesBefore.by_kind e l) = omega arith
before_key a b fa fb (ComesBefore.by_second e f l) = omega arith
before_key a b fa fb (ComesBefore.by_third e f g l) = omega arith

pub keys_in_order_lem : KeysInOrder
unfolding KeysInOrder
keys_in_order_lem a b fa fb = (key_before a b fa fb, before_key a b fa fb)

pub ranks_in_order_lem : RanksInOrder
unfolding RanksInOrder
ranks_in_order_lem limits job e i j l h =
    let s : Sound field_classes limits (records_of job) = (check_passed field_classes limits false job e).sound in
    key_before _ _ (bytes s i (omega arith)) (bytes s j h)
    (rising_places no_record _ (sorted_rising (records_of job) s.fitting s.distinct) i j l h)
  where
    bytes : Sound field_classes limits (records_of job) → (k : ℕ) → k < length (sorted_rules_lem (records_of job)) →
        FourBytes (get_or (sorted_rules_lem (records_of job)) k no_record)
    bytes s k h =
        let (m, t) = sorted_member (records_of job) (member_at no_record (sorted_rules_lem (records_of job)) k h) in
        let b = shape_bounds (rule_shape _ (s.fitting _ m) t) in
        record { kind = b.0; first = omega arith; second = omega arith; third = omega arith }
