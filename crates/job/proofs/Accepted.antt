-- A job is accepted exactly where its length is right, its records are `Sound`, and it has an S, and an I where one is
-- needed. The walk over the records keeps: those seen are sound. A record after them has no fault exactly where it and
-- those seen are sound. Assumes nothing.
use Rattle.grammar.proofs.Basics.{◌≡◌, refl, sym, ap, ⊎_elim, true, false, Bool, ◌&&◌, cond, ◌||◌, true≢false, List}
use Rattle.grammar.proofs.Basics.{◌∷◌, [], ◌++◌, List·Memᴰ·head, List·Memᴰ·not-nil, List·Memᴰ·cases-cons, append-nil}
use Rattle.grammar.proofs.Basics.{append_assoc, ℕ, ◌<◌, ◌≤◌, ◌+◌, ◌%◌, arith, eqb, leb, length, eq-eqb, ne_eqb}
use Rattle.grammar.proofs.Basics.{eqb-true, eqb-false, leb-false, lt-leb, not-false, true_and_false, not_true_false}
use mathlib.Core.List.Permᴰ
use native.Mathlib.Nat.{pos_of_ne-zero, le_antisymm, le_of_eq}
use Rattle.grammar.specs.Counting.{one_if_lem, NoRepeat}
use Rattle.job.specs.declared.JobRecord.{JobRecord}
use Rattle.job.specs.declared.Limits.{Limits}
use Rattle.job.specs.Records.{Checked}
use Rattle.job.specs.Format.{ClassTable, field_classes, records_of, row_of, is_rule_lem, has, byte_i, byte_s}
use Rattle.job.specs.Records.{refused, accepted, first_fault}
use Rattle.job.specs.Check.{full_limits, count_kind, count_rules, fault, job_format, missing, check_of, job_check}
use Rattle.job.specs.Accepted.{Accepted}
use Rattle.job.specs.Theorems.InRange.{CheckAccepts}
use Rattle.job.proofs.Members.{has_member, member_has}
use Rattle.job.proofs.Shapes.{test_passed, known_row}
use Rattle.job.proofs.RecordChecks.{check_passed_test, both_pass, walks_on, by_records, bytes_passed}
use Rattle.job.proofs.Sound.{Sound, sound_permutes, sound_front}

-- of two tests of which none passes, neither does
neither : (a b : Bool) → (a || b) ≡ false → (a ≡ false) × (b ≡ false)
neither true b e = absurd (true≢false e)
neither false b e = (refl, e)

-- one more of a kind is within a limit exactly where the limit is not reached yet
one_more : (b : Bool) (limit n : ℕ) → n ≤ limit → (b && leb limit n) ≡ false → one_if_lem b + n ≤ limit
one_more true limit n h e = omega (arith, leb-false limit n e)
one_more false limit n h e = omega arith

within : (b : Bool) (limit n : ℕ) → one_if_lem b + n ≤ limit → (b && leb limit n) ≡ false
within true limit n h = lt-leb limit n (omega arith)
within false limit n h = refl

module _ (classes : ClassTable) (limits : Limits) where
  -- a record is sound with those seen exactly where those are sound and it has no fault after them
  module _ (seen : List JobRecord) (r : JobRecord) where
    grows : Sound classes limits seen → fault classes limits seen r ≡ 0 → Sound classes limits (r ∷ seen)
    unfolding fault count_kind count_rules NoRepeat
    grows s e =
        let (unknown, e) = test_passed _ _ _ e in
        let (misfit, e) = test_passed _ _ _ e in
        let (old, e) = test_passed _ _ _ e in
        let (second, e) = test_passed _ 5 _ e in
        let (full, e) = test_passed _ 6 0 e in
        let (start, initial) = neither _ _ second in
        record {
          known = λ x m. ⊎_elim (λ q. rw q (known_row r.kind (eqb-false _ _ unknown))) (s.known x)
              (List·Memᴰ·cases-cons m);
          fitting =
              λ x m. ⊎_elim (λ q. rw q (eqb-true _ _ (not-false _ misfit))) (s.fitting x) (List·Memᴰ·cases-cons m);
          distinct = (λ m. true_and_false (member_has m) old, s.distinct);
          one_start = one_more (eqb r.kind byte_s) _ _ s.one_start start;
          one_initial = one_more (eqb r.kind byte_i) _ _ s.one_initial initial;
          few_rules = one_more (is_rule_lem r) _ _ s.few_rules full;
        }

    faultless : Sound classes limits (r ∷ seen) → fault classes limits seen r ≡ 0
    unfolding fault count_kind count_rules NoRepeat
    faultless s =
        rw (
          ne_eqb (row_of r.kind) 7 (omega (arith, s.known r (List·Memᴰ·head refl))),
          s.fitting r (List·Memᴰ·head refl),
          not_true_false (has seen r) (λ h. s.distinct.0 (has_member seen r h)),
          within (eqb r.kind byte_s) 1 (count_kind byte_s seen) s.one_start,
          within (eqb r.kind byte_i) 1 (count_kind byte_i seen) s.one_initial,
          within (is_rule_lem r) limits.rules (count_rules seen) s.few_rules,
        )

    -- and so behind them
    pub grows_behind : Sound classes limits seen → fault classes limits seen r ≡ 0
        → Sound classes limits (seen ++ (r ∷ []))
    grows_behind s e = sound_permutes (Permᴰ.append_comm (r ∷ []) seen) (grows s e)

  -- the walk from those seen on refuses nothing exactly where all are sound
  unrefused_sound : (seen rs : List JobRecord) → Sound classes limits seen
      → (first_fault (job_format classes limits) seen rs).number ≡ 0
      → Sound classes limits (seen ++ rs)
  unrefused_sound seen [] s e = rw append-nil s
  unrefused_sound seen (r ∷ rs) s e =
      let (here, on) = walks_on (job_format classes limits) seen r rs e in
      rw append_assoc at (unrefused_sound (seen ++ (r ∷ [])) rs (grows_behind seen r s here) on)

  sound_unrefused : (seen rs : List JobRecord) → Sound classes limits (seen ++ rs)
      → first_fault (job_format classes limits) seen rs ≡ accepted
  unfolding first_fault
  sound_unrefused seen [] s = refl
  sound_unrefused seen (r ∷ rs) s =
      let front = sound_front (r ∷ seen) rs (sound_permutes (Permᴰ.middle r seen rs) s) in
      rw (eq-eqb (fault classes limits seen r) 0 (faultless seen r front))
      (sound_unrefused (seen ++ (r ∷ [])) rs (rw append_assoc s))

  -- the empty list of records is sound
  pub empty_sound : Sound classes limits []
  unfolding count_kind count_rules NoRepeat
  empty_sound =
      record {
        known = λ r m. absurd (List·Memᴰ·not-nil m);
        fitting = λ r m. absurd (List·Memᴰ·not-nil m);
        distinct = tt;
        one_start = omega arith;
        one_initial = omega arith;
        few_rules = omega arith;
      }

-- what a job that passes the checks is, with table and limits
pub record Passed (classes : ClassTable) (limits : Limits) (needed : Bool) (job : List ℕ) : Type 0 where
  pub within : length job ≤ 16384
  pub whole : length job % 4 ≡ 0
  pub sound : Sound classes limits (records_of job)
  pub start : 0 < count_kind byte_s (records_of job)
  pub initial : needed ≡ true → 0 < count_kind byte_i (records_of job)

-- no I is missing where one is there if it is needed
not_missing : (needed : Bool) (n : ℕ) → (needed ≡ true → 0 < n) → (needed && eqb n 0) ≡ false
not_missing true n h = ne_eqb n 0 (omega (arith, h refl))
not_missing false n h = refl

-- what is left of the checks of a job that passes those without I
pub only_initial : (classes : ClassTable) (limits : Limits) (needed : Bool) {other : Bool} {job : List ℕ}
    → Passed classes limits other job
    → check_of classes limits needed job
    ≡ cond (needed && eqb (count_kind byte_i (records_of job)) 0) (refused 9 (length (records_of job))) accepted
unfolding check_of missing
only_initial classes limits needed {job = job} a =
    rw (
      by_records (job_format classes limits) job a.within a.whole,
      sound_unrefused classes limits [] (records_of job) a.sound,
      ne_eqb (count_kind byte_s (records_of job)) 0 (omega (arith, a.start)),
    )

-- a job is accepted exactly where it is `Passed`; number 0 says as much
module _ (classes : ClassTable) (limits : Limits) (needed : Bool) (job : List ℕ) where
  number_passed : (check_of classes limits needed job).number ≡ 0 → Passed classes limits needed job
  unfolding check_of missing
  number_passed e =
      let rs = records_of job in
      let (first, e) = both_pass _ _ e in
      let (within, whole, unrefused) = bytes_passed (job_format classes limits) job first in
      let (start, e) = check_passed_test _ _ _ _ e in
      let (initial, e) = check_passed_test (needed && eqb (count_kind byte_i rs) 0) _ _ _ e in
      record {
        within = within;
        whole = whole;
        sound = unrefused_sound classes limits [] rs (empty_sound classes limits) unrefused;
        start = pos_of_ne-zero (eqb-false _ _ start);
        initial = λ t. pos_of_ne-zero (eqb-false _ _ (rw t at initial));
      }

  pub check_passed : check_of classes limits needed job ≡ accepted → Passed classes limits needed job
  check_passed e = number_passed (ap (λ (c : Checked). c.number) e)

  pub passed_check : Passed classes limits needed job → check_of classes limits needed job ≡ accepted
  passed_check a =
      rw (only_initial classes limits needed a, not_missing needed (count_kind byte_i (records_of job)) a.initial)

-- at the table and the limits of the product this is `Accepted`
passed_accepted : {needed : Bool} {job : List ℕ} → Passed field_classes full_limits needed job → Accepted needed job
passed_accepted p = search (le_antisymm, p.initial)

pub accepted_passed : {needed : Bool} {job : List ℕ} → Accepted needed job → Passed field_classes full_limits needed job
accepted_passed a = search (le_of_eq, sym, a.initial_if_needed)

pub accepted_check : {needed : Bool} {job : List ℕ} → Accepted needed job → job_check needed job ≡ accepted
accepted_check {needed} {job} a = passed_check field_classes full_limits needed job (accepted_passed a)

pub check_accepts_lem : CheckAccepts
check_accepts_lem needed job = (λ e. passed_accepted (check_passed field_classes full_limits needed job e), accepted_check)

pub number_accepted : (needed : Bool) (job : List ℕ) → (job_check needed job).number ≡ 0 → Accepted needed job
number_accepted needed job e = passed_accepted (number_passed field_classes full_limits needed job e)
