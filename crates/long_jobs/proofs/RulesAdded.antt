-- Rules that fit, such as an L record is split into, written behind other records: where 5 and 7 refuse none of them,
-- sound records stay sound. By recursion on the rules. Assumes nothing.
use Rattle.grammar.proofs.Basics.{◌≡◌, refl, true, false, ◌&&◌, List, ◌∷◌, [], ◌++◌, append-nil, append_assoc, ℕ, ◌<◌}
use Rattle.grammar.proofs.Basics.{arith, eqb, leb}
use Rattle.grammar.specs.Rule.{Rule, empty, unit, pair}
use Rattle.job.specs.declared.JobRecord.{JobRecord}
use Rattle.job.specs.Format.{field_classes, row_of, bad_field_lem, is_rule_lem, has, byte_i, byte_s}
use Rattle.job.specs.Check.{full_limits, count_rules, is_second_lem, fault}
use Rattle.job.specs.Job.{record_of_lem}
use Rattle.job.specs.Theorems.InRange.{RuleInRange}
use Rattle.job.proofs.Shapes.{test_passed}
use Rattle.job.proofs.RuleRecords.{record_rule, record_fits}
use Rattle.job.proofs.Sound.{Sound}
use Rattle.job.proofs.Accepted.{grows_behind}
use Rattle.long_jobs.proofs.RuleKinds.{for_rule}
use Rattle.long_jobs.proofs.Adds.{Each, none, more, Shapes}
use Rattle.long_jobs.specs.Walk.{written_fault_lem}

-- the record of a rule whose fields fit
pub record FittingRule (x : JobRecord) : Type 0 where
  pub rule : is_rule_lem x ≡ true
  pub fitting : bad_field_lem field_classes x ≡ 0

-- such is that of a rule in range
rule_fits : (ρ : Rule) → RuleInRange ρ → FittingRule (record_of_lem ρ)
rule_fits ρ r = record { rule = (record_rule ρ).0; fitting = (record_fits ρ r).1 }

-- so the rules of a split body fit, where the numbers that are given in turn are variables
pub shapes_fit : {fresh : ℕ → ℕ} → ((k : ℕ) → fresh k < 32) → Shapes FittingRule fresh (λ A. A < 32) (λ X. X < 64)
shapes_fit variable =
    record {
      fresh_head = variable;
      fresh_symbol = λ k. omega (arith, variable k);
      of_none = λ A. rule_fits (empty A);
      of_one = λ A X a x. rule_fits (unit A X) (a, x);
      of_two = λ A X Y a x y. rule_fits (pair A X Y) (a, x, y);
    }

-- what 5 and 7 have passed
pub writes_on : (seen : List JobRecord) (x : JobRecord) (xs : List JobRecord) → written_fault_lem seen (x ∷ xs) ≡ 0
    → (has seen x ≡ false) × ((is_rule_lem x && leb 256 (count_rules seen)) ≡ false)
    × (written_fault_lem (seen ++ (x ∷ [])) xs ≡ 0)
unfolding written_fault_lem
writes_on seen x xs e =
    let (old, e) = test_passed _ 4 _ e in
    let (full, e) = test_passed _ 6 _ e in
    (old, full, e)

-- a record that passes 3, 4 and 6 besides keeps what is written sound
pub one_more_sound : {seen : List JobRecord} (x : JobRecord) → Sound field_classes full_limits seen
    → eqb (row_of x.kind) 7 ≡ false → bad_field_lem field_classes x ≡ 0
    → has seen x ≡ false → is_second_lem seen x ≡ false → (is_rule_lem x && leb 256 (count_rules seen)) ≡ false
    → Sound field_classes full_limits (seen ++ (x ∷ []))
unfolding fault
one_more_sound x s known fits old second full =
    grows_behind field_classes full_limits _ x s (rw (known, fits, old, second, full))

-- so do rules that fit
pub rules_sound : {seen new : List JobRecord} → Sound field_classes full_limits seen → Each FittingRule new
    → written_fault_lem seen new ≡ 0 → Sound field_classes full_limits (seen ++ new)
rules_sound s none e = rw append-nil s
rules_sound {seen} s (more {x} {xs} f fs) e =
    let (old, full, e) = writes_on seen x xs e in
    let known = for_rule (λ k. eqb (row_of k) 7 ≡ false) x f.rule refl refl refl in
    let start = for_rule (λ k. eqb k byte_s ≡ false) x f.rule refl refl refl in
    let initial = for_rule (λ k. eqb k byte_i ≡ false) x f.rule refl refl refl in
    rw append_assoc at (rules_sound (one_more_sound x s known f.fitting old (rw (start, initial)) full) fs e)
