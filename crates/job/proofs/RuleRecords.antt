-- The record of a rule: it is a rule's, it fits where the rule is in range, and the two say each other. Assumes
-- nothing.
use Rattle.grammar.proofs.Basics.{◌≡◌, refl, sym, true, ◌<◌, arith, lt-ltb}
use Rattle.grammar.specs.Rule.{Rule, empty, unit, pair}
use Rattle.job.specs.declared.JobRecord.{JobRecord}
use Rattle.job.specs.Format.{field_classes, row_of, bad_field_lem, is_rule_lem}
use Rattle.job.specs.Job.{rule_of, record_of_lem}
use Rattle.job.specs.Theorems.InRange.{RuleInRange}
use Rattle.job.proofs.Members.{record_path}
use Rattle.job.proofs.Shapes.{RuleShape, empty_shape, unit_shape, pair_shape, says_empty, says_unit, says_pair}

pub record_rule : (ρ : Rule) → (is_rule_lem (record_of_lem ρ) ≡ true) × (rule_of (record_of_lem ρ) ≡ ρ)
unfolding rule_of
record_rule (empty A) = (refl, refl)
record_rule (unit A X) = (refl, refl)
record_rule (pair A X Y) = (refl, refl)

-- the kind is known and the fields are of their classes
pub record_fits : (ρ : Rule) → RuleInRange ρ →
    (row_of (record_of_lem ρ).kind < 7) × (bad_field_lem field_classes (record_of_lem ρ) ≡ 0)
unfolding bad_field_lem
record_fits (empty A) r = (omega arith, rw (lt-ltb A 32 r))
record_fits (unit A X) r = (omega arith, rw (lt-ltb A 32 r.0, lt-ltb X 64 r.1))
record_fits (pair A X Y) r = (omega arith, rw (lt-ltb A 32 r.0, lt-ltb X 64 r.1, lt-ltb Y 64 r.2))

-- the record of what a rule's record says is that record
pub record_again : {r : JobRecord} → RuleShape r → record_of_lem (rule_of r) ≡ r
record_again {r} (empty_shape k f) = rw (says_empty r k) (search (record_path, sym))
record_again {r} (unit_shape k f) = rw (says_unit r k) (search (record_path, sym))
record_again {r} (pair_shape k f) = rw (says_pair r k) (search (record_path, sym))
