-- What a record that is not refused by itself holds: each field is of the class that the table gives for its kind. Two
-- such rules with the same key are the same record. Assumes nothing.
use Rattle.grammar.proofs.Basics.{◌≡◌, refl, ⊎_elim, true, false, Bool, cond, ℕ, ◌<◌, ◌≤◌, ◌+◌, suc, ◌*◌, arith}
use Rattle.grammar.proofs.Basics.{eqb-true, ltb-true, not-false, or_split}
use lib.Dec.{lit≤}
use Rattle.grammar.specs.Rule.{empty, unit, pair}
use Rattle.job.specs.declared.JobRecord.{JobRecord}
use Rattle.job.specs.declared.FieldClass.{FieldClass}
use Rattle.job.specs.declared.FieldClass.TheVariants.{Zero, Variable, Symbol, State}
use Rattle.job.specs.Format.{field_classes, row_of, class_at, in_class_lem, bad_field_lem, is_rule_lem, byte_e, byte_u, byte_p}
use Rattle.job.specs.Job.{rule_of, sort_key_lem}
use Rattle.job.proofs.Members.{record_path}

-- a row of the table, or 7
within : (a : Bool) {x y n : ℕ} → x ≤ n → y ≤ n → cond a x y ≤ n
within true p q = p
within false p q = q

row_within : (k : ℕ) → row_of k ≤ 7
row_within k = search (within, lit≤) depth 9

pub known_row : (k : ℕ) → (row_of k ≡ 7 → ⊥) → row_of k < 7
known_row k n = omega (arith, row_within k)

-- what is 0 passes each test that would make it another number
pub test_passed : (b : Bool) (n m : ℕ) → cond b (suc n) m ≡ 0 → (b ≡ false) × (m ≡ 0)
test_passed true n m e = absurd (omega arith)
test_passed false n m e = (refl, e)

-- what a class says of a number
abbrev Of : FieldClass → ℕ → Type 0
Of Zero x = x ≡ 0
Of Variable x = x < 32
Of Symbol x = x < 64
Of State x = x < 32

of_class : (c : FieldClass) (x : ℕ) → in_class_lem c x ≡ true → Of c x
of_class Zero x e = eqb-true x 0 e
of_class Variable x e = ltb-true x 32 e
of_class Symbol x e = ltb-true x 64 e
of_class State x e = ltb-true x 32 e

-- the fields of a record of kind k are of the classes of that kind
abbrev pub Fits : ℕ → JobRecord → Type 0
Fits k r =
    Of (class_at field_classes (row_of k) 0) r.first × Of (class_at field_classes (row_of k) 1) r.second
    × Of (class_at field_classes (row_of k) 2) r.third

pub fields_fit : (k : ℕ) (r : JobRecord) → bad_field_lem field_classes r ≡ 0 → r.kind ≡ k → Fits k r
unfolding bad_field_lem
fields_fit k r e h =
    let (f, e) = test_passed _ 0 _ (rw h at e) in
    let (s, e) = test_passed _ 1 _ e in
    let (t, e) = test_passed _ 2 0 e in (
      of_class (class_at field_classes (row_of k) 0) _ (not-false _ f),
      of_class (class_at field_classes (row_of k) 1) _ (not-false _ s),
      of_class (class_at field_classes (row_of k) 2) _ (not-false _ t),
    )

-- the three shapes of a rule's record
pub data RuleShape (r : JobRecord) : Type 0 where
  empty_shape : r.kind ≡ byte_e → Fits byte_e r → RuleShape r
  unit_shape : r.kind ≡ byte_u → Fits byte_u r → RuleShape r
  pair_shape : r.kind ≡ byte_p → Fits byte_p r → RuleShape r

pub rule_shape : (r : JobRecord) → bad_field_lem field_classes r ≡ 0 → is_rule_lem r ≡ true → RuleShape r
rule_shape r e h =
    ⊎_elim
    (λ eu. ⊎_elim
    (λ t. let k = eqb-true _ _ t in empty_shape k (fields_fit byte_e r e k))
    (λ t. let k = eqb-true _ _ t in unit_shape k (fields_fit byte_u r e k)) (or_split _ _ eu))
    (λ t. let k = eqb-true _ _ t in pair_shape k (fields_fit byte_p r e k)) (or_split _ _ h)

-- the kind is a byte, and the fields are in range
abbrev pub Bounds : JobRecord → Type 0
Bounds r = (r.kind < 256) × (r.first < 32) × (r.second < 64) × (r.third < 64)

pub shape_bounds : {r : JobRecord} → RuleShape r → Bounds r
shape_bounds (empty_shape k f) = omega arith
shape_bounds (unit_shape k f) = omega arith
shape_bounds (pair_shape k f) = omega arith

-- a number in base 256 has one last digit
last_byte : (x y a b : ℕ) → a < 256 → b < 256 → x * 256 + a ≡ y * 256 + b → (x ≡ y) × (a ≡ b)
last_byte x y a b p q e = omega arith

-- so the key tells rules that fit apart
pub key_apart : (a b : JobRecord) → bad_field_lem field_classes a ≡ 0 → is_rule_lem a ≡ true
    → bad_field_lem field_classes b ≡ 0 → is_rule_lem b ≡ true
    → sort_key_lem a ≡ sort_key_lem b
    → a ≡ b
key_apart a b f p g q e =
    let m = shape_bounds (rule_shape a f p) in
    let n = shape_bounds (rule_shape b g q) in
    let (rest, third) = last_byte _ _ a.third b.third (omega arith) (omega arith) e in
    let (more, second) = last_byte _ _ a.second b.second (omega arith) (omega arith) rest in
    let (first, kind) = last_byte _ _ a.kind b.kind m.0 n.0 more in
    record_path a b kind first second third

-- what a rule's record says
pub says_empty : (r : JobRecord) → r.kind ≡ byte_e → rule_of r ≡ empty r.first
unfolding rule_of
says_empty r k = rw k

pub says_unit : (r : JobRecord) → r.kind ≡ byte_u → rule_of r ≡ unit r.first r.second
unfolding rule_of
says_unit r k = rw k

pub says_pair : (r : JobRecord) → r.kind ≡ byte_p → rule_of r ≡ pair r.first r.second r.third
unfolding rule_of
says_pair r k = rw k
