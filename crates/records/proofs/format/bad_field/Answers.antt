-- `format::bad_field`: the three tests are the definition's, at the row of the kind. Assumes nothing.
use Rattle.grammar.proofs.Basics.{◌≡◌, true, false, Bool, not, ℕ}
use Rattle.job.specs.declared.JobRecord.{JobRecord}
use Rattle.job.specs.Format.{field_classes, row_of, class_at, in_class_lem, bad_field_lem}
use Rattle.records.proofs.format.bad_field.Goals as goal

module _ (r : JobRecord) (row : ℕ) (is : row_of r.kind ≡ row) (f : Bool)
    (first : f ≡ in_class_lem (class_at field_classes row 0) r.first) where
  first_bad : not f ≡ true → 1 ≡ bad_field_lem field_classes r
  unfolding bad_field_lem
  first_bad e = rw (is, ← first, e)

  module _ (p : not f ≡ false) (s : Bool) (second : s ≡ in_class_lem (class_at field_classes row 1) r.second) where
    second_bad : not s ≡ true → 2 ≡ bad_field_lem field_classes r
    unfolding bad_field_lem
    second_bad e = rw (is, ← first, p, ← second, e)

    module _ (q : not s ≡ false) (t : Bool) (third : t ≡ in_class_lem (class_at field_classes row 2) r.third) where
      third_bad : not t ≡ true → 3 ≡ bad_field_lem field_classes r
      unfolding bad_field_lem
      third_bad e = rw (is, ← first, p, ← second, q, ← third, e)

      none_bad : not t ≡ false → 0 ≡ bad_field_lem field_classes r
      unfolding bad_field_lem
      none_bad e = rw (is, ← first, p, ← second, q, ← third, e)

ruleset ways = (first_bad, second_bad, third_bad, none_bad)

pub returns-then-not-field_fits : goal.returns-then-not-field_fits
returns-then-not-field_fits c = record { field = search ways }

pub returns-then-not-field_fits-2 : goal.returns-then-not-field_fits-2
returns-then-not-field_fits-2 c = record { field = search ways }

pub returns-then-not-field_fits-3 : goal.returns-then-not-field_fits-3
returns-then-not-field_fits-3 c = record { field = search ways }

pub returns : goal.returns
returns c = record { field = search ways }
