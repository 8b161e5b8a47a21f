-- What stays where a table of classes is made wider. Assumes nothing.
use Rattle.std.specs.Prelude.{◌≡◌, Bool, true, false, List, [], ◌∷◌, ℕ, set}
use Rattle.job.specs.declared.FieldClass.TheVariants.{Variable}
use Rattle.job.specs.declared.Limits.{Limits}
use Rattle.job.specs.Format.{ClassTable, field_classes, class_at, in_class_lem, row_of, byte_p}
use Rattle.job.specs.Check.{check_of}

-- whatever a field may hold by one table, it may hold by the other
abbrev pub Within : ClassTable → ClassTable → Type 0
Within narrow wide =
    (row field x : ℕ) → in_class_lem (class_at narrow row field) x ≡ true → in_class_lem (class_at wide row field) x ≡ true

-- The job, the narrower table: in the row of P all three are variables, all else is as in the job's table
abbrev pub variable_pairs : ClassTable
variable_pairs = set field_classes (row_of byte_p) (Variable ∷ Variable ∷ Variable ∷ [])

-- The job: its table is wider than that
abbrev pub PairsWidened : Type 0
PairsWidened = Within variable_pairs field_classes

-- The job, the narrower table: a wider table changes the checks of those jobs alone that the narrower one refuses by 4
abbrev pub WiderChecks : Type 0
WiderChecks =
    (narrow wide : ClassTable) → Within narrow wide → (limits : Limits) (job : List ℕ) →
    ((check_of narrow limits false job).number ≡ 4 → ⊥) → (needed : Bool) →
    check_of wide limits needed job ≡ check_of narrow limits needed job
