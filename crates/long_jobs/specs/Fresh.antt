-- Long bodies: the variables that no record names. Assumes nothing.
use Rattle.std.specs.Prelude.{ℕ, zero, suc, Bool, true, false, cond, ◌&&◌, ◌||◌, List, [], ◌∷◌, ◌++◌, eqb}
use Rattle.job.specs.declared.JobRecord.{JobRecord}
use Rattle.job.specs.declared.FieldClass.{FieldClass}
use Rattle.job.specs.declared.FieldClass.TheVariants.{Zero, Variable, Symbol, State}
use Rattle.job.specs.Format.{field_classes, row_of, class_at}
use Rattle.long_jobs.specs.Dialect.{is_long_lem, head_of, body_of, short_of}

-- Long bodies: the fields of these classes name symbols; zero fields and states name none
abbrev pub holds_symbol_lem : FieldClass → Bool
holds_symbol_lem Zero = false
holds_symbol_lem Variable = true
holds_symbol_lem Symbol = true
holds_symbol_lem State = false

-- a field of a class that holds x names v
abbrev pub field_names_lem : FieldClass → ℕ → ℕ → Bool
field_names_lem class x v = holds_symbol_lem class && eqb x v

-- a record of a job names v
unfoldable pub short_names_lem : JobRecord → ℕ → Bool
short_names_lem r v =
    field_names_lem (class_at field_classes (row_of r.kind) 0) r.first v
    || field_names_lem (class_at field_classes (row_of r.kind) 1) r.second v
    || field_names_lem (class_at field_classes (row_of r.kind) 2) r.third v

-- a number stands in a list
unfoldable pub holds : List ℕ → ℕ → Bool
holds [] v = false
holds (x ∷ xs) v = eqb x v || holds xs v

-- Long bodies: an L record names its head and the symbols of its body within the length
unfoldable pub names : List ℕ → ℕ → Bool
names r v = cond (is_long_lem r) (holds (head_of r ∷ body_of r) v) (short_names_lem (short_of r) v)

-- some record names v
unfoldable pub is_named_lem : List (List ℕ) → ℕ → Bool
is_named_lem [] v = false
is_named_lem (r ∷ rs) v = names r v || is_named_lem rs v

-- the numbers below n that no record names, in ascending order
unfoldable pub unnamed_below : List (List ℕ) → ℕ → List ℕ
unnamed_below rs zero = []
unnamed_below rs (suc n) = unnamed_below rs n ++ cond (is_named_lem rs n) [] (n ∷ [])

-- Long bodies: the variables that are free to be taken, lowest first
abbrev pub free_in : List (List ℕ) → List ℕ
free_in rs = unnamed_below rs 32
