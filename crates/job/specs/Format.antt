-- The job: four bytes a record, the kinds, and the class of each field. Assumes nothing.
use Rattle.std.specs.Prelude.{ℕ, Bool, false, cond, not, ◌&&◌, ◌||◌, List, [], ◌∷◌, eqb, ltb, get_or}
use Rattle.job.specs.declared.JobRecord.{JobRecord}
use Rattle.job.specs.declared.FieldClass.{FieldClass}
use Rattle.job.specs.declared.FieldClass.TheVariants.{Zero, Variable, Symbol, State}

-- The job: a record is four bytes, the kind byte and three fields. Up to three bytes past the last whole record are
-- none.
unfoldable pub records_of : List ℕ → List JobRecord
records_of [] = []
records_of (k ∷ []) = []
records_of (k ∷ a ∷ []) = []
records_of (k ∷ a ∷ b ∷ []) = []
records_of (k ∷ a ∷ b ∷ c ∷ rest) = record { kind = k; first = a; second = b; third = c } ∷ records_of rest

-- the bytes of records
unfoldable pub bytes_of : List JobRecord → List ℕ
bytes_of [] = []
bytes_of (r ∷ rs) = r.kind ∷ r.first ∷ r.second ∷ r.third ∷ bytes_of rs

-- a record without meaning, for places past the end of a list
abbrev pub no_record : JobRecord
no_record = record { kind = 0; first = 0; second = 0; third = 0 }

-- the kind bytes E, U, P, T, I, F and S
abbrev pub byte_e : ℕ
byte_e = 69

abbrev pub byte_u : ℕ
byte_u = 85

abbrev pub byte_p : ℕ
byte_p = 80

abbrev pub byte_t : ℕ
byte_t = 84

abbrev pub byte_i : ℕ
byte_i = 73

abbrev pub byte_f : ℕ
byte_f = 70

abbrev pub byte_s : ℕ
byte_s = 83

-- the row of a kind byte in the table of kinds; 7 for an unknown one
abbrev pub row_of : ℕ → ℕ
row_of k =
    cond (eqb k byte_e) 0
    (cond (eqb k byte_u) 1
    (cond (eqb k byte_p) 2
    (cond (eqb k byte_t) 3 (cond (eqb k byte_i) 4 (cond (eqb k byte_f) 5 (cond (eqb k byte_s) 6 7))))))

-- a table of classes: a row for each kind, with the class of each of its three fields
abbrev pub ClassTable : Type 0
ClassTable = List (List FieldClass)

-- The job: the classes of the seven kinds
abbrev pub field_classes : ClassTable
field_classes =
    (Variable ∷ Zero ∷ Zero ∷ [])
    ∷ (Variable ∷ Symbol ∷ Zero ∷ [])
    ∷ (Variable ∷ Symbol ∷ Symbol ∷ [])
    ∷ (State ∷ Symbol ∷ State ∷ [])
    ∷ (State ∷ Zero ∷ Zero ∷ [])
    ∷ (State ∷ Zero ∷ Zero ∷ [])
    ∷ (Variable ∷ Zero ∷ Zero ∷ [])
    ∷ []

-- the class of field 0, 1 or 2 in a row of a table
abbrev pub class_at : ClassTable → ℕ → ℕ → FieldClass
class_at classes row field = get_or (get_or classes row []) field Zero

-- The job: variables are 0 to 31, terminals 32 to 63, and a symbol is either; states are 0 to 31
abbrev pub in_class_lem : FieldClass → ℕ → Bool
in_class_lem Zero x = eqb x 0
in_class_lem Variable x = ltb x 32
in_class_lem Symbol x = ltb x 64
in_class_lem State x = ltb x 32

-- the first field, 1 to 3, that is not of the class that a table gives it; 0 for none
unfoldable pub bad_field_lem : ClassTable → JobRecord → ℕ
bad_field_lem classes r =
    cond (not (in_class_lem (class_at classes (row_of r.kind) 0) r.first)) 1
    (cond (not (in_class_lem (class_at classes (row_of r.kind) 1) r.second)) 2
    (cond (not (in_class_lem (class_at classes (row_of r.kind) 2) r.third)) 3 0))

-- The job: records of the kinds E, U and P are rules
abbrev pub is_rule_lem : JobRecord → Bool
is_rule_lem r = eqb r.kind byte_e || eqb r.kind byte_u || eqb r.kind byte_p

-- the same four bytes
abbrev pub same : JobRecord → JobRecord → Bool
same a b =
    eqb a.kind b.kind && eqb a.first b.first && eqb a.second b.second && eqb a.third b.third

-- the record stands in the list
unfoldable pub has : List JobRecord → JobRecord → Bool
has [] r = false
has (x ∷ xs) r = same x r || has xs r
