-- Refused calls: the checks of records, whatever their format. Assumes nothing.
use Rattle.std.specs.Prelude.{ℕ, ◌/◌, ◌%◌, cond, not, List, [], ◌∷◌, ◌++◌, eqb, ltb, length}

-- what checks say of some bytes: a refusal's number and place
pub record Checked : Type 0 where
  pub number : ℕ
  pub place : ℕ

-- a refusal: the number returned and the place; number 0 and place 0 where nothing is refused
abbrev pub refused : ℕ → ℕ → Checked
refused n p = record { number = n; place = p }

abbrev pub accepted : Checked
accepted = refused 0 0

-- the second where the first refuses nothing
abbrev pub or_else : Checked → Checked → Checked
or_else c d = cond (eqb c.number 0) d c

-- how records of a format are checked: the bytes of a record, the most bytes of all, the records that some bytes hold,
-- the number that refuses a record after those seen, 0 if none, and the place of a refused record by that number, the
-- record's number from 0 and the record
pub record RecordFormat (R : Type 0) : Type 0 where
  pub size : ℕ
  pub most : ℕ
  pub read : List ℕ → List R
  pub fault : List R → R → ℕ
  pub place : ℕ → ℕ → R → ℕ

-- the first record that is refused, after those seen
unfoldable pub first_fault : {R : Type 0} → RecordFormat R → List R → List R → Checked
first_fault f seen [] = accepted
first_fault f seen (r ∷ rs) =
    cond (eqb (f.fault seen r) 0) (first_fault f (seen ++ (r ∷ [])) rs)
    (refused (f.fault seen r) (f.place (f.fault seen r) (length seen) r))

-- Refused calls, 2 and 1, by the most bytes, the bytes of a record and how many bytes there are: too many, or no whole
-- records
unfoldable pub length_check_lem : ℕ → ℕ → ℕ → Checked
length_check_lem most size n =
    cond (ltb most n) (refused 2 n) (cond (not (eqb (n % size) 0)) (refused 1 (n / size)) accepted)

-- Refused calls: 2 comes first, then 1, then the records
unfoldable pub bytes_check : {R : Type 0} → RecordFormat R → List ℕ → Checked
bytes_check f bytes = or_else (length_check_lem f.most f.size (length bytes)) (first_fault f [] (f.read bytes))
