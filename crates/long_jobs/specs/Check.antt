-- Long bodies: the first walk over a long job's records, refusals 3, 4, 15 and 6, and what comes before it. Assumes
-- nothing.
use Rattle.std.specs.Prelude.{ℕ, Bool, cond, not, ◌&&◌, ◌||◌, List, map, eqb, ltb}
use Rattle.job.specs.Records.{Checked}
use Rattle.job.specs.Format.{field_classes, row_of, bad_field_lem}
use Rattle.job.specs.Records.{RecordFormat, bytes_check}
use Rattle.job.specs.Check.{is_second_lem}
use Rattle.long_jobs.specs.Dialect.{long_records_lem, kind_of, is_long_lem, head_of, length_byte, body_of, short_of, padding_of}
use Rattle.long_jobs.specs.Dialect.{all_below}

-- Long bodies, 3: the kind byte is neither L nor one of a job's
abbrev pub is_unknown_lem : List ℕ → Bool
is_unknown_lem r = not (is_long_lem r) && eqb (row_of (kind_of r)) 7

-- Long bodies, 4: in L the head is no variable or a byte of the body no symbol; else a field is outside its class
unfoldable pub is_misfit_lem : List ℕ → Bool
is_misfit_lem r =
    cond (is_long_lem r) (not (ltb (head_of r) 32 && all_below 64 (body_of r)))
    (not (eqb (bad_field_lem field_classes (short_of r)) 0))

-- Long bodies, 15: a length over 8, or a padding or closing byte that is not zero, which is to say not below 1
unfoldable pub is_ill_padded_lem : List ℕ → Bool
is_ill_padded_lem r = is_long_lem r && ltb 8 (length_byte r) || not (all_below 1 (padding_of r))

-- refusals 3, 4 and 15 of a record, 0 if none
unfoldable pub form_fault_lem : List ℕ → ℕ
form_fault_lem r = cond (is_unknown_lem r) 3 (cond (is_misfit_lem r) 4 (cond (is_ill_padded_lem r) 15 0))

-- Long bodies: in the first walk each record is tried for 3, 4, 15 and 6, in this order, before the next. The number
-- that refuses a record after those seen, 0 if none. 6 is a job's: L is neither S nor I
unfoldable pub fault : List (List ℕ) → List ℕ → ℕ
fault seen r = cond (eqb (form_fault_lem r) 0) (cond (is_second_lem (map short_of seen) (short_of r)) 6 0) (form_fault_lem r)

-- the place of a refused record, by the refusal's number, the record's number from 0 and the record
unfoldable pub long_place : ℕ → ℕ → List ℕ → ℕ
long_place number index r = index

-- Long bodies: twelve bytes a record, at most 49,152 of them
abbrev pub long_format : RecordFormat (List ℕ)
long_format = record { size = 12; most = 49152; read = long_records_lem; fault = fault; place = long_place }

-- Long bodies: 2 comes first, then 1, then the first walk
abbrev pub long_check_lem : List ℕ → Checked
long_check_lem = bytes_check long_format
