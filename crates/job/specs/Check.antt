-- Refused calls: short buffers, 10 and 13, and the checks of a job's bytes, 1 to 9. Assumes nothing.
use Rattle.std.specs.Prelude.{ℕ, ◌+◌, ◌*◌, Bool, cond, not, ◌&&◌, ◌||◌, List, [], ◌∷◌, eqb, ltb, leb, length}
use Rattle.grammar.specs.Counting.{one_if_lem}
use Rattle.job.specs.declared.JobRecord.{JobRecord}
use Rattle.job.specs.declared.Limits.{Limits}
use Rattle.job.specs.declared.Level.{Level}
use Rattle.job.specs.declared.Level.TheVariants.{Full}
use Rattle.job.specs.Records.{Checked}
use Rattle.job.specs.Format.{ClassTable, field_classes, records_of, row_of, bad_field_lem, is_rule_lem, has, byte_i, byte_s}
use Rattle.job.specs.Records.{RecordFormat, bytes_check}
pub use Rattle.job.specs.Records.{refused, accepted, or_else}

-- The job: at most 256 rules
abbrev pub full_limits : Limits
full_limits = record { rules = 256 }

-- the limits that go with a level
abbrev pub limits_of_lem : Level → Limits
limits_of_lem Full = full_limits

-- Refused calls, 10: a lent buffer that is too short, by its length, the length needed and its place
abbrev pub short_buffer_lem : ℕ → ℕ → ℕ → Checked
short_buffer_lem long needed place = cond (ltb long needed) (refused 10 place) accepted

-- the places: 1 table, 2 reasons, 3 codes
abbrev pub short_table : List ℕ → Checked
short_table table = short_buffer_lem (length table) 65536 1

abbrev pub short_reasons : List ℕ → Checked
short_reasons reasons = short_buffer_lem (length reasons) 32768 2

abbrev pub short_codes : List ℕ → Checked
short_codes codes = short_buffer_lem (length codes) 64 3

-- Refused calls, 13, where records are written: the buffer is shorter than they are. By how many they are and how long
-- the buffer is.
unfoldable pub room_check : ℕ → ℕ → Checked
room_check records room = cond (ltb room (4 * records)) (refused 13 records) accepted

-- how many records have a kind
unfoldable pub count_kind : ℕ → List JobRecord → ℕ
count_kind k [] = 0
count_kind k (r ∷ rs) = one_if_lem (eqb r.kind k) + count_kind k rs

-- how many records are rules
unfoldable pub count_rules : List JobRecord → ℕ
count_rules [] = 0
count_rules (r ∷ rs) = one_if_lem (is_rule_lem r) + count_rules rs

-- Refused calls, 6: an S after an S, or an I after an I
abbrev pub is_second_lem : List JobRecord → JobRecord → Bool
is_second_lem seen r =
    eqb r.kind byte_s && ltb 0 (count_kind byte_s seen) || eqb r.kind byte_i && ltb 0 (count_kind byte_i seen)

-- Refused calls: each record is tried for 3 to 7, in this order, before the next record. The number that refuses a
-- record after those seen, 0 if none: 3 an unknown kind byte; 4 a field outside its class; 5 the same four bytes
-- earlier; 6 a second S or I; 7 one rule more than the limit
unfoldable pub fault : ClassTable → Limits → List JobRecord → JobRecord → ℕ
fault classes limits seen r =
    cond (eqb (row_of r.kind) 7) 3
    (cond (not (eqb (bad_field_lem classes r) 0)) 4
    (cond (has seen r) 5
    (cond (is_second_lem seen r) 6 (cond (is_rule_lem r && leb limits.rules (count_rules seen)) 7 0))))

-- the place of a refused record, by the refusal's number, the record's number from 0 and the record
unfoldable pub record_place : ℕ → ℕ → JobRecord → ℕ
record_place number index r = index

-- The job: four bytes a record, at most 16,384 of them, checked by a table of classes and limits
abbrev pub job_format : ClassTable → Limits → RecordFormat JobRecord
job_format classes limits =
    record { size = 4; most = 16384; read = records_of; fault = fault classes limits; place = record_place }

-- Refused calls, 8 and 9, on records of which none is refused: no S, and no I where one is needed
unfoldable pub missing : Bool → List JobRecord → Checked
missing needed rs =
    cond (eqb (count_kind byte_s rs) 0) (refused 8 (length rs))
    (cond (needed && eqb (count_kind byte_i rs) 0) (refused 9 (length rs)) accepted)

-- checks of a job, by whether an I is needed and by the job's bytes
abbrev pub Checks : Type 0
Checks = Bool → List ℕ → Checked

-- Refused calls: 1 to 7 come first, then 8 and 9, by a table of classes and limits
unfoldable pub check_of : ClassTable → Limits → Checks
check_of classes limits needed job = or_else (bytes_check (job_format classes limits) job) (missing needed (records_of job))

-- Refused calls, 1 to 9: by the table of The job and the limits of a level
abbrev pub level_check : Level → Checks
level_check level = check_of field_classes (limits_of_lem level)

-- and by the limits of The job
abbrev pub job_check : Checks
job_check = level_check Full
