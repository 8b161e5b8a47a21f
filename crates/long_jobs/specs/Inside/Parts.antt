-- What single functions of the conversion take and give. Assumes nothing.
use Rattle.std.specs.Prelude.{◌≡◌, cond, ◌&&◌, List, [], ◌∷◌, ℕ, ◌+◌, ◌*◌, ◌<◌, ◌≤◌, eqb, leb, length, get_or, take}
use Rattle.std.specs.Prelude.{Result, IfOk}
use Rattle.job.specs.declared.Refusal.{Refusal}
use Rattle.job.specs.declared.JobRecord.{JobRecord}
use Rattle.job.specs.declared.Tally.{Tally}
use Rattle.job.specs.Format.{records_of, is_rule_lem, has}
use Rattle.job.specs.Records.{Checked, refused, accepted}
use Rattle.job.specs.Check.{count_rules}
use Rattle.job.specs.Refusals.{checked_of}
use Rattle.job.specs.Job.{empty_record, unit_record}
use Rattle.job.specs.Inside.Walk.{is_second_by}
use Rattle.long_jobs.specs.declared.Progress.{Progress}
use Rattle.long_jobs.specs.declared.WalkState.{WalkState}
use Rattle.long_jobs.specs.Dialect.{short_of}
use Rattle.long_jobs.specs.Check.{form_fault_lem}
use Rattle.long_jobs.specs.Convert.{Conversion}
use Rattle.long_jobs.specs.Walk.{convert_fault, walked}

-- no record is refused by itself
abbrev pub AllFormed : List (List ℕ) → Type 0
AllFormed rs = (i : ℕ) → i < length rs → form_fault_lem (get_or rs i []) ≡ 0

-- refusals 3, 4, 15 and 6 of a record after those counted, 0 if none
unfoldable pub fault_after : Tally → List ℕ → ℕ
fault_after t r = cond (eqb (form_fault_lem r) 0) (cond (is_second_by t (short_of r)) 6 0) (form_fault_lem r)

-- an array of 64 numbers has those of a list in front, as many as n, and zeros past them
pub record InFront (array : List ℕ) (n : ℕ) (xs : List ℕ) : Type 0 where
  pub size : length array ≡ 64
  pub counted : n ≡ length xs
  pub alike : (k : ℕ) → get_or array k 0 ≡ get_or xs k 0

-- the buffer that records are written to until a refusal: one for each of 4,096 records that is no rule, 256 rules,
-- and the 7 that one record is written as at most
abbrev pub written_records : ℕ
written_records = 4359

abbrev pub written_size : ℕ
written_size = 17436

-- the first n records of a buffer
abbrev pub first_records : ℕ → List ℕ → List JobRecord
first_records n out = records_of (take (4 * n) out)

-- the conversion that the code's numbers and buffer say
abbrev pub conversion_of : Progress → List ℕ → Conversion
conversion_of p out = record { taken = p.taken; written = first_records p.count out }

-- the buffer has its size, and there is room for what one record takes at most: 6 variables and 7 records
pub record Room (p : Progress) (out : List ℕ) : Type 0 where
  pub out_size : length out ≡ written_size
  pub variables_left : p.taken + 6 ≤ 64
  pub records_left : p.count + 7 ≤ written_records

-- what the code's numbers and buffer say now is a conversion, and no more came to those of before than a record takes
pub record Reached (before p : Progress) (out : List ℕ) (c : Conversion) : Type 0 where
  pub is : conversion_of p out ≡ c
  pub out_size : length out ≡ written_size
  pub taken_more : p.taken ≤ before.taken + 6
  pub count_more : p.count ≤ before.count + 7

-- where the second walk stands before record i: the rules are counted, and at most i other records are written
pub record Underway (free i : ℕ) (s : WalkState) (out : List ℕ) : Type 0 where
  pub out_size : length out ≡ written_size
  pub free_few : free ≤ 32
  pub taken_few : s.progress.taken ≤ free
  pub rules : s.rules ≡ count_rules (first_records s.progress.count out)
  pub rules_few : s.rules ≤ 256
  pub count_few : s.progress.count ≤ s.rules + i

-- a record's refusal by a number, 0 for none
abbrev pub refused_there : ℕ → ℕ → Checked
refused_there number i = cond (eqb number 0) accepted (refused number i)

-- and what the step with record i gives: a refusal or, where there is none, the conversion after the record
pub record Stepped (free i : ℕ) (before after : Conversion) (step : Result WalkState Refusal) (out : List ℕ) :
    Type 0 where
  pub refusal : checked_of step ≡ refused_there (convert_fault free before after) i
  pub is : IfOk step (λ s. conversion_of s.progress out ≡ after)
  pub underway : IfOk step (λ s. Underway free (i + 1) s out)

-- what the second walk gives: a refusal or, where there is none, how many records are written
pub record WalkedTo (rs : List (List ℕ)) (w : Result ℕ Refusal) (out : List ℕ) : Type 0 where
  pub out_size : length out ≡ written_size
  pub refusal : checked_of w ≡ (walked rs).refusal
  pub written : IfOk w (λ count. first_records count out ≡ (walked rs).written)
  pub few : IfOk w (λ count. count ≤ 4352)

-- 5 or 7 for one record, after those seen and so many rules; 0 if neither
abbrev pub fault_of : List JobRecord → ℕ → JobRecord → ℕ
fault_of seen rules r = cond (has seen r) 5 (cond (is_rule_lem r && leb 256 rules) 7 0)

-- the rule of a body of none or one
abbrev pub short_rule_lem : ℕ → List ℕ → JobRecord
short_rule_lem A [] = empty_record A
short_rule_lem A (X ∷ β) = unit_record A X
