-- Long bodies: the second walk over a long job's records, which converts them and refuses by 14, 5 and 7. Assumes nothing.
use Rattle.std.specs.Prelude.{ℕ, suc, cond, ◌&&◌, List, [], ◌∷◌, ◌++◌, eqb, ltb, leb, length, get_or, take, drop}
use Rattle.job.specs.declared.JobRecord.{JobRecord}
use Rattle.job.specs.Records.{Checked}
use Rattle.job.specs.Format.{is_rule_lem, has}
use Rattle.job.specs.Check.{refused, accepted, count_rules}
use Rattle.long_jobs.specs.Fresh.{free_in}
use Rattle.long_jobs.specs.Convert.{Conversion, convert}

-- Long bodies, 5 and 7: the first of some records that stands already, or is the 257th rule, after those seen
unfoldable pub written_fault_lem : List JobRecord → List JobRecord → ℕ
written_fault_lem seen [] = 0
written_fault_lem seen (r ∷ rs) =
    cond (has seen r) 5
    (cond (is_rule_lem r && leb 256 (count_rules seen)) 7 (written_fault_lem (seen ++ (r ∷ [])) rs))

-- 5 and 7 for the records of a list from the n-th on
abbrev pub fault_from : ℕ → List JobRecord → ℕ
fault_from n rs = written_fault_lem (take n rs) (drop n rs)

-- Long bodies: 14, more variables are taken than are free, is tried for all that a record takes before its 5 and 7. By
-- how many are free, and the conversion before and after the record; 0 if none
unfoldable pub convert_fault : ℕ → Conversion → Conversion → ℕ
convert_fault free before after =
    cond (ltb free after.taken) 14 (fault_from (length before.written) after.written)

-- what the walk comes to: a refusal, and the records written until then
pub record Walked : Type 0 where
  pub refusal : Checked
  pub written : List JobRecord

-- the walk over the records from number i on, with so many free variables, given in turn
unfoldable pub convert_all : ℕ → (ℕ → ℕ) → ℕ → List (List ℕ) → Conversion → Walked
convert_all free fresh i [] c = record { refusal = accepted; written = c.written }
convert_all free fresh i (r ∷ rs) c =
    cond (eqb (convert_fault free c (convert fresh r c)) 0) (convert_all free fresh (suc i) rs (convert fresh r c))
    (record { refusal = refused (convert_fault free c (convert fresh r c)) i; written = c.written })

-- Long bodies: at first nothing is taken or written
abbrev pub none_converted : Conversion
none_converted = record { taken = 0; written = [] }

-- the numbers of a list in turn, and 0 past the last; there 14 refuses
abbrev pub next_free : List ℕ → ℕ → ℕ
next_free xs k = get_or xs k 0

-- the walk over a whole long job
unfoldable pub walked : List (List ℕ) → Walked
walked rs = convert_all (length (free_in rs)) (next_free (free_in rs)) 0 rs none_converted
