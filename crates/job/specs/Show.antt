-- Refused calls: showing the refused record. Assumes nothing.
use Rattle.std.specs.Prelude.{ℕ, ◌*◌, cond, false, ◌&&◌, List, leb, take, drop}
use Rattle.job.specs.Records.{Checked}
use Rattle.job.specs.declared.Part.{Part}
use Rattle.job.specs.Check.{job_check}

-- the part of a job that a check's answer names: the four bytes of the record that is refused by 3 to 7, else none
unfoldable pub part_of_lem : Checked → Part
part_of_lem c =
    cond (leb 3 c.number && leb c.number 7) (record { offset = 4 * c.place; length = 4 })
    (record { offset = 0; length = 0 })

-- Refused calls: showing repeats the verdicts' check of the job, which needs no I, and names the part that it refuses
unfoldable pub shown_part_lem : List ℕ → Part
shown_part_lem job = part_of_lem (job_check false job)

-- and gives the bytes of that part
unfoldable pub shown_of : List ℕ → List ℕ
shown_of job = take (shown_part_lem job).length (drop (shown_part_lem job).offset job)
