-- What the job that binarize writes is. Assumes nothing.
use Rattle.std.specs.Prelude.{◌≡◌, ◌↔◌, true, List, [], ◌∷◌, ℕ, ◌*◌, take}
use Rattle.grammar.specs.Symbol.{Terminals}
use Rattle.grammar.specs.Rule.{ProductionsOf, Among}
use Rattle.grammar.specs.Derivation.{Derives}
use Rattle.job.specs.Check.{job_check, accepted}
use Rattle.job.specs.Job.{job_of}
use Rattle.long_jobs.specs.Dialect.{long_records_lem}
use Rattle.long_jobs.specs.Fresh.{is_named_lem}
use Rattle.long_jobs.specs.Productions.{LongProductions}
use Rattle.long_jobs.specs.Operation.{binarize_of}

-- the job that a call leaves at the front of its buffer
abbrev pub job_written : List ℕ → List ℕ → List ℕ
job_written longJob out = take (4 * (binarize_of longJob out).answer.records) (binarize_of longJob out).job

-- the call is not refused
abbrev pub Succeeds : List ℕ → List ℕ → Type 0
Succeeds longJob out = (binarize_of longJob out).answer.number ≡ 0

-- Long bodies: each symbol that a long job names derives the same strings of terminals by the long job and by the job
abbrev pub SameStrings : Type 0
SameStrings =
    (longJob out : List ℕ) → Succeeds longJob out → (A : ℕ) → is_named_lem (long_records_lem longJob) A ≡ true →
    (w : List ℕ) → Terminals w →
    Derives (LongProductions (long_records_lem longJob)) (A ∷ []) w
    ↔ Derives (ProductionsOf (Among (job_of (job_written longJob out)).rules)) (A ∷ []) w

-- Long bodies: the job passes every check of start
abbrev pub WrittenAccepted : Type 0
WrittenAccepted =
    (longJob out : List ℕ) → Succeeds longJob out → job_check true (job_written longJob out) ≡ accepted
