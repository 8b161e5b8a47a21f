-- What the copy that clean writes is. Each statement is the contract of a function of src/theorems.rt, so it is
-- proved. Assumes nothing.
use Rattle.std.specs.Prelude.{◌≡◌, ◌↔◌, false, List, [], ◌∷◌, ℕ, ◌*◌, ◌≤◌, length, take}
use Rattle.grammar.specs.Rule.{Among}
use Rattle.grammar.specs.Language.{Language}
use Rattle.job.specs.Format.{records_of, byte_s}
use Rattle.job.specs.Check.{job_check, accepted}
use Rattle.job.specs.Job.{job_of, sorted_rules_lem, start_record}
use Rattle.job.specs.Order.{SameGrammar}
use Rattle.copies.specs.Operation.{clean_of}

-- the copy that a call leaves at the front of its buffer
abbrev pub copy_of : List ℕ → List ℕ → List ℕ
copy_of job out = take (4 * (clean_of job out).answer.records) (clean_of job out).out

-- the call is not refused
abbrev pub Succeeds : List ℕ → List ℕ → Type 0
Succeeds job out = (clean_of job out).answer.number ≡ 0

-- the language of a job, which is that of its rules and its start symbol
abbrev pub LanguageOf : List ℕ → List ℕ → Type 0
LanguageOf job = Language (Among (job_of job).rules) (job_of job).start

-- Clean copies: a copy has at most 257 records, so that where 1,028 bytes are lent, no accepted job is refused
abbrev pub CopyFits : Type 0
CopyFits = (job out : List ℕ) → job_check false job ≡ accepted → 1028 ≤ length out → Succeeds job out

-- Clean copies: the copy passes the checks of the verdicts, so that no record stands twice
abbrev pub CopyAccepted : Type 0
CopyAccepted = (job out : List ℕ) → Succeeds job out → job_check false (copy_of job out) ≡ accepted

-- Clean copies: it is S and then rules, which stand in the order of their ranks in the copy
abbrev pub CopyInOrder : Type 0
CopyInOrder =
    (job out : List ℕ) → Succeeds job out →
    records_of (copy_of job out)
    ≡ start_record (job_of (copy_of job out)).start ∷ sorted_rules_lem (records_of (copy_of job out))

-- Clean copies: its start symbol derives the terminal strings that the job's does
abbrev pub SameLanguage : Type 0
SameLanguage =
    (job out : List ℕ) → Succeeds job out → (w : List ℕ) → LanguageOf job w ↔ LanguageOf (copy_of job out) w

-- Clean copies: of an empty language the copy is S 0 0 0 alone
abbrev pub EmptyCopy : Type 0
EmptyCopy =
    (job out : List ℕ) → Succeeds job out → ((w : List ℕ) → LanguageOf job w → ⊥) →
    copy_of job out ≡ byte_s ∷ 0 ∷ 0 ∷ 0 ∷ []

-- Clean copies: the copy of a copy, in any buffer that it fits into, is answered alike and has the same bytes
abbrev pub CopyOfCopy : Type 0
CopyOfCopy =
    (job out again : List ℕ) → Succeeds job out → length (copy_of job out) ≤ length again →
    ((clean_of (copy_of job out) again).answer ≡ (clean_of job out).answer)
    × (copy_of (copy_of job out) again ≡ copy_of job out)

-- Clean copies: two accepted jobs with the same grammar, and buffers as long as each other, give the same answer and
-- the same bytes
abbrev pub CopiesAlike : Type 0
CopiesAlike =
    (a b out other : List ℕ) → job_check false a ≡ accepted → job_check false b ≡ accepted → SameGrammar a b →
    length out ≡ length other →
    ((clean_of a out).answer ≡ (clean_of b other).answer) × (copy_of a out ≡ copy_of b other)
