-- The whole outcome of reading an ABNF text, for every input. Assumes nothing.
use Rattle.std.specs.Prelude.{ℕ, ◌*◌, cond, List, ◌++◌, eqb, ltb, length, drop}
use Rattle.job.specs.Records.{Checked}
use Rattle.job.specs.Format.{bytes_of}
use Rattle.job.specs.Records.{refused, accepted, or_else}
use Rattle.job.specs.Check.{short_buffer_lem, room_check}
use Rattle.abnf.specs.declared.Edition.{Edition}
use Rattle.abnf.specs.declared.Fault.{Fault}
use Rattle.abnf.specs.declared.Fault.TheVariants.{Nothing, At}
use Rattle.abnf.specs.Text.{Line}
use Rattle.abnf.specs.Reading.{fault_of, lines_of}
use Rattle.abnf_jobs.specs.Answers.{TextRead}
use Rattle.abnf_jobs.specs.Names.{name_fault_of}
use Rattle.abnf_jobs.specs.Characters.{characters_used, mapped}
use Rattle.abnf_jobs.specs.Roles.{roles_of}
use Rattle.abnf_jobs.specs.Rules.{distinct_rules, records_of_lines}

-- Refused calls, 2: a text of more than 16,384 bytes, by how many there are
abbrev pub text_check_lem : ℕ → Checked
text_check_lem n = cond (ltb 16384 n) (refused 2 n) accepted

-- a refusal by this number at a fault's offset
abbrev pub fault_check_lem : ℕ → Fault → Checked
fault_check_lem number Nothing = accepted
fault_check_lem number (At at) = refused number at

-- ABNF text as a job, 18: more variables, or else more characters, than there are numbers; by how many are needed
abbrev pub numbers_check_lem : ℕ → ℕ → Checked
numbers_check_lem variables characters =
    cond (ltb 32 variables) (refused 18 1) (cond (ltb 32 characters) (refused 18 2) accepted)

-- ABNF text as a job, 7: a 257th rule
abbrev pub rules_check_lem : ℕ → Checked
rules_check_lem rules = cond (ltb 256 rules) (refused 7 257) accepted

-- ABNF text as a job: 18, 7 and 13, by what the text says and how long the buffer is
unfoldable pub lines_check : List Line → ℕ → Checked
lines_check lines room =
    or_else (numbers_check_lem (length (roles_of lines)) (length (characters_used lines)))
    (or_else (rules_check_lem (length (distinct_rules lines))) (room_check (length (records_of_lines lines)) room))

-- ABNF text as a job: the checks in their order: 10, 2, 16, 17, 18, 7, 13
unfoldable pub read_check : Edition → List ℕ → List ℕ → List ℕ → Checked
read_check e text map job =
    or_else (short_buffer_lem (length map) 32 3)
    (or_else (text_check_lem (length text))
    (or_else (fault_check_lem 16 (fault_of e text))
    (or_else (fault_check_lem 17 (name_fault_of e text)) (lines_check (lines_of e text) (length job)))))

-- what a call leaves: the answer, the map and the buffer
pub record ReadOutcome : Type 0 where
  pub answer : TextRead
  pub map : List ℕ
  pub job : List ℕ

abbrev pub read_leaves : TextRead → List ℕ → List ℕ → ReadOutcome
read_leaves answer map job = record { answer = answer; map = map; job = job }

-- Refused calls: with a refusal no record and no character is written
abbrev pub refusal : Checked → TextRead
refusal c = record { number = c.number; place = c.place; records = 0; characters = 0 }

-- and nothing lent changes
abbrev pub read_refused : Checked → List ℕ → List ℕ → ReadOutcome
read_refused c map job = read_leaves (refusal c) map job

-- ABNF text as a job: the map, and the records at the front of the buffer, which is unchanged past them
unfoldable pub lines_written : List Line → List ℕ → List ℕ → ReadOutcome
lines_written lines map job =
    read_leaves
    (record {
      number = 0;
      place = 0;
      records = length (records_of_lines lines);
      characters = length (characters_used lines);
    })
    (mapped (characters_used lines) map)
    (bytes_of (records_of_lines lines) ++ drop (4 * length (records_of_lines lines)) job)

-- ABNF text as a job: the outcome of a call, by the strings that a text may have
unfoldable pub read_of : Edition → List ℕ → List ℕ → List ℕ → ReadOutcome
read_of e text map job =
    cond (eqb (read_check e text map job).number 0) (lines_written (lines_of e text) map job)
    (read_refused (read_check e text map job) map job)
