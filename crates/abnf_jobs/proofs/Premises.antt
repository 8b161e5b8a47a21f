-- What laws about a text that is read take from one another. Assumes nothing.
use Rattle.grammar.proofs.Basics.{◌≡◌, List, List·Memᴰ, ℕ, ◌≤◌, ◌<◌, length}
use Rattle.job.specs.Format.{bytes_of}
use Rattle.abnf.specs.declared.Edition.{Edition}
use Rattle.abnf.specs.declared.Character.{Character}
use Rattle.abnf.specs.declared.Fault.TheVariants.{Nothing}
use Rattle.abnf.specs.Text.{Line}
use Rattle.abnf.specs.Reading.{fault_of, lines_of}
use Rattle.abnf.specs.Meaning.{names_of}
use Rattle.abnf_jobs.specs.Names.{name_fault_of}
use Rattle.abnf_jobs.specs.Bodies.{named, Body, bodies_of}
use Rattle.abnf_jobs.specs.Characters.{characters_used, mapped}
use Rattle.abnf_jobs.specs.Roles.{roles_of}
use Rattle.abnf_jobs.specs.Rules.{distinct_rules, records_of_lines}
use Rattle.abnf_jobs.specs.Operation.{read_of}
use Rattle.abnf_jobs.specs.Theorems.Written.{CharacterIn, job_written}

-- every name in a body begins a line
pub record Known (lines : List Line) : Type 0 where
  pub known : (b : Body) → List·Memᴰ b (bodies_of lines) → (n : ℕ) → List·Memᴰ (named n) b.items →
      n < length (names_of lines)

-- every character is a byte
pub record Bytes (lines : List Line) : Type 0 where
  pub below : (x : Character) → CharacterIn lines x → x.byte < 256

-- a call that is not refused passes every check, and what it leaves
pub record Success (e : Edition) (text map job : List ℕ) : Type 0 where
  pub in_the_part : fault_of e text ≡ Nothing
  pub names_fine : name_fault_of e text ≡ Nothing
  pub variables : length (roles_of (lines_of e text)) ≤ 32
  pub characters : length (characters_used (lines_of e text)) ≤ 32
  pub rules : length (distinct_rules (lines_of e text)) ≤ 256
  pub long : 32 ≤ length map
  pub map_is : (read_of e text map job).map ≡ mapped (characters_used (lines_of e text)) map
  pub count_is : (read_of e text map job).answer.characters ≡ length (characters_used (lines_of e text))
  pub job_is : job_written e text map job ≡ bytes_of (records_of_lines (lines_of e text))
