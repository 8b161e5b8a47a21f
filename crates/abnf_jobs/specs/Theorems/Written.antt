-- What the job and the map are that a text is read into. Assumes nothing.
use Rattle.std.specs.Prelude.{◌≡◌, ◌↔◌, false, ℕ, ◌+◌, ◌*◌, ◌≤◌, ◌<◌, take, get_or}
use mathlib.Core.List.{List, [], ◌∷◌, Memᴰ}
use Rattle.grammar.specs.Symbol.{Terminals}
use Rattle.grammar.specs.Rule.{ProductionsOf, Among}
use Rattle.grammar.specs.Derivation.{Derives}
use Rattle.job.specs.Format.{records_of}
use Rattle.job.specs.Check.{job_check, accepted}
use Rattle.job.specs.Job.{job_of, sorted_rules_lem, start_record}
use Rattle.abnf.specs.declared.Edition.{Edition}
use Rattle.abnf.specs.declared.Character.{Character}
use Rattle.abnf.specs.Text.{Element, characters, Line}
use Rattle.abnf.specs.Reading.{lines_of}
use Rattle.abnf.specs.Meaning.{number_of, names_of, StandsFor, TextProductions}
use Rattle.abnf_jobs.specs.Operation.{read_of}

-- the job and the map that a call leaves
abbrev pub job_written : Edition → List ℕ → List ℕ → List ℕ → List ℕ
job_written e text map job = take (4 * (read_of e text map job).answer.records) (read_of e text map job).job

abbrev pub map_written : Edition → List ℕ → List ℕ → List ℕ → List ℕ
map_written e text map job = (read_of e text map job).map

-- the call is not refused
abbrev pub Succeeds : Edition → List ℕ → List ℕ → List ℕ → Type 0
Succeeds e text map job = (read_of e text map job).answer.number ≡ 0

-- the number of a line's name, which is that of its variable
abbrev pub variable_of_line : Edition → List ℕ → Line → ℕ
variable_of_line e text l = number_of (names_of (lines_of e text)) l.name

-- a string of characters
unfoldable pub IsString : List ℕ → Type 0
IsString [] = Unit {0}
IsString (c ∷ w) = (c < 256) × IsString w

-- ABNF text as a job: terminals read as characters through a map of n of them
pub data Through (map : List ℕ) (n : ℕ) : List ℕ → List ℕ → Type 0 where
  no_more : Through map n [] []
  one_more : {i : ℕ} {v w : List ℕ} → i < n → Through map n v w → Through map n ((32 + i) ∷ v) (get_or map i 0 ∷ w)

abbrev pub ReadThrough : Edition → List ℕ → List ℕ → List ℕ → List ℕ → List ℕ → Type 0
ReadThrough e text map job v w =
    Through (map_written e text map job) (read_of e text map job).answer.characters v w

-- what the job derives from a variable
abbrev pub JobDerives : Edition → List ℕ → List ℕ → List ℕ → ℕ → List ℕ → Type 0
JobDerives e text map job A v = Derives (ProductionsOf (Among (job_of (job_written e text map job)).rules)) (A ∷ []) v

-- ABNF text as a job: for the name of each line, the strings of characters that it derives by the text are those that
-- its variable derives by the job, read through the map
abbrev pub SameStrings : Type 0
SameStrings =
    (e : Edition) (text map job : List ℕ) → Succeeds e text map job →
    (l : Line) → Memᴰ l (lines_of e text) → (w : List ℕ) → IsString w →
    Derives (TextProductions (lines_of e text)) ((256 + variable_of_line e text l) ∷ []) w
    ↔ ((v : List ℕ) × ReadThrough e text map job v w × JobDerives e text map job (variable_of_line e text l) v)

-- ABNF text as a job: each string of terminals that a name's variable derives can be read through the map
abbrev pub AllRead : Type 0
AllRead =
    (e : Edition) (text map job : List ℕ) → Succeeds e text map job →
    (l : Line) → Memᴰ l (lines_of e text) → (v : List ℕ) → Terminals v →
    JobDerives e text map job (variable_of_line e text l) v →
    (w : List ℕ) × IsString w × ReadThrough e text map job v w

-- ABNF text as a job: the start symbol is the variable of the first line's name
pub record StartsFirst (e : Edition) (text map job : List ℕ) : Type 0 where
  pub first : Line
  pub others : List Line
  pub lines : lines_of e text ≡ first ∷ others
  pub start : (job_of (job_written e text map job)).start ≡ variable_of_line e text first

abbrev pub StartIsFirst : Type 0
StartIsFirst = (e : Edition) (text map job : List ℕ) → Succeeds e text map job → StartsFirst e text map job

-- ABNF text as a job: the job passes the checks of the verdicts, so that no record stands twice
abbrev pub WrittenAccepted : Type 0
WrittenAccepted =
    (e : Edition) (text map job : List ℕ) → Succeeds e text map job →
    job_check false (job_written e text map job) ≡ accepted

-- ABNF text as a job: it is S and then rules, which stand in the order of their ranks
abbrev pub WrittenInOrder : Type 0
WrittenInOrder =
    (e : Edition) (text map job : List ℕ) → Succeeds e text map job →
    records_of (job_written e text map job)
    ≡ start_record (job_of (job_written e text map job)).start ∷ sorted_rules_lem (records_of (job_written e text map job))

-- a literal of some lines has a character, and stands for a byte by it
pub record CharacterIn (lines : List Line) (x : Character) : Type 0 where
  pub line : Line
  pub line_is_one : Memᴰ line lines
  pub alternative : List Element
  pub alternative_is_one : Memᴰ alternative line.alternatives
  pub literal : List Character
  pub literal_is_one : Memᴰ (characters literal) alternative
  pub character_is_one : Memᴰ x literal

pub record IsUsed (lines : List Line) (c : ℕ) : Type 0 where
  pub by : Character
  pub stands : CharacterIn lines by
  pub stands_for_lem : StandsFor by c

-- ABNF text as a job: a map of n bytes at most 32 has just the characters that the text's literals stand for, in
-- ascending order, and 0 past them
pub record MapOf (lines : List Line) (map : List ℕ) (n : ℕ) : Type 0 where
  pub few : n ≤ 32
  pub ascending : (i j : ℕ) → i < j → j < n → get_or map i 0 < get_or map j 0
  pub used : (c : ℕ) → Memᴰ c (take n map) ↔ IsUsed lines c
  pub zero : (i : ℕ) → n ≤ i → i < 32 → get_or map i 0 ≡ 0

abbrev pub MapIsUsed : Type 0
MapIsUsed =
    (e : Edition) (text map job : List ℕ) → Succeeds e text map job →
    MapOf (lines_of e text) (map_written e text map job) (read_of e text map job).answer.characters
