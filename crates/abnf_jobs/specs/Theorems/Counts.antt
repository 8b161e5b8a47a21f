-- What 18 and 7 count: each name, letter, tail, character and rule once. Assumes nothing.
use Rattle.std.specs.Prelude.{◌≡◌, ◌↔◌, ◌⊎◌, true, false, ℕ, ◌+◌, ◌-◌, ◌≤◌, ◌<◌, length, get_or}
use mathlib.Core.List.{List, [], ◌∷◌, Memᴰ}
use Rattle.grammar.specs.Counting.{NoRepeat}
use Rattle.job.specs.declared.JobRecord.{JobRecord}
use Rattle.abnf.specs.declared.Edition.{Edition}
use Rattle.abnf.specs.declared.Character.{Character}
use Rattle.abnf.specs.Bytes.{is_alpha_lem, lower}
use Rattle.abnf.specs.Text.{Line}
use Rattle.abnf.specs.Reading.{lines_of}
use Rattle.abnf.specs.Meaning.{same_name, is_among_lem, names_of}
use Rattle.abnf_jobs.specs.Bodies.{Body, bodies_of}
use Rattle.abnf_jobs.specs.Characters.{characters_used}
use Rattle.abnf_jobs.specs.Roles.{roles_of}
use Rattle.abnf_jobs.specs.Rules.{rules_of_lines, distinct_rules}
use Rattle.abnf_jobs.specs.Operation.{read_of}
use Rattle.abnf_jobs.specs.Theorems.Written.{CharacterIn, IsUsed}

-- ABNF text as a job: the names that begin lines, none twice, without regard to case
pub record NamesOnce (lines : List Line) (names : List (List ℕ)) : Type 0 where
  pub distinct : (i j : ℕ) → i < j → j < length names → same_name (get_or names i []) (get_or names j []) ≡ false
  pub each : (l : Line) → Memᴰ l lines → is_among_lem names l.name ≡ true
  pub of_line : (n : List ℕ) → Memᴰ n names → (l : Line) × Memᴰ l lines × (l.name ≡ n)

-- ABNF text as a job: a letter of a quoted string, as a small one
pub record LetterIn (lines : List Line) (l : ℕ) : Type 0 where
  pub by : Character
  pub stands : CharacterIn lines by
  pub of_string : by.either ≡ true
  pub is_letter : is_alpha_lem by.byte ≡ true
  pub is : lower by.byte ≡ l

-- Long bodies: a body of three or more symbols has two tails less than symbols
unfoldable pub tails_in : List Body → ℕ
tails_in [] = 0
tails_in (b ∷ bs) = (length b.items - 2) + tails_in bs

-- ABNF text as a job: the variables are the names, the letters, each once, and the tails of all bodies
pub record VariablesOnce (lines : List Line) : Type 0 where
  pub names : NamesOnce lines (names_of lines)
  pub letters : List ℕ
  pub once : NoRepeat letters
  pub each : (l : ℕ) → Memᴰ l letters ↔ LetterIn lines l
  pub counted : length (roles_of lines) ≡ length (names_of lines) + length letters + tails_in (bodies_of lines)

-- ABNF text as a job: the characters, each once
pub record CharactersOnce (lines : List Line) : Type 0 where
  pub once : NoRepeat (characters_used lines)
  pub each : (c : ℕ) → c < 256 → Memᴰ c (characters_used lines) ↔ IsUsed lines c

-- ABNF text as a job: the rules, each once
pub record RulesOnce (lines : List Line) : Type 0 where
  pub once : NoRepeat (distinct_rules lines)
  pub each : (r : JobRecord) → Memᴰ r (distinct_rules lines) ↔ Memᴰ r (rules_of_lines lines)

pub record EachOnce (lines : List Line) : Type 0 where
  pub variables : VariablesOnce lines
  pub characters : CharactersOnce lines
  pub rules : RulesOnce lines

-- ABNF text as a job: whatever a text says, each is counted once
abbrev pub CountedOnce : Type 0
CountedOnce = (lines : List Line) → EachOnce lines

-- ABNF text as a job, 18 and 7: what is refused needs more than there may be, 18 at 2 only where the variables suffice
pub record LimitsMet (e : Edition) (text map job : List ℕ) : Type 0 where
  pub by_variables :
      (read_of e text map job).answer.number ≡ 18 →
      (((read_of e text map job).answer.place ≡ 1) × (32 < length (roles_of (lines_of e text))))
      ⊎ (((read_of e text map job).answer.place ≡ 2)
      × ((length (roles_of (lines_of e text)) ≤ 32) × (32 < length (characters_used (lines_of e text)))))
  pub by_rules :
      (read_of e text map job).answer.number ≡ 7 →
      ((read_of e text map job).answer.place ≡ 257) × (256 < length (distinct_rules (lines_of e text)))

abbrev pub LimitsTrue : Type 0
LimitsTrue = (e : Edition) (text map job : List ℕ) → LimitsMet e text map job
