-- What the walks over a text's bodies take and give. Assumes nothing.
use Rattle.std.specs.Prelude.{ℕ, ◌+◌, ◌-◌, ◌≤◌, ◌<◌, ◌≡◌, ◌||◌, Bool, List, map, length, Option, Some, None}
use Rattle.job.specs.Job.{sort_key_lem}
use Rattle.abnf.specs.declared.Fault.TheVariants.{Nothing}
use Rattle.abnf.specs.Text.{Line}
use Rattle.abnf.specs.Reading.{fault_of, lines_of}
use Rattle.abnf.specs.Meaning.{names_of}
use Rattle.abnf_jobs.specs.Names.{name_fault_of}
use Rattle.abnf_jobs.specs.Bodies.{bodies_of}
use Rattle.abnf_jobs.specs.Characters.{some_for, used_in, characters_used}
use Rattle.abnf_jobs.specs.Roles.{roles_of}
use Rattle.abnf_jobs.specs.Rules.{distinct_rules}
use Rattle.naming.specs.Named.{Named}
use Rattle.bodies.specs.Items.{item_from_lem}
use Rattle.text_symbols.specs.declared.letters.Variables.{Variables}
use Rattle.text_symbols.specs.Letters.{LettersTaken}
use Rattle.text_symbols.specs.Marks.{Marked, marked}
use Rattle.text_symbols.specs.Keys.{Capped, RulesPut, symbol_by, split_rules}

-- a text that neither 16 nor 17 refuses, with all its names
pub record TextReady (t : Named) : Type 0 where
  pub in_the_part : fault_of t.edition t.text ≡ Nothing
  pub names_fine : name_fault_of t.edition t.text ≡ Nothing
  pub names : t.names ≡ names_of (lines_of t.edition t.text)

-- variables are taken for the tails of a body of some items
abbrev pub with_tails : List ℕ → Variables → Variables
with_tails items v = record { letters = v.letters; taken = v.taken + (length items - 2) }

-- variables are taken for a body's letters and tails, and its characters are marked: the variables and the marks before
-- and after
pub record ItemsCounted (items : List ℕ) (before : Variables) (used : List Bool) (after : Variables) (marks : List Bool) :
    Type 0 where
  pub lettered : Variables
  pub letters : LettersTaken items before lettered
  pub tails : after ≡ with_tails items lettered
  pub marked : Marked (λ c. marked used c || some_for (map item_from_lem items) c) marks

-- how many variables a text needs, up to 32, and the characters used; or that it needs more
pub record Needs (lines : List Line) (n : ℕ) (used : List Bool) : Type 0 where
  pub more : 32 < n → 32 < length (roles_of lines)
  pub counted : n ≤ 32 → n ≡ length (roles_of lines)
  pub marks : n ≤ 32 → Marked (used_in (bodies_of lines)) used

-- what a text needs is there
pub record Fits (lines : List Line) : Type 0 where
  pub variables : length (roles_of lines) ≤ 32
  pub characters : length (characters_used lines) ≤ 32

-- the rules of a body's items are put among others, after variables are taken for its letters: the variables and the
-- rules before and after
pub record ItemsPut (items : List ℕ) (head : ℕ) (numbers : List ℕ) (before : Variables) (rules : Option (List ℕ))
    (after : Variables) (now : Option (List ℕ)) : Type 0 where
  pub lettered : Variables
  pub letters : LettersTaken items before lettered
  pub put : RulesPut (split_rules head (map (symbol_by lettered numbers) items) lettered.taken) rules now
  pub tails : after ≡ with_tails items lettered

-- the sort keys of the rules in order, up to 256
abbrev pub RulesKept : List Line → Option (List ℕ) → Type 0
RulesKept lines rules = Capped (map sort_key_lem (distinct_rules lines)) rules

-- how many rules are kept, 257 where there are more than 256
abbrev pub kept_count : Option (List ℕ) → ℕ
kept_count None = 257
kept_count (Some keys) = length keys
