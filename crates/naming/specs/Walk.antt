-- What is read of a line of a text, and where the next one begins. Assumes nothing.
use Rattle.std.specs.Prelude.{ℕ, ◌≤◌, ◌<◌, ◌≡◌, Bool, true, false, not, ◌&&◌, List, length, Result, Ok, Err}
use Rattle.abnf.specs.declared.Edition.{Edition}
use Rattle.abnf.specs.declared.Mark.{Mark}
use Rattle.abnf.specs.declared.Mark.TheVariants.{Defines, Adds}
use Rattle.abnf.specs.declared.Fault.TheVariants.{At}
use Rattle.abnf.specs.declared.Stage.TheVariants.{LineStart, Open}
use Rattle.abnf.specs.Meaning.{is_among_lem}
use Rattle.abnf_jobs.specs.Names.{name_fault_lem}
use Rattle.cursor.specs.declared.After.{After}
use Rattle.cursor.specs.declared.After.TheVariants.{ElementAfter, AlternativeAfter, RuleAfter}
use Rattle.cursor.specs.Cursor.{said_at, uses_at, FineAt}

abbrev pub is_rule_after : After → Bool
is_rule_after ElementAfter = false
is_rule_after AlternativeAfter = false
is_rule_after RuleAfter = true

abbrev pub is_defines_lem : Mark → Bool
is_defines_lem Defines = true
is_defines_lem Adds = false

-- an element is a name that is not among some
abbrev pub is_unknown_lem : Bool → List (List ℕ) → List ℕ → Bool
is_unknown_lem literal names n = not literal && not (is_among_lem names n)

-- the line of an element ends, and the lines that follow begin, at an offset
pub record RuleEnds (e : Edition) (text : List ℕ) (body next : ℕ) : Type 0 where
  pub past : body < next
  pub within : next ≤ length text
  pub fine : FineAt e LineStart text next
  pub lines : (said_at e Open text body).lines ≡ (said_at e LineStart text next).lines

-- all names of a line are known from an element on: the line ends at the offset, whatever names have = above
pub record AllKnown (e : Edition) (text : List ℕ) (names : List (List ℕ)) (body next : ℕ) : Type 0 where
  pub ends : RuleEnds e text body next
  pub uses :
      (defined : List (List ℕ)) →
      name_fault_lem names defined (uses_at e Open text body) ≡ name_fault_lem names defined (uses_at e LineStart text next)

-- names of a line looked up from an element on: where none is missing the line ends at the offset, else the first that
-- is missing stands there, whatever names have = above
abbrev pub Mentions : Edition → List ℕ → List (List ℕ) → ℕ → Result ℕ ℕ → Type 0
Mentions e text names body (Ok next) = AllKnown e text names body next
Mentions e text names body (Err at) =
    (defined : List (List ℕ)) → name_fault_lem names defined (uses_at e Open text body) ≡ At at
