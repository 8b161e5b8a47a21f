-- ABNF text as a job, 17: every name has a rule, and its lines are in order. Assumes nothing.
use Rattle.std.specs.Prelude.{ℕ, cond, List, [], ◌∷◌, ◌++◌}
use Rattle.abnf.specs.declared.Edition.{Edition}
use Rattle.abnf.specs.declared.Mark.TheVariants.{Defines, Adds}
use Rattle.abnf.specs.declared.Fault.{Fault}
use Rattle.abnf.specs.declared.Fault.TheVariants.{Nothing, At}
use Rattle.abnf.specs.Reading.{lines_of}
use Rattle.abnf.specs.Meaning.{is_among_lem, names_of}
use Rattle.abnf.specs.Uses.{Use, heads, mentioned, uses_of}

-- ABNF text as a job, 17: the first name that begins no line, that has = and one above, or =/ and no = above it. By the
-- names that begin lines anywhere, and those that have = above.
unfoldable pub name_fault_lem : List (List ℕ) → List (List ℕ) → List Use → Fault
name_fault_lem names defined [] = Nothing
name_fault_lem names defined (mentioned at n ∷ us) = cond (is_among_lem names n) (name_fault_lem names defined us) (At at)
name_fault_lem names defined (heads at n Defines ∷ us) =
    cond (is_among_lem defined n) (At at) (name_fault_lem names (defined ++ (n ∷ [])) us)
name_fault_lem names defined (heads at n Adds ∷ us) = cond (is_among_lem defined n) (name_fault_lem names defined us) (At at)

-- ABNF text as a job, 17: the offset of that name, if there is one
unfoldable pub name_fault_of : Edition → List ℕ → Fault
name_fault_of e text = name_fault_lem (names_of (lines_of e text)) [] (uses_of e text)
