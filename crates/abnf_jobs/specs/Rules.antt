-- ABNF text as a job: its rules. Assumes nothing.
use Rattle.std.specs.Prelude.{ℕ, zero, suc, ◌+◌, ◌-◌, Bool, cond, List, [], ◌∷◌, ◌++◌, map, length}
use Rattle.job.specs.declared.JobRecord.{JobRecord}
use Rattle.job.specs.Format.{has}
use Rattle.job.specs.Job.{insert, unit_record, start_record}
use Rattle.long_jobs.specs.Convert.{split}
use Rattle.abnf.specs.Text.{Line}
use Rattle.abnf.specs.Meaning.{names_of}
use Rattle.abnf_jobs.specs.Bodies.{Item, named, letter, character, Body, bodies_of}
use Rattle.abnf_jobs.specs.Characters.{used_in, terminal_of}
use Rattle.abnf_jobs.specs.Roles.{Role, is_met, variable_of, with_letters, with_body, for_names, roles_of}

-- ABNF text as a job: the symbol of an item, by the characters used and the roles
abbrev pub symbol_of : (ℕ → Bool) → List Role → Item → ℕ
symbol_of used roles (named n) = n
symbol_of used roles (letter l) = variable_of roles l
symbol_of used roles (character b) = terminal_of used b

-- ABNF text as a job: a body is split as a long one is; the roles, its letters among them, are those before its tails
abbrev pub body_rules : (ℕ → Bool) → List Role → Body → List JobRecord
body_rules used roles b =
    (split (λ k. k) b.head (map (symbol_of used roles) b.items) (record { taken = length roles; written = [] })
    ).written

-- the rules of bodies, after the roles that those before them take
unfoldable pub rules_from : (ℕ → Bool) → List Role → List Body → List JobRecord
rules_from used roles [] = []
rules_from used roles (b ∷ bs) =
    body_rules used (with_letters roles b.items) b ++ rules_from used (with_body roles b.items) bs

-- ABNF text as a job: a letter's variable has a rule for the capital and one for the small letter
abbrev pub letter_rules : (ℕ → Bool) → List Role → ℕ → List JobRecord
letter_rules used roles l =
    cond (is_met roles l)
    (unit_record (variable_of roles l) (terminal_of used (l - 32)) ∷ unit_record (variable_of roles l) (terminal_of used l) ∷ [])
    []

-- and so for the first n letters
unfoldable pub letters_rules : (ℕ → Bool) → List Role → ℕ → List JobRecord
letters_rules used roles zero = []
letters_rules used roles (suc n) = letters_rules used roles n ++ letter_rules used roles (97 + n)

-- The job: a rule put into its place by rank, unless it stands there
abbrev pub insert_once : JobRecord → List JobRecord → List JobRecord
insert_once r rs = cond (has rs r) rs (insert r rs)

unfoldable pub in_order : List JobRecord → List JobRecord → List JobRecord
in_order rs [] = rs
in_order rs (x ∷ xs) = in_order (insert_once x rs) xs

-- ABNF text as a job: the rules of bodies and letters
abbrev pub rules_of_lines : List Line → List JobRecord
rules_of_lines lines =
    rules_from (used_in (bodies_of lines)) (for_names (length (names_of lines))) (bodies_of lines)
    ++ letters_rules (used_in (bodies_of lines)) (roles_of lines) 26

-- ABNF text as a job: the first name is the start symbol; behind S the distinct rules by rank
abbrev pub distinct_rules : List Line → List JobRecord
distinct_rules lines = in_order [] (rules_of_lines lines)

unfoldable pub records_of_lines : List Line → List JobRecord
records_of_lines lines = start_record 0 ∷ distinct_rules lines
