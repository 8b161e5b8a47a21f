-- ABNF text as a job: what each variable is for. Its number is its place in one list of roles. Assumes nothing.
use Rattle.std.specs.Prelude.{ℕ, zero, suc, Bool, false, cond, ◌||◌, List, [], ◌∷◌, ◌++◌, eqb, length}
use Rattle.abnf.specs.Text.{Line}
use Rattle.abnf.specs.Meaning.{names_of}
use Rattle.abnf_jobs.specs.Bodies.{Item, named, letter, character, Body, bodies_of}

-- ABNF text as a job: a variable is for a name, for a letter of either case, or for the tail of a body
pub data Role : Type 0 where
  for_name : ℕ → Role
  for_letter : ℕ → Role
  for_tail : List Item → Role

abbrev pub is_for : ℕ → Role → Bool
is_for l (for_name n) = false
is_for l (for_letter m) = eqb m l
is_for l (for_tail xs) = false

-- a letter is met already
unfoldable pub is_met : List Role → ℕ → Bool
is_met [] l = false
is_met (r ∷ rs) l = is_for l r || is_met rs l

-- its variable; where it is not met, the next that is free
unfoldable pub variable_of : List Role → ℕ → ℕ
variable_of [] l = 0
variable_of (r ∷ rs) l = cond (is_for l r) 0 (suc (variable_of rs l))

-- ABNF text as a job: a letter that is not met in the text up to here takes a variable
abbrev pub with_item : List Role → Item → List Role
with_item rs (named n) = rs
with_item rs (letter l) = cond (is_met rs l) rs (rs ++ (for_letter l ∷ []))
with_item rs (character b) = rs

unfoldable pub with_letters : List Role → List Item → List Role
with_letters rs [] = rs
with_letters rs (x ∷ xs) = with_letters (with_item rs x) xs

-- Long bodies: what is behind the first of three or more symbols is a tail, and is split in turn
unfoldable pub tails_of : List Item → List Role
tails_of [] = []
tails_of (x ∷ []) = []
tails_of (x ∷ y ∷ []) = []
tails_of (x ∷ y ∷ z ∷ xs) = for_tail (y ∷ z ∷ xs) ∷ tails_of (y ∷ z ∷ xs)

-- ABNF text as a job: a body takes variables for its new letters first, then for its tails, which are never shared
abbrev pub with_body : List Role → List Item → List Role
with_body rs xs = with_letters rs xs ++ tails_of xs

unfoldable pub with_bodies : List Role → List Body → List Role
with_bodies rs [] = rs
with_bodies rs (b ∷ bs) = with_bodies (with_body rs b.items) bs

-- ABNF text as a job: the names come first
unfoldable pub for_names : ℕ → List Role
for_names zero = []
for_names (suc n) = for_names n ++ (for_name n ∷ [])

abbrev pub roles_of : List Line → List Role
roles_of lines = with_bodies (for_names (length (names_of lines))) (bodies_of lines)
