-- What a symbol of a job says in the symbols of its text: a terminal its character, and a variable, by its role, a
-- name, a letter in either case, or what the items of a tail read as. Assumes nothing.
use Rattle.grammar.proofs.Basics.{◌≡◌, refl, sym, ap, subst, Bool, List, ◌∷◌, [], ℕ, ◌≤◌, ◌+◌, arith, length, get_or}
use Rattle.abnf.specs.Bytes.{lower}
use Rattle.abnf_jobs.specs.Characters.{terminal_of, used_below}
use Rattle.abnf_jobs.specs.Roles.{Role, for_name, for_letter, for_tail}
use Rattle.abnf_jobs.specs.Theorems.Written.{Through, no_more, one_more}
use Rattle.abnf_jobs.proofs.Joined.{Joined, nothing_said, one_said}
use Rattle.abnf_jobs.proofs.ItemsRead.{ItemsRead}
use Rattle.abnf_jobs.proofs.RolePlaces.{Has, has_one}
use Rattle.abnf_jobs.proofs.CharacterNumbers.{Used, one_number, character_used, number_is}

abbrev pub RoleSays : Role → List ℕ → Type 0
RoleSays (for_name n) u = u ≡ (256 + n) ∷ []
RoleSays (for_letter l) u = (c : ℕ) × (u ≡ c ∷ []) × (lower c ≡ l)
RoleSays (for_tail xs) u = ItemsRead xs u

module _ (used : ℕ → Bool) (roles : List Role) where
  pub data Says (X : ℕ) (u : List ℕ) : Type 0 where
    as_variable : (r : Role) → Has roles X r → RoleSays r u → Says X u
    as_terminal : (c : ℕ) → Used used 256 c → X ≡ terminal_of used c → u ≡ c ∷ [] → Says X u

  -- a form says what its symbols say, one after the other
  abbrev pub FormSays : List ℕ → List ℕ → Type 0
  FormSays = Joined Says

  -- a string of terminals says the characters that it is read as
  pub through_said : {v w : List ℕ} → Through (used_below used 256) (length (used_below used 256)) v w → FormSays v w
  through_said no_more = nothing_said
  through_said (one_more {i} h t) =
      one_said {u = get_or (used_below used 256) i 0 ∷ []}
      (as_terminal _ (character_used used 256 i h) (ap (λ j. 32 + j) (sym (number_is used 256 i h))) refl)
      (through_said t)

  -- the numbers of variables are below those of terminals, so that a symbol says what its role or its character does
  module _ (few : length roles ≤ 32) where
    pub variable_says : {X : ℕ} {u : List ℕ} {r : Role} → Says X u → Has roles X r → RoleSays r u
    variable_says {u} (as_variable s has says) h = subst (λ r. RoleSays r u) (has_one has h) says
    variable_says (as_terminal c c-used e says) h = absurd (omega (arith, h.below))

    pub terminal_says : {X : ℕ} {u : List ℕ} (c : ℕ) → Says X u → Used used 256 c → X ≡ terminal_of used c → u ≡ c ∷ []
    terminal_says c (as_variable s has says) k e = absurd (omega (arith, has.below))
    terminal_says c (as_terminal d d-used f says) k e =
        rw (one_number used 256 c d k d-used (omega arith)) says
