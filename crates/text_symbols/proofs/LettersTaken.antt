-- Which variables letters have once some items have taken theirs: none, one item, and items one after the other.
-- Assumes nothing.
use Rattle.grammar.proofs.Basics.{◌≡◌, refl, ◌∙◌, sym, ap, true, false, cond, or-false, true≢false, List, ◌∷◌, [], ◌++◌}
use Rattle.grammar.proofs.Basics.{map, ℕ, ◌<◌, ◌+◌, ◌-◌, arith, eqb, length, get_or, set, length-set, length-append}
use Rattle.grammar.proofs.Basics.{get_or-set_same, get_or-set_other, eq-eqb, ne_eqb, eqb-true, eqb-false, cases}
use mathlib.Core.List.{map-append}
use Rattle.abnf_jobs.specs.Bodies.{Item, letter}
use Rattle.abnf_jobs.specs.Roles.{Role, for_letter, is_for, is_met, variable_of, with_item, with_letters}
use Rattle.abnf_jobs.proofs.RolePlaces.{begins_with}
use Rattle.abnf_jobs.proofs.LettersMet.{met_apart, variable_begun}
use Rattle.bodies.specs.Items.{item_from_lem}
use Rattle.std.specs.Prelude.{Option, Some, None, is_some}
use Rattle.text_symbols.specs.declared.letters.Variables.{Variables}
use Rattle.text_symbols.specs.Letters.{Letters, LettersTaken}
use Rattle.text_symbols.specs.declared.items.Item.{Item as Code}
use Rattle.text_symbols.specs.declared.items.Item.TheVariants.{Character, Letter, Name}
use Rattle.text_symbols.specs.Inside.Items.{IsItem}
use Rattle.text_symbols.proofs.ItemNumbers.{of_character, of_letter, of_name}

-- a letter that is met behind some roles alone
variable_behind : (rs ss : List Role) (l : ℕ) → is_met rs l ≡ false →
    variable_of (rs ++ ss) l ≡ length rs + variable_of ss l
unfolding is_met variable_of
variable_behind [] ss l e = omega arith
variable_behind (r ∷ rs) ss l e =
    cases (is_for l r) (λ t. absurd (true≢false (rw t at e)))
    (λ t. rw t (omega (arith, variable_behind rs ss l (rw t at e))))

-- the number of a letter in the array
abbrev number_in : List Role → ℕ → Option ℕ
number_in roles l = cond (is_met roles l) (Some (variable_of roles l)) None

-- one letter more has the next number, and all others have theirs
module _ (roles : List Role) (l : ℕ) where
  abbrev with_letter : List Role
  with_letter = roles ++ (for_letter l ∷ [])

  new_number_lem : is_met roles l ≡ false → number_in with_letter l ≡ Some (length roles)
  unfolding is_met variable_of
  new_number_lem out =
      let last = for_letter l ∷ [] in
      rw (met_apart roles last l, out, variable_behind roles last l out, eq-eqb l l refl) (ap Some (omega arith))

  other_number : (k : ℕ) → (l ≡ k → ⊥) → number_in with_letter k ≡ number_in roles k
  unfolding is_met
  other_number k d =
      let last = for_letter l ∷ [] in
      rw (met_apart roles last k, ne_eqb l k d, or-false)
      (cases (is_met roles k) (λ t. rw (t, variable_begun k (begins_with last) t)) (λ t. rw t))

-- where a letter is not met, it is put into the array
module _ {roles : List Role} {v : Variables} (h : Letters roles v) (k : ℕ) (l : k < 26) where
  abbrev with_new : Variables
  with_new = record { letters = set v.letters k (Some v.taken); taken = v.taken + 1 }

  -- whether a letter is met is read off the array
  pub read_off : is_met roles (97 + k) ≡ is_some (get_or v.letters k None)
  read_off = rw (h.at k l) (cases (is_met roles (97 + k)) (λ e. rw e) (λ e. rw e))

  one_more : is_met roles (97 + k) ≡ false → Letters (with_letter roles (97 + k)) with_new
  one_more out =
      record {
        size = length-set v.letters k (Some v.taken) ∙ h.size;
        counted = omega (arith, h.counted, length-append roles (for_letter (97 + k) ∷ []));
        at = λ j m. cases (eqb k j)
            (λ e.
            let inside : k < length v.letters = omega (arith, h.size) in
            rw (← eqb-true k j e, get_or-set_same v.letters k (Some v.taken) None inside)
            (ap Some h.counted ∙ sym (new_number_lem roles (97 + k) out)))
            (λ e.
            let d = eqb-false k j e in
            rw (get_or-set_other v.letters k j (Some v.taken) None (λ z. d (sym z)))
            (h.at j m ∙ sym (other_number roles (97 + k) (97 + j) (λ z. d (omega arith)))));
      }

-- the letters of items behind others
letters_behind : (ys xs : List Item) (rs : List Role) →
    with_letters rs (xs ++ ys) ≡ with_letters (with_letters rs xs) ys
unfolding with_letters
letters_behind ys [] rs = refl
letters_behind ys (x ∷ xs) rs = letters_behind ys xs (with_item rs x)

pub taken_none : (v : Variables) → LettersTaken [] v v
unfolding with_letters
taken_none v = record { few = omega arith; letters = λ roles a. a }

pub taken_then : {xs ys : List ℕ} {a b c : Variables} → LettersTaken xs a b → LettersTaken ys b c →
    LettersTaken (xs ++ ys) a c
taken_then {xs} {ys} p q =
    record {
      few = omega (arith, p.few, q.few, length-append xs ys);
      letters = λ roles h.
          rw (map-append, letters_behind (map item_from_lem ys) (map item_from_lem xs) roles)
          (q.letters _ (p.letters roles h));
    }

-- one item
module _ (item : ℕ) (v : Variables) where
  abbrev TakesNothing : Type 0
  TakesNothing = LettersTaken (item ∷ []) v v

  unchanged : ((roles : List Role) → Letters roles v → with_item roles (item_from_lem item) ≡ roles) →
      TakesNothing
  unfolding with_letters
  unchanged same = record { few = omega arith; letters = λ roles h. rw (same roles h) h }

  -- it is no letter
  pub taken_other : (i : Code) → IsItem item i → ((l : ℕ) → i ≡ Letter l → ⊥) → TakesNothing
  taken_other (Character c) is other = unchanged (λ roles h. rw (of_character item (omega arith)))
  taken_other (Letter l) is other = absurd (other l refl)
  taken_other (Name k) is other = unchanged (λ roles h. rw (of_name item (omega arith)))

  -- it is one
  module _ (l : ℕ) (is : item ≡ 353 + l) (inside : l < 26) where
    is_letter : item_from_lem item ≡ letter (97 + l)
    is_letter =
        let e : item - 256 ≡ 97 + l = omega arith in
        rw (of_letter item (omega arith) (omega arith), e)

    pub taken_met : is_some (get_or v.letters l None) ≡ true → TakesNothing
    taken_met d = unchanged (λ roles h. rw (is_letter, read_off h l inside ∙ d))

    pub taken_new : is_some (get_or v.letters l None) ≡ false →
        LettersTaken (item ∷ []) v (record { letters = set v.letters l (Some v.taken); taken = v.taken + 1 })
    unfolding with_letters
    taken_new n =
        record {
          few = omega arith;
          letters = λ roles h. let out = read_off h l inside ∙ n in rw (is_letter, out) (one_more h l inside out);
        }
