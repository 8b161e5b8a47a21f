-- The items of an alternative, element by element. Assumes nothing.
use Rattle.grammar.proofs.Basics.{ℕ, ◌+◌, List, [], ◌∷◌, ◌++◌, map, ◌≡◌, refl, ◌∙◌, sym, ap}
use Rattle.grammar.proofs.Basics.{Bool, true, false, true≢false, append-nil}
use mathlib.Core.List.{map-append}
use Rattle.abnf.specs.Text.{Element, name, characters}
use Rattle.abnf.specs.Reading.{characters_of_lem}
use Rattle.abnf.specs.Meaning.{number_of}
use Rattle.abnf_jobs.specs.Bodies.{item_of, items_of}
use Rattle.cursor.specs.Cursor.{element_of}
use Rattle.bodies.specs.Items.{code_of}
use Rattle.bodies.proofs.LiteralItems.{character_codes}

module _ (names : List (List ℕ)) where
  -- the numbers of the items of elements
  abbrev pub element_codes : List Element → List ℕ
  element_codes xs = map code_of (items_of names xs)

  -- the first element's, then the others'
  first_items : (x : Element) (xs : List Element) → items_of names (x ∷ xs) ≡ items_of names (x ∷ []) ++ items_of names xs
  unfolding items_of
  first_items (name n) xs = refl
  first_items (characters cs) xs = ap (λ is. is ++ items_of names xs) (sym (append-nil (map item_of cs)))

  pub first_codes : (x : Element) (xs : List Element) →
      element_codes (x ∷ xs) ≡ element_codes (x ∷ []) ++ element_codes xs
  first_codes x xs =
      ap (map code_of) (first_items x xs) ∙ map-append code_of (items_of names (x ∷ [])) (items_of names xs)

  -- a literal's are its characters', a name's is its number
  pub literal_kept : (literal : Bool) (s : List ℕ) → literal ≡ true →
      element_codes (element_of literal s ∷ []) ≡ character_codes (characters_of_lem s)
  unfolding items_of
  literal_kept true s t = rw (append-nil (map item_of (characters_of_lem s)))
  literal_kept false s t = absurd (true≢false (sym t))

  pub name_kept : {number : ℕ} (literal : Bool) (s : List ℕ) → literal ≡ false → number ≡ number_of names s →
      element_codes (element_of literal s ∷ []) ≡ (512 + number) ∷ []
  unfolding items_of
  name_kept true s f is = absurd (true≢false f)
  name_kept false s f is = rw is
