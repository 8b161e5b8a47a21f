-- The letters that are met by the roles: each keeps its variable, and those met in the end are those of the bodies.
-- Assumes nothing.
use Rattle.grammar.proofs.Basics.{◌≡◌, refl, sym, ap, ⊎_elim, inl, inr, ◌⊎◌, true, false, cases, or_split, ◌||◌}
use Rattle.grammar.proofs.Basics.{or_assoc, or-true, or-false, true_and_false, false≢true, List, ◌∷◌, [], ◌++◌}
use Rattle.grammar.proofs.Basics.{List·Memᴰ, List·Memᴰ·head, List·Memᴰ·tail, ℕ, zero, suc, arith, eq-eqb, eqb-true}
use Rattle.abnf_jobs.specs.Bodies.{Item, named, letter, character, Body}
use Rattle.abnf_jobs.specs.Roles.{Role, for_name, for_letter, for_tail, is_for, is_met, variable_of, with_item}
use Rattle.abnf_jobs.specs.Roles.{with_letters, tails_of, with_body, with_bodies, for_names}
use Rattle.abnf_jobs.proofs.RolePlaces.{Has, Begins, letters_begin}

pub met_apart : (rs more : List Role) (l : ℕ) → is_met (rs ++ more) l ≡ is_met rs l || is_met more l
unfolding is_met
met_apart [] more l = refl
met_apart (r ∷ rs) more l = rw (met_apart rs more l) (sym (or_assoc (is_for l r) (is_met rs l) (is_met more l)))

is_letter : (l : ℕ) (r : Role) → is_for l r ≡ true → r ≡ for_letter l
is_letter l (for_name n) t = absurd (false≢true t)
is_letter l (for_letter m) t = ap for_letter (eqb-true m l t)
is_letter l (for_tail xs) t = absurd (false≢true t)

pub letter_has : (rs : List Role) (l : ℕ) → is_met rs l ≡ true → Has rs (variable_of rs l) (for_letter l)
unfolding is_met variable_of
letter_has [] l m = absurd (false≢true m)
letter_has (r ∷ rs) l m =
    cases (is_for l r)
    (λ t. rw t (record { below = omega arith; is = is_letter l r t }))
    (λ t.
    let h = letter_has rs l (rw t at m) in
    rw t (record { below = omega (arith, h.below); is = h.is }))

variable_kept : (rs more : List Role) (l : ℕ) → is_met rs l ≡ true → variable_of (rs ++ more) l ≡ variable_of rs l
unfolding is_met variable_of
variable_kept [] more l m = absurd (false≢true m)
variable_kept (r ∷ rs) more l m =
    cases (is_for l r) (λ t. rw t) (λ t. rw t (ap suc (variable_kept rs more l (rw t at m))))

pub met_begun : {rs all : List Role} (l : ℕ) → Begins rs all → is_met rs l ≡ true → is_met all l ≡ true
met_begun {rs} l b m = rw (← b.is, met_apart rs b.more l, m)

pub variable_begun : {rs all : List Role} (l : ℕ) → Begins rs all → is_met rs l ≡ true →
    variable_of all l ≡ variable_of rs l
variable_begun {rs} l b m = rw (← b.is) (variable_kept rs b.more l m)

-- the letters of a body are met
letter_met : (rs : List Role) (l : ℕ) → is_met (with_item rs (letter l)) l ≡ true
unfolding is_met
letter_met rs l =
    cases (is_met rs l)
    (λ t. rw t t)
    (λ t. rw t (rw (met_apart rs (for_letter l ∷ []) l, eq-eqb l l refl, or-true)))

pub letters_met : (rs : List Role) (xs : List Item) (l : ℕ) → List·Memᴰ (letter l) xs →
    is_met (with_letters rs xs) l ≡ true
unfolding with_letters
letters_met rs (x ∷ xs) l (List·Memᴰ·head e) =
    met_begun l (letters_begin (with_item rs x) xs) (rw (← e) (letter_met rs l))
letters_met rs (x ∷ xs) l (List·Memᴰ·tail m) = letters_met (with_item rs x) xs l m
letters_met rs [] l x' = elim x' [ ]

-- a letter that is met is met before, or is one of the body's
module _ (l : ℕ) where
  item_letter : (rs : List Role) (x : Item) → is_met (with_item rs x) l ≡ true →
      (is_met rs l ≡ true) ⊎ (letter l ≡ x)
  unfolding is_met
  item_letter rs (named n) m = inl m
  item_letter rs (letter k) m =
      cases (is_met rs k) (λ t. inl (rw t at m))
      (λ t.
      ⊎_elim inl (λ e. inr (ap letter (sym (eqb-true k l (rw or-false at e)))))
      (or_split (is_met rs l) _ (rw (t, met_apart rs (for_letter k ∷ []) l) at m)))
  item_letter rs (character b) m = inl m

  letters_letter : (rs : List Role) (xs : List Item) → is_met (with_letters rs xs) l ≡ true →
      (is_met rs l ≡ true) ⊎ List·Memᴰ (letter l) xs
  unfolding with_letters
  letters_letter rs [] m = inl m
  letters_letter rs (x ∷ xs) m =
      ⊎_elim (λ k. ⊎_elim inl (λ e. inr (List·Memᴰ·head e)) (item_letter rs x k)) (λ k. inr (List·Memᴰ·tail k))
      (letters_letter (with_item rs x) xs m)

  -- no tail is a letter's, and no name is
  pub tails_unmet : (xs : List Item) → is_met (tails_of xs) l ≡ false
  unfolding is_met tails_of
  tails_unmet [] = refl
  tails_unmet (x ∷ []) = refl
  tails_unmet (x ∷ y ∷ []) = refl
  tails_unmet (x ∷ y ∷ z ∷ xs) = tails_unmet (y ∷ z ∷ xs)

  pub names_unmet : (n : ℕ) → is_met (for_names n) l ≡ false
  unfolding is_met for_names
  names_unmet zero = refl
  names_unmet (suc n) = rw (met_apart (for_names n) (for_name n ∷ []) l, names_unmet n)

  body_letter : (rs : List Role) (xs : List Item) → is_met (with_body rs xs) l ≡ true →
      (is_met rs l ≡ true) ⊎ List·Memᴰ (letter l) xs
  body_letter rs xs m =
      letters_letter rs xs (rw (met_apart (with_letters rs xs) (tails_of xs) l, tails_unmet xs, or-false) at m)

  -- a body has the letter
  pub record LetterOf (bs : List Body) : Type 0 where
    pub body : Body
    pub is_one : List·Memᴰ body bs
    pub stands : List·Memᴰ (letter l) body.items

  bodies_letter : (rs : List Role) (bs : List Body) → is_met (with_bodies rs bs) l ≡ true →
      (is_met rs l ≡ true) ⊎ LetterOf bs
  unfolding with_bodies
  bodies_letter rs [] m = inl m
  bodies_letter rs (b ∷ bs) m =
      ⊎_elim
      (λ k.
      ⊎_elim inl (λ e. inr (record { body = b; is_one = List·Memᴰ·head refl; stands = e }))
      (body_letter rs b.items k))
      (λ f.
      inr (record { body = f.body; is_one = List·Memᴰ·tail f.is_one; stands = f.stands }))
      (bodies_letter (with_body rs b.items) bs m)

  pub letter_of : (n : ℕ) (bs : List Body) → is_met (with_bodies (for_names n) bs) l ≡ true → LetterOf bs
  letter_of n bs m =
      ⊎_elim (λ k. true_and_false k (names_unmet n)) (λ f. f) (bodies_letter (for_names n) bs m)
