-- The variables are those of the names, of the letters, each once, and of the tails of all bodies. Assumes nothing.
use Rattle.grammar.proofs.Basics.{◌≡◌, refl, sym, ap, subst, ◌↔◌, ⊎_elim, cases, true, false, Bool, ◌&&◌, false≢true}
use Rattle.grammar.proofs.Basics.{true_and_false, and_left, and_right, or_left, or_right, List, [], ◌∷◌, ◌++◌}
use Rattle.grammar.proofs.Basics.{append-nil, List·Memᴰ, List·Memᴰ·head, List·Memᴰ·tail, List·Memᴰ·not-nil}
use Rattle.grammar.proofs.Basics.{List·Memᴰ·cases-cons, ℕ, zero, suc, ◌+◌, ◌-◌, arith, eqb, zero-add, add-one}
use Rattle.grammar.proofs.Basics.{eqb-true, eq-eqb, length, length-append}
use Rattle.grammar.specs.Counting.{NoRepeat}
use Rattle.abnf.specs.declared.Character.{Character}
use Rattle.abnf.specs.Bytes.{is_alpha_lem}
use Rattle.abnf.specs.Text.{Line}
use Rattle.abnf.specs.Meaning.{names_of}
use Rattle.abnf_jobs.specs.Bodies.{Item, named, letter, character, item_of, Body, bodies_of}
use Rattle.abnf_jobs.specs.Roles.{Role, for_name, for_letter, for_tail, is_met, with_item, with_letters, tails_of}
use Rattle.abnf_jobs.specs.Roles.{with_body, with_bodies, for_names, roles_of}
use Rattle.abnf_jobs.specs.Theorems.Written.{CharacterIn}
use Rattle.abnf_jobs.specs.Theorems.Counts.{LetterIn, tails_in, VariablesOnce}
use Rattle.abnf_jobs.proofs.Behind.{no_repeat_behind}
use Rattle.abnf_jobs.proofs.BodyItems.{item_character, character_in}
use Rattle.abnf_jobs.proofs.NamesOnce.{names_once}
use Rattle.abnf_jobs.proofs.LettersMet.{met_begun, letters_met, letter_of}
use Rattle.abnf_jobs.proofs.RolePlaces.{begins_with, begins_trans, bodies_begin}

-- the letters of roles, in their order
unfoldable letters_in : List Role → List ℕ
letters_in [] = []
letters_in (for_name n ∷ rs) = letters_in rs
letters_in (for_letter l ∷ rs) = l ∷ letters_in rs
letters_in (for_tail xs ∷ rs) = letters_in rs

letters_apart : (rs more : List Role) → letters_in (rs ++ more) ≡ letters_in rs ++ letters_in more
unfolding letters_in
letters_apart [] more = refl
letters_apart (for_name n ∷ rs) more = letters_apart rs more
letters_apart (for_letter l ∷ rs) more = ap (λ ls. l ∷ ls) (letters_apart rs more)
letters_apart (for_tail xs ∷ rs) more = letters_apart rs more

-- they are those that are met
met_letter : (rs : List Role) (l : ℕ) → is_met rs l ≡ true → List·Memᴰ l (letters_in rs)
unfolding letters_in is_met
met_letter [] l m = absurd (false≢true m)
met_letter (for_name n ∷ rs) l m = met_letter rs l m
met_letter (for_letter k ∷ rs) l m =
    cases (eqb k l)
    (λ t. List·Memᴰ·head (sym (eqb-true k l t)))
    (λ t. List·Memᴰ·tail (met_letter rs l (rw t at m)))
met_letter (for_tail xs ∷ rs) l m = met_letter rs l m

letter_met : (rs : List Role) (l : ℕ) → List·Memᴰ l (letters_in rs) → is_met rs l ≡ true
unfolding letters_in is_met
letter_met [] l m = absurd (List·Memᴰ·not-nil m)
letter_met (for_name n ∷ rs) l m = letter_met rs l m
letter_met (for_letter k ∷ rs) l m =
    ⊎_elim
    (λ e. or_left (eqb k l) (is_met rs l) (eq-eqb k l (sym e)))
    (λ j. or_right (eqb k l) (is_met rs l) (letter_met rs l j)) (List·Memᴰ·cases-cons m)
letter_met (for_tail xs ∷ rs) l m = letter_met rs l m

-- more roles than before: letters that are new, and so many others
record Grown (rs ss : List Role) (others : ℕ) : Type 0 where
  pub distinct : NoRepeat (letters_in rs) → NoRepeat (letters_in ss)
  pub counted : length ss + length (letters_in rs) ≡ length rs + length (letters_in ss) + others

grown_none : (rs : List Role) → Grown rs rs 0
grown_none rs = record { distinct = λ d. d; counted = omega arith }

grown_further : {rs ss ts : List Role} {m n : ℕ} → Grown rs ss m → Grown ss ts n → Grown rs ts (m + n)
grown_further g h =
    record { distinct = λ d. h.distinct (g.distinct d); counted = omega (arith, g.counted, h.counted) }

letter_grown : (rs : List Role) (l : ℕ) → is_met rs l ≡ false → Grown rs (rs ++ (for_letter l ∷ [])) 0
unfolding letters_in
letter_grown rs l new =
    let letters = letters_apart rs (for_letter l ∷ []) in
    record {
      distinct = λ d. rw letters (no_repeat_behind (letters_in rs) l d (λ m. true_and_false (letter_met rs l m) new));
      counted =
          omega (
            arith,
            length-append rs (for_letter l ∷ []),
            ap length letters,
            length-append (letters_in rs) (l ∷ []),
          );
    }

others_grown : (rs more : List Role) → letters_in more ≡ [] → Grown rs (rs ++ more) (length more)
others_grown rs more none =
    let letters : letters_in (rs ++ more) ≡ letters_in rs = rw (letters_apart rs more, none, append-nil) in
    record { distinct = λ d. rw letters d; counted = omega (arith, ap length letters, length-append rs more) }

-- by the names
names_grown : (n : ℕ) → Grown [] (for_names n) n
unfolding letters_in for_names
names_grown zero = grown_none []
names_grown (suc n) =
    rw (add-one n) at (grown_further (names_grown n) (others_grown (for_names n) (for_name n ∷ []) refl))

-- by the letters of a body, and by its tails
item_grown : (rs : List Role) (x : Item) → Grown rs (with_item rs x) 0
item_grown rs (named n) = grown_none rs
item_grown rs (letter l) = cases (is_met rs l) (λ t. rw t (grown_none rs)) (λ t. rw t (letter_grown rs l t))
item_grown rs (character b) = grown_none rs

letters_grown : (rs : List Role) (xs : List Item) → Grown rs (with_letters rs xs) 0
unfolding with_letters
letters_grown rs [] = grown_none rs
letters_grown rs (x ∷ xs) = grown_further (item_grown rs x) (letters_grown (with_item rs x) xs)

letters_of_tails : (xs : List Item) → letters_in (tails_of xs) ≡ []
unfolding letters_in tails_of
letters_of_tails [] = refl
letters_of_tails (x ∷ []) = refl
letters_of_tails (x ∷ y ∷ []) = refl
letters_of_tails (x ∷ y ∷ z ∷ xs) = letters_of_tails (y ∷ z ∷ xs)

pub tails_long : (xs : List Item) → length (tails_of xs) ≡ length xs - 2
unfolding tails_of
tails_long [] = refl
tails_long (x ∷ []) = refl
tails_long (x ∷ y ∷ []) = refl
tails_long (x ∷ y ∷ z ∷ xs) = omega (arith, tails_long (y ∷ z ∷ xs))

body_grown : (rs : List Role) (xs : List Item) → Grown rs (with_body rs xs) (length xs - 2)
body_grown rs xs =
    let tails = others_grown (with_letters rs xs) (tails_of xs) (letters_of_tails xs) in
    rw (tails_long xs, zero-add (length xs - 2)) at (grown_further (letters_grown rs xs) tails)

bodies_grown : (rs : List Role) (bs : List Body) → Grown rs (with_bodies rs bs) (tails_in bs)
unfolding with_bodies tails_in
bodies_grown rs [] = grown_none rs
bodies_grown rs (b ∷ bs) = grown_further (body_grown rs b.items) (bodies_grown (with_body rs b.items) bs)

-- a letter of some body is met in the end
bodies_met : (rs : List Role) (bs : List Body) (b : Body) (l : ℕ) → List·Memᴰ b bs → List·Memᴰ (letter l) b.items →
    is_met (with_bodies rs bs) l ≡ true
unfolding with_bodies
bodies_met rs (c ∷ bs) b l (List·Memᴰ·head e) k =
    met_begun l
    (begins_trans (begins_with (tails_of c.items)) (bodies_begin (with_body rs c.items) bs))
    (letters_met rs c.items l (subst (λ (y : Body). List·Memᴰ (letter l) y.items) e k))
bodies_met rs (c ∷ bs) b l (List·Memᴰ·tail m) k = bodies_met (with_body rs c.items) bs b l m k
bodies_met rs [] b l x'' k = elim x'' [ ]

-- the letter that an item is
abbrev letter_by : Item → ℕ
letter_by (named n) = 0
letter_by (letter l) = l
letter_by (character b) = 0

abbrev is_letter_lem : Item → Bool
is_letter_lem (named n) = false
is_letter_lem (letter l) = true
is_letter_lem (character b) = false

character_letter : (lines : List Line) (c : Character) (l : ℕ) → CharacterIn lines c → item_of c ≡ letter l →
    LetterIn lines l
character_letter lines c l it e =
    cases (c.either && is_alpha_lem c.byte)
    (λ t. record {
      by = c;
      stands = it;
      of_string = and_left c.either (is_alpha_lem c.byte) t;
      is_letter = and_right c.either (is_alpha_lem c.byte) t;
      is = ap letter_by (rw t at e);
    })
    (λ t. absurd (false≢true (ap is_letter_lem (rw t at e))))

letter_item : {lines : List Line} {l : ℕ} (it : LetterIn lines l) → item_of it.by ≡ letter l
letter_item it = rw (it.of_string, it.is_letter) (ap letter it.is)

module _ (lines : List Line) where
  letter_is_in : (l : ℕ) → List·Memᴰ l (letters_in (roles_of lines)) ↔ LetterIn lines l
  letter_is_in l = (
    λ m.
        let f = letter_of l (length (names_of lines)) (bodies_of lines) (letter_met (roles_of lines) l m) in
        let (c, it, e) = item_character lines f.body (letter l) f.is_one f.stands refl in
        character_letter lines c l it e,
    λ it.
        let (b, m, k) = character_in lines it.by it.stands in
        let stands = subst (λ x. List·Memᴰ x b.items) (letter_item it) k in
        met_letter (roles_of lines) l (bodies_met (for_names (length (names_of lines))) (bodies_of lines) b l m stands),
  )

  pub variables_once : VariablesOnce lines
  unfolding NoRepeat letters_in
  variables_once =
      let n = length (names_of lines) in
      let grown = grown_further (names_grown n) (bodies_grown (for_names n) (bodies_of lines)) in
      record {
        names = names_once lines;
        letters = letters_in (roles_of lines);
        once = grown.distinct tt;
        each = letter_is_in;
        counted = omega (arith, grown.counted);
      }
