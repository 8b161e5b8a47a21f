-- What stands at each place of the list of roles. It only grows at its end, so that a role keeps its place; the names
-- come first. Assumes nothing.
use Rattle.grammar.proofs.Basics.{◌≡◌, refl, sym, ◌∙◌, ap, subst, cases, List, ◌∷◌, [], ◌++◌, append-nil, append_assoc}
use Rattle.grammar.proofs.Basics.{ℕ, zero, suc, ◌<◌, ◌+◌, arith, length, get_or, length-append, eqb, eqb-true, eqb-false}
use lib.ListN.{get_or-append}
use lib.Seq.{get_or-append-add, get_or_at}
use Rattle.abnf_jobs.specs.Bodies.{Item, named, letter, character, Body}
use Rattle.abnf_jobs.specs.Roles.{Role, for_name, for_letter, for_tail, is_met, with_item, with_letters, tails_of}
use Rattle.abnf_jobs.specs.Roles.{with_body, with_bodies, for_names}

-- a role stands at a place
pub record Has (roles : List Role) (A : ℕ) (r : Role) : Type 0 where
  pub below : A < length roles
  pub is : get_or roles A (for_tail []) ≡ r

module _ {rs : List Role} where
  pub has_one : {A : ℕ} {r s : Role} → Has rs A r → Has rs A s → r ≡ s
  has_one h k = sym h.is ∙ k.is

  pub has_before : {A : ℕ} {r : Role} (more : List Role) → Has rs A r → Has (rs ++ more) A r
  has_before {A} more h =
      record {
        below = omega (arith, h.below, length-append rs more);
        is = get_or-append rs more (for_tail []) A h.below ∙ h.is;
      }

  pub has_behind : {A : ℕ} {r : Role} (before : List Role) → Has rs A r → Has (before ++ rs) (length before + A) r
  has_behind {A} before h =
      record {
        below = omega (arith, h.below, length-append before rs);
        is = get_or-append-add before rs A (for_tail []) ∙ h.is;
      }

-- a list begins with another
pub record Begins (rs all : List Role) : Type 0 where
  pub more : List Role
  pub is : rs ++ more ≡ all

pub has_begun : {rs all : List Role} {A : ℕ} {r : Role} → Begins rs all → Has rs A r → Has all A r
has_begun {A} {r} b h = subst (λ rs. Has rs A r) b.is (has_before b.more h)

begins_self : {rs : List Role} → Begins rs rs
begins_self {rs} = record { more = []; is = append-nil rs }

pub begins_with : {rs : List Role} (more : List Role) → Begins rs (rs ++ more)
begins_with more = record { more = more; is = refl }

pub begins_trans : {rs ss ts : List Role} → Begins rs ss → Begins ss ts → Begins rs ts
begins_trans {rs} b c =
    record {
      more = b.more ++ c.more;
      is = sym (append_assoc rs b.more c.more) ∙ ap (λ ss. ss ++ c.more) b.is ∙ c.is;
    }

item_begins : (rs : List Role) (x : Item) → Begins rs (with_item rs x)
item_begins rs (named n) = begins_self
item_begins rs (letter l) =
    cases (is_met rs l) (λ t. rw t begins_self) (λ t. rw t (begins_with (for_letter l ∷ [])))
item_begins rs (character b) = begins_self

pub letters_begin : (rs : List Role) (xs : List Item) → Begins rs (with_letters rs xs)
unfolding with_letters
letters_begin rs [] = begins_self
letters_begin rs (x ∷ xs) = begins_trans (item_begins rs x) (letters_begin (with_item rs x) xs)

pub body_begins : (rs : List Role) (xs : List Item) → Begins rs (with_body rs xs)
body_begins rs xs = begins_trans (letters_begin rs xs) (begins_with (tails_of xs))

pub bodies_begin : (rs : List Role) (bs : List Body) → Begins rs (with_bodies rs bs)
unfolding with_bodies
bodies_begin rs [] = begins_self
bodies_begin rs (b ∷ bs) =
    begins_trans (body_begins rs b.items) (bodies_begin (with_body rs b.items) bs)

-- the names stand first
pub names_count : (n : ℕ) → length (for_names n) ≡ n
unfolding for_names
names_count zero = refl
names_count (suc n) = omega (arith, names_count n, length-append (for_names n) (for_name n ∷ []))

pub name_has : (n i : ℕ) → i < n → Has (for_names n) i (for_name i)
unfolding for_names
name_has zero i h = absurd (omega arith)
name_has (suc n) i h =
    cases (eqb i n)
    (λ t.
    rw (eqb-true i n t)
    (record {
      below = omega (arith, names_count n, length-append (for_names n) (for_name n ∷ []));
      is = get_or_at (for_names n) (for_name n) [] (for_tail []) n (names_count n);
    }))
    (λ t. let d = eqb-false i n t in has_before (for_name n ∷ []) (name_has n i (omega arith)))
