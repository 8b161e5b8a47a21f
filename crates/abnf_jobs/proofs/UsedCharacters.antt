-- The characters used are those that the text's literals stand for, and the list of them has each in its place.
-- Assumes nothing.
use Rattle.grammar.proofs.Basics.{◌≡◌, refl, ◌∙◌, sym, ap, subst, ◌↔◌, ⊎_elim, cases, true, false, Bool, ◌||◌}
use Rattle.grammar.proofs.Basics.{false≢true, List, [], ◌∷◌, ◌++◌, append-nil, List·Memᴰ, List·Memᴰ·head}
use Rattle.grammar.proofs.Basics.{List·Memᴰ·not-nil, List·Memᴰ·append-cases, List·Memᴰ·eq-of-singleton}
use Rattle.grammar.proofs.Basics.{Memᴰ·append-left, Memᴰ·append-right, ℕ, zero, suc, ◌<◌, ◌≤◌, arith, eqb, and_right}
use Rattle.grammar.proofs.Basics.{leb-true, leb, eqb-true, eqb-false, eq-eqb, length, get_or, length-append}
use lib.ListN.{get_or-append}
use lib.Seq.{get_or_at}
use Rattle.grammar.specs.Counting.{count, NoRepeat}
use Rattle.grammar.proofs.NoRepeat.{member_at}
use Rattle.abnf.specs.declared.Character.{Character}
use Rattle.abnf.specs.Bytes.{is_capital, is_alpha_lem, lower}
use Rattle.abnf.specs.Text.{Line}
use Rattle.abnf.specs.Meaning.{StandsFor, itself, same_letter}
use Rattle.abnf_jobs.specs.Bodies.{Item, named, letter, character, item_of, Body, bodies_of}
use Rattle.abnf_jobs.specs.Characters.{stands_for, some_for, used_in, used_below, characters_used}
use Rattle.abnf_jobs.specs.Theorems.Written.{IsUsed}
use Rattle.abnf_jobs.proofs.Premises.{Bytes}
use Rattle.abnf_jobs.proofs.Behind.{ToLater, later_behind, no_repeat_behind}
use Rattle.abnf_jobs.proofs.LetterCases.{one_case}
use Rattle.abnf_jobs.proofs.BodyItems.{is_named_lem, item_character, character_in}
use Rattle.abnf_jobs.proofs.SomeMember.{some_of, some_member, member_some}

module _ (used : ℕ → Bool) where
  -- one number more, if it is used
  used_next : (n : ℕ) → used n ≡ true → used_below used (suc n) ≡ used_below used n ++ (n ∷ [])
  unfolding used_below
  used_next n t = rw t

  used_skip : (n : ℕ) → used n ≡ false → used_below used (suc n) ≡ used_below used n
  unfolding used_below
  used_skip n t = rw (t, append-nil)

  -- as many as are counted
  pub used_long : (n : ℕ) → length (used_below used n) ≡ count used n
  unfolding used_below count
  used_long zero = refl
  used_long (suc n) =
      cases (used n)
      (λ t. rw t (omega (arith, length-append (used_below used n) (n ∷ []), used_long n)))
      (λ t. rw (t, append-nil) (omega (arith, used_long n)))

  -- the members are the numbers below that are used
  pub used_member : (n c : ℕ) → List·Memᴰ c (used_below used n) → (c < n) × (used c ≡ true)
  unfolding used_below
  used_member zero c m = absurd (List·Memᴰ·not-nil m)
  used_member (suc n) c m =
      cases (used n)
      (λ t.
      ⊎_elim
      (λ k. let (l, u) = used_member n c k in (omega arith, u))
      (λ k. let e = List·Memᴰ·eq-of-singleton k in (omega arith, rw e t))
      (List·Memᴰ·append-cases (used_below used n) (subst (List·Memᴰ c) (used_next n t) m)))
      (λ t. let (l, u) = used_member n c (subst (List·Memᴰ c) (used_skip n t) m) in (omega arith, u))

  pub member_used : (n c : ℕ) → c < n → used c ≡ true → List·Memᴰ c (used_below used n)
  member_used zero c l u = absurd (omega arith)
  member_used (suc n) c l u =
      cases (eqb c n)
      (λ q.
      let e = eqb-true c n q in
      rw (used_next n (rw (← e) u)) (Memᴰ·append-right (used_below used n) (List·Memᴰ·head e)))
      (λ q.
      let d = eqb-false c n q in
      let m = member_used n c (omega arith) u in
      cases (used n)
      (λ t. rw (used_next n t) (Memᴰ·append-left (n ∷ []) m))
      (λ t. rw (used_skip n t) m))

  -- each stands where as many are below it
  pub used_place : (n c : ℕ) → c < n → used c ≡ true →
      (count used c < length (used_below used n)) × (get_or (used_below used n) (count used c) 0 ≡ c)
  used_place zero c l u = absurd (omega arith)
  used_place (suc n) c l u =
      let long = length-append (used_below used n) (n ∷ []) in
      cases (eqb c n)
      (λ q.
      let e = eqb-true c n q in
      rw (e, used_next n (rw (← e) u)) (
        omega (arith, long, used_long n),
        get_or_at (used_below used n) n [] 0 (count used n) (used_long n),
      ))
      (λ q.
      let d = eqb-false c n q in
      let (k, at) = used_place n c (omega arith) u in
      cases (used n)
      (λ t.
      let same = get_or-append (used_below used n) (n ∷ []) 0 (count used c) k in
      rw (used_next n t) (omega (arith, long), same ∙ at))
      (λ t. rw (used_skip n t) (k, at)))

  -- they ascend, so that none stands twice
  pub used_ascending : (n : ℕ) → ToLater ◌<◌ 0 (used_below used n)
  unfolding used_below
  used_ascending zero = λ i j l h. absurd (omega arith)
  used_ascending (suc n) =
      let front = used_below used n in
      cases (used n)
      (λ t.
      rw (used_next n t)
      (later_behind ◌<◌ 0 front n (used_ascending n)
      (λ i l. (used_member n (get_or front i 0) (member_at 0 front i l)).0)))
      (λ t. rw (used_skip n t) (used_ascending n))

  pub used_distinct : (n : ℕ) → NoRepeat (used_below used n)
  unfolding used_below NoRepeat
  used_distinct zero = tt
  used_distinct (suc n) =
      cases (used n)
      (λ t.
      rw (used_next n t)
      (no_repeat_behind (used_below used n) n (used_distinct n) (λ m. omega (arith, (used_member n n m).0))))
      (λ t. rw (used_skip n t) (used_distinct n))

-- a small letter is no less than its capital, and a byte if that is one
lower_least : (b : ℕ) → b ≤ lower b
lower_least b = cases (is_capital b) (λ t. rw t (omega arith)) (λ t. rw t (omega arith))

lower_byte : (b : ℕ) → b < 256 → lower b < 256
lower_byte b l =
    cases (is_capital b)
    (λ t. rw t (omega (arith, leb-true b 90 (and_right (leb 65 b) (leb b 90) t))))
    (λ t. rw t l)

-- the item of a character stands for what the character does
item_stands : (b c : ℕ) (either : Bool) → stands_for (item_of (record { byte = b; either = either })) c ≡ true →
    StandsFor (record { byte = b; either = either }) c
item_stands b c false h = subst (StandsFor (record { byte = b; either = false })) (eqb-true b c h) (itself b)
item_stands b c true h =
    cases (is_alpha_lem b)
    (λ t. same_letter b c (sym (eqb-true (lower c) (lower b) (rw t at h))))
    (λ t. same_letter b c (ap lower (eqb-true b c (rw t at h))))

character_stands : (x : Character) (y : Item) (c : ℕ) → item_of x ≡ y → stands_for y c ≡ true → StandsFor x c
character_stands x y c e s = item_stands x.byte c x.either (subst (λ z. stands_for z c ≡ true) (sym e) s)

stands_item : (x : Character) (c : ℕ) → StandsFor x c → stands_for (item_of x) c ≡ true
stands_item x c (itself b) = eq-eqb b b refl
stands_item x c (same_letter b d e) =
    cases (is_alpha_lem b)
    (λ t. rw t (eq-eqb (lower d) (lower b) (sym e)))
    (λ t. rw t (eq-eqb b d (sym (one_case b d t e))))

-- some item stands for a character, some body has one
for_some : (c : ℕ) (xs : List Item) → some_for xs c ≡ some_of (λ x. stands_for x c) xs
unfolding some_for some_of
for_some c [] = refl
for_some c (x ∷ xs) = ap (λ t. stands_for x c || t) (for_some c xs)

in_some : (c : ℕ) (bs : List Body) → used_in bs c ≡ some_of (λ (b : Body). some_for b.items c) bs
unfolding used_in some_of
in_some c [] = refl
in_some c (b ∷ bs) = ap (λ t. some_for b.items c || t) (in_some c bs)

-- a name stands for no character
stands_not_named : (x : Item) (c : ℕ) → stands_for x c ≡ true → is_named_lem x ≡ false
stands_not_named (named n) c s = absurd (false≢true s)
stands_not_named (letter l) c s = refl
stands_not_named (character b) c s = refl

-- a character is used just where a literal stands for it
pub used_is : (lines : List Line) (c : ℕ) → (used_in (bodies_of lines) c ≡ true) ↔ IsUsed lines c
used_is lines c = (
  λ u.
      let (b, m, s) = some_member (λ (b : Body). some_for b.items c) (bodies_of lines) (rw (in_some c) at u) in
      let (x, k, t) = some_member (λ x. stands_for x c) b.items (rw (for_some c) at s) in
      let (y, it, e) = item_character lines b x m k (stands_not_named x c t) in
      record { by = y; stands = it; stands_for_lem = character_stands y x c e t },
  λ u.
      let (b, m, k) = character_in lines u.by u.stands in
      rw (in_some c)
      (member_some (λ (y : Body). some_for y.items c) m
      (rw (for_some c) (member_some (λ x. stands_for x c) k (stands_item u.by c u.stands_for_lem)))),
)

-- where all characters are bytes, so are those that they stand for
stands_byte : (x : Character) (c : ℕ) → x.byte < 256 → StandsFor x c → c < 256
stands_byte x c l (itself b) = l
stands_byte x c l (same_letter b d e) = omega (arith, lower_least d, lower_byte b l)

pub used_byte : (lines : List Line) → Bytes lines → (c : ℕ) → IsUsed lines c → c < 256
used_byte lines bytes c u = stands_byte u.by c (bytes.below u.by u.stands) u.stands_for_lem

-- the list of a text's characters rises, and has those that are used and no others
pub characters_ascending : (lines : List Line) → ToLater ◌<◌ 0 (characters_used lines)
characters_ascending lines = used_ascending (used_in (bodies_of lines)) 256

pub listed_is_used : (lines : List Line) (c : ℕ) → c < 256 → List·Memᴰ c (characters_used lines) ↔ IsUsed lines c
listed_is_used lines c l = (
  λ m. (used_is lines c).0 (used_member (used_in (bodies_of lines)) 256 c m).1,
  λ u. member_used (used_in (bodies_of lines)) 256 c l ((used_is lines c).1 u),
)
