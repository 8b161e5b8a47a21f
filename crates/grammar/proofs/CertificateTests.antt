-- The tests that the certificates are made of: for all of a list, for all below a bound, membership, from what comes
-- before. Each computes on concrete lists, and a law says what it decides, by induction on the list. Assumes nothing.
use Rattle.grammar.proofs.Basics.{◌≡◌, refl, ◌∙◌, ap, ⊎_elim, ◌↔◌, inl, inr, true, false, Bool, ◌&&◌, ◌||◌, not}
use Rattle.grammar.proofs.Basics.{false≢true, List, ◌∷◌, [], List·Memᴰ, List·Memᴰ·head, List·Memᴰ·tail}
use Rattle.grammar.proofs.Basics.{List·Memᴰ·not-nil, List·Memᴰ·cases-cons, Memᴰ·cast, ℕ, ◌<◌, suc, zero, arith}
use Rattle.grammar.proofs.Basics.{eqb, eqb-true, eqb-false, not-true, cases, refuted, and_split, or_exact}
use Rattle.grammar.proofs.Basics.{eqb_exact, decided}
use Rattle.grammar.specs.Counting.{NoRepeat}
use Rattle.grammar.specs.Theorems.Examples.{TransitionsOf}
use Rattle.grammar.proofs.Strings.{All, nil, cons}

-- if a, then b
abbrev pub implies : Bool → Bool → Bool
implies a b = not a || b

pub implies_exact : (a b : Bool) → (implies a b ≡ true) ↔ (a ≡ true → b ≡ true)
implies_exact true b = (λ h e. h, λ f. f refl)
implies_exact false b = (λ h e. absurd (false≢true e), λ f. refl)

-- all elements of a list pass
unfoldable pub every : {A : Type 0} → (A → Bool) → List A → Bool
every f [] = true
every f (x ∷ xs) = f x && every f xs

pub every_member : {A : Type 0} (f : A → Bool) {x : A} {xs : List A} → every f xs ≡ true → List·Memᴰ x xs → f x ≡ true
unfolding every
every_member f h (List·Memᴰ·head e) = ap f e ∙ (simp and_split at h).0
every_member f h (List·Memᴰ·tail m) = every_member f (simp and_split at h).1 m

pub every_all :
    {P : ℕ → Type 0} (f : ℕ → Bool) → ((X : ℕ) → f X ≡ true → P X) → (α : List ℕ) → every f α ≡ true → All P α
unfolding every
every_all f sound [] h = nil
every_all f sound (X ∷ α) h = let (x, xs) = simp and_split at h in cons (sound X x) (every_all f sound α xs)

-- all numbers below a bound pass
unfoldable pub every_below : (ℕ → Bool) → ℕ → Bool
every_below f zero = true
every_below f (suc n) = every_below f n && f n

pub every_below_member : (f : ℕ → Bool) (n i : ℕ) → every_below f n ≡ true → i < n → f i ≡ true
unfolding every_below
every_below_member f zero i h l = absurd (omega arith)
every_below_member f (suc n) i h l =
    let (below, last) = simp and_split at h in
    cases (eqb i n)
    (λ e. rw (eqb-true i n e) last)
    (λ e. let d = eqb-false i n e in every_below_member f n i below (omega arith))

-- some element passes
unfoldable pub some : {A : Type 0} → (A → Bool) → List A → Bool
some f [] = false
some f (x ∷ xs) = let rest : Bool = some f xs in f x || rest

pub some_member :
    {A : Type 0} (f : A → Bool) (xs : List A) → some f xs ≡ true → (x : A) × List·Memᴰ x xs × (f x ≡ true)
unfolding some
some_member f [] h = absurd (false≢true h)
some_member f (x ∷ xs) h =
    ⊎_elim
    (λ e. (x, List·Memᴰ·head refl, e))
    (λ e. let (y, m, p) = some_member f xs e in (y, List·Memᴰ·tail m, p)) (simp or_exact at h)

pub member_some : {A : Type 0} (f : A → Bool) {x : A} {xs : List A} → List·Memᴰ x xs → f x ≡ true → some f xs ≡ true
unfolding some
member_some f (List·Memᴰ·head e) h = simp or_exact (inl (rw (← e) h))
member_some f (List·Memᴰ·tail m) h = simp or_exact (inr (member_some f m h))

-- some element is the same as x, where a test decides that
some_same : {A : Type 0} (same : A → A → Bool) → ((x y : A) → (same x y ≡ true) ↔ (x ≡ y)) → (x : A) (xs : List A) →
    (some (same x) xs ≡ true) ↔ List·Memᴰ x xs
some_same same exact x xs = (
  λ h. let (y, m, e) = some_member (same x) xs h in Memᴰ·cast ((exact x y).0 e) m,
  λ m. member_some (same x) m ((exact x x).1 refl),
)

-- a transition of a certificate
abbrev pub Triple : Type 0
Triple = ℕ × ℕ × ℕ

abbrev pub same_triple : Triple → Triple → Bool
same_triple a b = let rest : Bool = eqb a.1 b.1 && eqb a.2 b.2 in eqb a.0 b.0 && rest

pub same_triple_lem : (a b : Triple) → (same_triple a b ≡ true) ↔ (a ≡ b)
same_triple_lem a b = (
  λ h. let (p, (q, r)) = simp decided at h in λ i. (p i, q i, r i),
  λ e. simp decided (ap (λ a. a.0) e, (ap (λ a. a.1) e, ap (λ a. a.2) e)),
)

-- (q, X, r) stands in the list
unfoldable pub has : List Triple → ℕ → ℕ → ℕ → Bool
unfolding some
has ts q X r = some (same_triple (q, X, r)) ts

pub has_exact : (ts : List Triple) (q X r : ℕ) → (has ts q X r ≡ true) ↔ TransitionsOf ts q X r
unfolding has
has_exact ts q X r = some_same same_triple same_triple_lem (q, X, r) ts

-- X stands in the list
unfoldable pub has_symbol : List ℕ → ℕ → Bool
unfolding some
has_symbol l X = some (eqb X) l

pub has_symbol_exact : (l : List ℕ) (X : ℕ) → (has_symbol l X ≡ true) ↔ List·Memᴰ X l
unfolding has_symbol
has_symbol_exact l X = some_same eqb eqb_exact X l

-- no element is the same as a later one
unfoldable pub apart : {A : Type 0} → (A → A → Bool) → List A → Bool
unfolding some
apart same [] = true
apart same (x ∷ xs) = not (some (same x) xs) && apart same xs

pub apart_no_repeat : {A : Type 0} (same : A → A → Bool) → ((x y : A) → (same x y ≡ true) ↔ (x ≡ y)) → (xs : List A) →
    apart same xs ≡ true → NoRepeat xs
unfolding apart NoRepeat
apart_no_repeat same exact [] h = tt
apart_no_repeat same exact (x ∷ xs) h =
    let (new, rest) = simp and_split at h in
    (refuted (some_same same exact x xs) (not-true (some (same x) xs) new), apart_no_repeat same exact xs rest)

-- each element passes a test over those before it
unfoldable pub grounded : {A : Type 0} → (List A → A → Bool) → (before xs : List A) → Bool
grounded by before [] = true
grounded by before (x ∷ xs) = by before x && grounded by (x ∷ before) xs

-- so each has what comes from those before it
module _ {A : Type 0} (P : A → Type 0) (by : List A → A → Bool)
    (step : (before : List A) → ((y : A) → List·Memᴰ y before → P y) → (x : A) → by before x ≡ true → P x) where
  grounded_after : (before xs : List A) → ((y : A) → List·Memᴰ y before → P y) → grounded by before xs ≡ true →
      (y : A) → List·Memᴰ y xs → P y
  unfolding grounded
  grounded_after before [] known h y m = absurd (List·Memᴰ·not-nil m)
  grounded_after before (x ∷ xs) known h y m =
      let (first, rest) = simp and_split at h in
      let now = step before known x first in
      ⊎_elim (λ e. rw e now)
      (grounded_after (x ∷ before) xs (λ z k. ⊎_elim (λ e. rw e now) (known z) (List·Memᴰ·cases-cons k)) rest y)
      (List·Memᴰ·cases-cons m)

  pub grounded_sound : (xs : List A) → grounded by [] xs ≡ true → (y : A) → List·Memᴰ y xs → P y
  grounded_sound xs = grounded_after [] xs (λ y m. absurd (List·Memᴰ·not-nil m))
