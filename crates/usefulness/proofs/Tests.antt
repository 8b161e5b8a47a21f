-- Laws of the tests on strings and rules: they grow with the set, depend on the symbols of the string alone, and find
-- members. Assumes nothing.
use Rattle.grammar.proofs.Basics.{◌≡◌, refl, ap₂, ⊎_elim, true, Bool, ◌&&◌, ◌||◌, false≢true, or-false, or-true}
use Rattle.grammar.proofs.Basics.{or_assoc, List, ◌∷◌, [], ◌++◌, List·Memᴰ·head, List·Memᴰ·tail, List·Memᴰ·not-nil}
use Rattle.grammar.proofs.Basics.{List·Memᴰ·cases-cons, ℕ, ◌<◌, eq-eqb, eqb-true, cases, Subset, and_left, and_right}
use Rattle.grammar.proofs.Basics.{or_split}
use Rattle.grammar.specs.Rule.{Rule, Among, head, body}
use Rattle.grammar.proofs.Strings.{All, nil, cons, Any, here, there}
use Rattle.usefulness.specs.declared.Direction.{Direction}
use Rattle.usefulness.specs.declared.Direction.TheVariants.{Up, Down, Back}
use Rattle.usefulness.specs.Sets.{all_in_lem, any_in, stands_in, rule_in, within, any_rule, ready, added}

-- the tests as statements on the symbols of a string
pub all_in :
    {P : ℕ → Type 0} (set : ℕ → Bool) (α : List ℕ) → ((X : ℕ) → set X ≡ true → P X) → all_in_lem set α ≡ true → All P α
unfolding all_in_lem
all_in set [] one e = nil
all_in set (X ∷ α) one e = cons (one X (and_left _ _ e)) (all_in set α one (and_right (set X) _ e))

pub in_all :
    {P : ℕ → Type 0} (set : ℕ → Bool) {α : List ℕ} → ((X : ℕ) → P X → set X ≡ true) → All P α → all_in_lem set α ≡ true
unfolding all_in_lem
in_all set one nil = refl
in_all set one (cons p ps) = rw (one _ p) (in_all set one ps)

pub any_in_lem :
    {P : ℕ → Type 0} (set : ℕ → Bool) (α : List ℕ) → ((X : ℕ) → set X ≡ true → P X) → any_in set α ≡ true → Any P α
unfolding any_in
any_in_lem set [] one e = absurd (false≢true e)
any_in_lem set (X ∷ α) one e = ⊎_elim (λ x. here (one X x)) (λ xs. there (any_in_lem set α one xs)) (or_split _ _ e)

pub in_any :
    {P : ℕ → Type 0} (set : ℕ → Bool) {α : List ℕ} → ((X : ℕ) → P X → set X ≡ true) → Any P α → any_in set α ≡ true
unfolding any_in
in_any set one (here p) = rw (one _ p)
in_any set one (there a) = simp (in_any set one a, or-true)

-- a symbol that stands in a string has what all its symbols have
pub stands_has : {P : ℕ → Type 0} (X : ℕ) {α : List ℕ} → All P α → stands_in X α ≡ true → P X
unfolding any_in
stands_has X nil e = absurd (false≢true e)
stands_has X (cons {X = Y} p ps) e = ⊎_elim (λ x. rw (eqb-true Y X x) at p) (stands_has X ps) (or_split _ _ e)

pub stands_first : (X : ℕ) (α : List ℕ) → stands_in X (X ∷ α) ≡ true
unfolding any_in
stands_first X α = rw (eq-eqb X X refl)

pub stands_second : (X Y : ℕ) (α : List ℕ) → stands_in Y (X ∷ Y ∷ α) ≡ true
unfolding any_in
stands_second X Y α = simp (eq-eqb Y Y refl, or-true)

-- the tests depend on the symbols of the string alone
module _ {s t : ℕ → Bool} {n : ℕ} (same : (X : ℕ) → X < n → s X ≡ t X) where
  pub all_same : {α : List ℕ} → All (λ X. X < n) α → all_in_lem s α ≡ all_in_lem t α
  unfolding all_in_lem
  all_same nil = refl
  all_same (cons {X = X} l ls) = ap₂ ◌&&◌ (same X l) (all_same ls)

  pub any_same : {α : List ℕ} → All (λ X. X < n) α → any_in s α ≡ any_in t α
  unfolding any_in
  any_same nil = refl
  any_same (cons {X = X} l ls) = ap₂ ◌||◌ (same X l) (any_same ls)

  pub ready_same : (d : Direction) (ρ : Rule) → All (λ X. X < n) (head ρ ∷ body ρ) → ready d s ρ ≡ ready d t ρ
  ready_same Up ρ (cons l ls) = all_same ls
  ready_same Down ρ (cons l ls) = same (head ρ) l
  ready_same Back ρ (cons l ls) = any_same ls

-- and grow with the set
pub ready_grows : (d : Direction) {s t : ℕ → Bool} → Subset s t → (ρ : Rule) → ready d s ρ ≡ true → ready d t ρ ≡ true
ready_grows Up {s} {t} sub ρ e = in_all t (λ X p. p) (all_in s (body ρ) sub e)
ready_grows Down sub ρ e = sub (head ρ) e
ready_grows Back {s} {t} sub ρ e = in_any t (λ X p. p) (any_in_lem s (body ρ) sub e)

-- what a rule adds is a symbol of the rule
pub added_has :
    {P : ℕ → Type 0} (d : Direction) (ρ : Rule) (X : ℕ) → All P (head ρ ∷ body ρ) → stands_in X (added d ρ) ≡ true → P X
added_has {P} Up ρ X (cons p ps) e = stands_has {P = P} X (cons p nil) e
added_has Down ρ X (cons p ps) e = stands_has X ps e
added_has {P} Back ρ X (cons p ps) e = stands_has {P = P} X (cons p nil) e

-- a rule that passes a test is found
pub any_rule_lem :
    (test : Rule → Bool) (rules : List Rule) → any_rule test rules ≡ true → (ρ : Rule) × Among rules ρ × (test ρ ≡ true)
unfolding any_rule
any_rule_lem test [] e = absurd (false≢true e)
any_rule_lem test (ρ ∷ ρs) e =
    ⊎_elim
    (λ t. (ρ, List·Memᴰ·head refl, t))
    (λ t. let (σ, m, u) = any_rule_lem test ρs t in (σ, List·Memᴰ·tail m, u)) (or_split _ _ e)

pub rule_any :
    (test : Rule → Bool) (rules : List Rule) (ρ : Rule) → Among rules ρ → test ρ ≡ true → any_rule test rules ≡ true
unfolding any_rule
rule_any test (σ ∷ σs) ρ (List·Memᴰ·head e) t = rw (← e, t)
rule_any test (σ ∷ σs) ρ (List·Memᴰ·tail m) t = simp (rule_any test σs ρ m t, or-true)
rule_any test [] ρ x'' t = elim x'' [ ]

-- one rule more
pub any_rule_more : (test : Rule → Bool) (rules : List Rule) (ρ : Rule) →
    any_rule test (rules ++ (ρ ∷ [])) ≡ (any_rule test rules || test ρ)
unfolding any_rule
any_rule_more test [] ρ = or-false (test ρ)
any_rule_more test (σ ∷ σs) ρ = simp (any_rule_more test σs ρ, or_assoc)

-- the rules whose symbols are all in a set
module _ (set : ℕ → Bool) where
  pub within_among :
      (rules : List Rule) (ρ : Rule) → Among (within set rules) ρ → Among rules ρ × (rule_in set ρ ≡ true)
  unfolding within
  within_among [] ρ m = absurd (List·Memᴰ·not-nil m)
  within_among (σ ∷ σs) ρ m =
      cases (rule_in set σ)
      (λ e. ⊎_elim
      (λ p. (List·Memᴰ·head p, rw p e))
      (λ h. let (n, t) = within_among σs ρ h in (List·Memᴰ·tail n, t)) (List·Memᴰ·cases-cons (rw e at m)))
      (λ e. let (n, t) = within_among σs ρ (rw e at m) in (List·Memᴰ·tail n, t))

  pub among_within : (rules : List Rule) (ρ : Rule) → Among rules ρ → rule_in set ρ ≡ true → Among (within set rules) ρ
  unfolding within
  among_within (σ ∷ σs) ρ (List·Memᴰ·head p) t = rw (← p, t) (List·Memᴰ·head refl)
  among_within (σ ∷ σs) ρ (List·Memᴰ·tail m) t =
      let n = among_within σs ρ m t in
      cases (rule_in set σ) (λ e. rw e (List·Memᴰ·tail n)) (λ e. rw e n)
  among_within [] ρ x'' t = elim x'' [ ]

  -- of two lists one behind the other
  pub within_append : (rules more : List Rule) → within set (rules ++ more) ≡ within set rules ++ within set more
  unfolding within
  within_append [] more = refl
  within_append (ρ ∷ ρs) more =
      cases (rule_in set ρ) (λ e. rw (e, within_append ρs more)) (λ e. rw (e, within_append ρs more))
