-- What a permutation leaves: membership, the counts of kinds and rules, the number of states, and the field of a kind
-- that stands at most once. Each is by induction on the permutation as data. Assumes nothing.
use Rattle.grammar.proofs.Basics.{◌≡◌, refl, ◌∙◌, ap, List, ◌∷◌, List·Memᴰ, List·Memᴰ·head, List·Memᴰ·tail, List-as-Permᴰ}
use Rattle.grammar.proofs.Basics.{Permᴰ·symm, ℕ, ◌≤◌, arith, eqb, cases, same_test}
use mathlib.Core.List.Permᴰ
use Rattle.job.specs.declared.JobRecord.{JobRecord}
use Rattle.job.specs.Format.{has}
use Rattle.job.specs.Check.{count_kind, count_rules}
use Rattle.job.specs.Job.{field_of, states_of}
use Rattle.job.proofs.Members.{has_member, member_has}

-- a member stays one
pub member_permutes : {A : Type 0} {x : A} {l m : List A} → List-as-Permᴰ l m → List·Memᴰ x l → List·Memᴰ x m
member_permutes Permᴰ.nil n = n
member_permutes (Permᴰ.cons e d) (List·Memᴰ·head p) = List·Memᴰ·head (p ∙ e)
member_permutes (Permᴰ.cons e d) (List·Memᴰ·tail n) = List·Memᴰ·tail (member_permutes d n)
member_permutes (Permᴰ.swap e f) (List·Memᴰ·head p) = List·Memᴰ·tail (List·Memᴰ·head (p ∙ e))
member_permutes (Permᴰ.swap e f) (List·Memᴰ·tail (List·Memᴰ·head p)) = List·Memᴰ·head (p ∙ f)
member_permutes (Permᴰ.swap e f) (List·Memᴰ·tail (List·Memᴰ·tail n)) = List·Memᴰ·tail (List·Memᴰ·tail n)
member_permutes (Permᴰ.trans d e) n = member_permutes e (member_permutes d n)

pub has_permutes : (r : JobRecord) {l m : List JobRecord} → List-as-Permᴰ l m → has l r ≡ has m r
has_permutes r {l} {m} d =
    same_test _ _
    (λ e. member_has (member_permutes d (has_member l r e)))
    (λ e. member_has (member_permutes (Permᴰ·symm d) (has_member m r e)))

-- What a function of the records gives is the same for permuted lists where two neighbours may change places, on lists
-- of a property that permutations keep and tails have.
module _ {B : Type 0} (F : List JobRecord → B) (P : List JobRecord → Type 0)
    (tail : (a : JobRecord) (l : List JobRecord) → P (a ∷ l) → P l)
    (moved : (l m : List JobRecord) → List-as-Permᴰ l m → P l → P m)
    (under : (a : JobRecord) (l m : List JobRecord) → F l ≡ F m → F (a ∷ l) ≡ F (a ∷ m))
    (change : (a b : JobRecord) (l : List JobRecord) → P (a ∷ b ∷ l) → F (a ∷ b ∷ l) ≡ F (b ∷ a ∷ l))
  where
    pub permutes : {l m : List JobRecord} → List-as-Permᴰ l m → P l → F l ≡ F m
    permutes Permᴰ.nil h = refl
    permutes (Permᴰ.cons {a = a} {b = b} {l₁ = l} {l₂ = m} e d) h =
        ap (λ (x : JobRecord). F (x ∷ l)) e ∙ under b l m (permutes d (tail a l h))
    permutes (Permᴰ.swap {a = a} {b = b} {l = l} e f) h = change a b l h ∙ (λ i. F (f i ∷ e i ∷ l))
    permutes (Permᴰ.trans {l₁ = l} {l₂ = m} d e) h = permutes d h ∙ permutes e (moved l m d h)

-- the same on all lists
module _ {B : Type 0} (F : List JobRecord → B)
    (under : (a : JobRecord) (l m : List JobRecord) → F l ≡ F m → F (a ∷ l) ≡ F (a ∷ m))
    (change : (a b : JobRecord) (l : List JobRecord) → F (a ∷ b ∷ l) ≡ F (b ∷ a ∷ l))
  where
    pub always_permutes : {l m : List JobRecord} → List-as-Permᴰ l m → F l ≡ F m
    always_permutes d = permutes F (λ l. Unit {0}) (λ a l h. h) (λ l m p h. h) under (λ a b l h. change a b l) d tt

pub count_kind_permutes : (k : ℕ) {l m : List JobRecord} → List-as-Permᴰ l m → count_kind k l ≡ count_kind k m
unfolding count_kind
count_kind_permutes k = always_permutes (count_kind k) (λ a l m e. rw e) (λ a b l. omega arith)

pub count_rules_permutes : {l m : List JobRecord} → List-as-Permᴰ l m → count_rules l ≡ count_rules m
unfolding count_rules
count_rules_permutes = always_permutes count_rules (λ a l m e. rw e) (λ a b l. omega arith)

pub states_permute : {l m : List JobRecord} → List-as-Permᴰ l m → states_of l ≡ states_of m
unfolding states_of
states_permute = always_permutes states_of (λ a l m e. rw e) (λ a b l. omega arith)

-- of two records at most one is of the kind, so the first of that kind does not depend on their order
pub field_permutes : (k : ℕ) {l m : List JobRecord} → List-as-Permᴰ l m → count_kind k l ≤ 1 → field_of k l ≡ field_of k m
unfolding count_kind field_of
field_permutes k =
    permutes (field_of k) (λ l. count_kind k l ≤ 1)
    (λ a l h. omega arith)
    (λ l m d h. omega (arith, count_kind_permutes k d))
    (λ a l m e. rw e)
    (λ a b l h. cases (eqb a.kind k)
    (λ p. cases (eqb b.kind k) (λ q. omega (arith, rw (p, q) at h)) (λ q. rw (p, q)))
    (λ p. rw p))
