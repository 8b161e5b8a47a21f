-- Records put in order one by one, each once: their members are those put in, none stands twice, and the sort keys do
-- not fall, so that rules among them are sorted as they stand. Assumes nothing.
use Rattle.grammar.proofs.Basics.{◌≡◌, refl, ⊎_elim, ◌↔◌, inl, inr, ◌⊎◌, List, ◌∷◌, [], List·Memᴰ, ◌≤◌, arith}
use Rattle.grammar.proofs.Basics.{List·Memᴰ·head, List·Memᴰ·tail, List·Memᴰ·not-nil, List·Memᴰ·cases-cons, Memᴰ·cast}
use Rattle.grammar.proofs.Basics.{List-as-Permᴰ, Permᴰ·symm, leb, le_of_lt, le-leb, leb-true, leb-false, cases}
use Rattle.grammar.proofs.Basics.{true_and_false}
use mathlib.Core.List.Permᴰ
use Rattle.grammar.specs.Counting.{NoRepeat}
use Rattle.job.specs.declared.JobRecord.{JobRecord}
use Rattle.job.specs.Format.{has}
use Rattle.job.specs.Job.{sort_key_lem, insert, sorted_rules_lem}
use Rattle.long_jobs.proofs.Kept.{IsRule}
use Rattle.job.proofs.Members.{has_member, member_has}
use Rattle.job.proofs.Permutation.{member_permutes}
use Rattle.job.proofs.NoRepeat.{no_repeat_permutes}
use Rattle.abnf.specs.Text.{Line}
use Rattle.abnf_jobs.specs.Rules.{insert_once, in_order, rules_of_lines}
use Rattle.abnf_jobs.specs.Theorems.Counts.{RulesOnce}
use Rattle.abnf_jobs.proofs.EveryMember.{Every}

-- an insert puts one record between the others
insert_permutes : (r : JobRecord) (l : List JobRecord) → List-as-Permᴰ (r ∷ l) (insert r l)
unfolding insert
insert_permutes r [] = Permᴰ.refl (r ∷ [])
insert_permutes r (x ∷ xs) =
    cases (leb (sort_key_lem r) (sort_key_lem x))
    (λ t. rw t (Permᴰ.refl (r ∷ x ∷ xs)))
    (λ t. rw t (Permᴰ.trans (Permᴰ.swap refl refl) (Permᴰ.cons refl (insert_permutes r xs))))

-- the members after one more
pub once_member : (r : JobRecord) (rs : List JobRecord) (x : JobRecord) →
    List·Memᴰ x (insert_once r rs) ↔ List·Memᴰ x (r ∷ rs)
once_member r rs x =
    cases (has rs r)
    (λ t. rw t (
      List·Memᴰ·tail,
      λ m. ⊎_elim (λ e. Memᴰ·cast e (has_member rs r t)) (λ n. n) (List·Memᴰ·cases-cons m),
    ))
    (λ t. rw t (member_permutes (Permᴰ·symm (insert_permutes r rs)), member_permutes (insert_permutes r rs)))

-- and after all
pub in_order_member : (rs xs : List JobRecord) (x : JobRecord) →
    List·Memᴰ x (in_order rs xs) ↔ (List·Memᴰ x rs ⊎ List·Memᴰ x xs)
unfolding in_order
in_order_member rs [] x = (inl, ⊎_elim (λ m. m) (λ m. absurd (List·Memᴰ·not-nil m)))
in_order_member rs (r ∷ xs) x =
    let one = once_member r rs x in
    let rest = in_order_member (insert_once r rs) xs x in (
      λ m. ⊎_elim
          (λ n. ⊎_elim (λ e. inr (List·Memᴰ·head e)) inl (List·Memᴰ·cases-cons (one.0 n)))
          (λ n. inr (List·Memᴰ·tail n)) (rest.0 m),
      λ m. rest.1 (⊎_elim
          (λ n. inl (one.1 (List·Memᴰ·tail n)))
          (λ n. ⊎_elim (λ e. inl (one.1 (List·Memᴰ·head e))) inr (List·Memᴰ·cases-cons n)) m),
    )

-- none stands twice
once_distinct : (r : JobRecord) (rs : List JobRecord) → NoRepeat rs → NoRepeat (insert_once r rs)
unfolding NoRepeat
once_distinct r rs d =
    cases (has rs r)
    (λ t. rw t d)
    (λ t. rw t (no_repeat_permutes (insert_permutes r rs) (λ m. true_and_false (member_has m) t, d)))

in_order_distinct : (rs xs : List JobRecord) → NoRepeat rs → NoRepeat (in_order rs xs)
unfolding in_order
in_order_distinct rs [] d = d
in_order_distinct rs (r ∷ xs) d = in_order_distinct (insert_once r rs) xs (once_distinct r rs d)

-- none has a greater key than one that comes after it
unfoldable pub NoneFalls : List JobRecord → Type 0
NoneFalls [] = Unit {0}
NoneFalls (x ∷ xs) = ((y : JobRecord) → List·Memᴰ y xs → sort_key_lem x ≤ sort_key_lem y) × NoneFalls xs

pub insert_keeps : (r : JobRecord) (l : List JobRecord) → NoneFalls l → NoneFalls (insert r l)
unfolding insert NoneFalls
insert_keeps r [] h = (λ y m. absurd (List·Memᴰ·not-nil m), tt)
insert_keeps r (x ∷ xs) h =
    cases (leb (sort_key_lem r) (sort_key_lem x))
    (λ t.
    let first = leb-true (sort_key_lem r) (sort_key_lem x) t in
    rw t (λ y m. ⊎_elim (λ e. rw e first) (λ n. omega (arith, h.0 y n)) (List·Memᴰ·cases-cons m), h))
    (λ t.
    let first = le_of_lt (leb-false (sort_key_lem r) (sort_key_lem x) t) in
    rw t (
      λ y m. ⊎_elim (λ e. rw e first) (h.0 y)
          (List·Memᴰ·cases-cons (member_permutes (Permᴰ·symm (insert_permutes r xs)) m)),
      insert_keeps r xs h.1,
    ))

in_order_keeps : (rs xs : List JobRecord) → NoneFalls rs → NoneFalls (in_order rs xs)
unfolding in_order
in_order_keeps rs [] h = h
in_order_keeps rs (r ∷ xs) h =
    in_order_keeps (insert_once r rs) xs (cases (has rs r) (λ t. rw t h) (λ t. rw t (insert_keeps r rs h)))

-- a record that sorts behind none is put in front
insert_first : (r : JobRecord) (l : List JobRecord) → ((y : JobRecord) → List·Memᴰ y l → sort_key_lem r ≤ sort_key_lem y) →
    insert r l ≡ r ∷ l
unfolding insert
insert_first r [] h = refl
insert_first r (x ∷ xs) h = rw (le-leb (sort_key_lem r) (sort_key_lem x) (h x (List·Memᴰ·head refl)))

sorted_already : (l : List JobRecord) → Every IsRule l → NoneFalls l → sorted_rules_lem l ≡ l
unfolding sorted_rules_lem NoneFalls
sorted_already [] rules h = refl
sorted_already (r ∷ rs) rules h =
    rw (rules r (List·Memᴰ·head refl), sorted_already rs (λ x m. rules x (List·Memᴰ·tail m)) h.1)
    (insert_first r rs h.0)

module _ (xs : List JobRecord) where
  -- of rules put in order into nothing
  pub ordered_member : (x : JobRecord) → List·Memᴰ x (in_order [] xs) ↔ List·Memᴰ x xs
  ordered_member x =
      let m = in_order_member [] xs x in
      (λ n. ⊎_elim (λ k. absurd (List·Memᴰ·not-nil k)) (λ k. k) (m.0 n), λ n. m.1 (inr n))

  pub ordered_sorted : Every IsRule xs → sorted_rules_lem (in_order [] xs) ≡ in_order [] xs
  unfolding NoneFalls
  ordered_sorted rules =
      sorted_already (in_order [] xs) (λ r m. rules r ((ordered_member r).0 m)) (in_order_keeps [] xs tt)

pub rules_once : (lines : List Line) → RulesOnce lines
unfolding NoRepeat
rules_once lines =
    record {
      once = in_order_distinct [] (rules_of_lines lines) tt;
      each = ordered_member (rules_of_lines lines);
    }
