-- The sorted rules are the rules among the records, strictly rising by the key. So as many of them sort before the one
-- at place i as there are places before i. Assumes nothing.
use Rattle.grammar.proofs.Basics.{◌≡◌, refl, ◌∙◌, sym, ap, ⊎_elim, inl, inr, ◌⊎◌, true, false, Bool, List, ◌∷◌, []}
use Rattle.grammar.proofs.Basics.{List·Memᴰ, List·Memᴰ·head, List·Memᴰ·tail, List·Memᴰ·not-nil, List·Memᴰ·cases-cons}
use Rattle.grammar.proofs.Basics.{Memᴰ·cast, ℕ, ◌<◌, ◌≤◌, suc, zero, le_of_lt, le_refl, eq-or-lt_of_le, arith, ltb}
use Rattle.grammar.proofs.Basics.{leb, length, get_or, lt-ltb, leb-true, leb-false, le-ltb, cases}
use Rattle.grammar.specs.Counting.{count, NoRepeat}
use Rattle.job.specs.declared.JobRecord.{JobRecord}
use Rattle.job.specs.Format.{is_rule_lem}
use Rattle.job.specs.Job.{sort_key_lem, insert, sorted_rules_lem}
use Rattle.grammar.proofs.Counting.{count-all}
use Rattle.grammar.proofs.NoRepeat.{member_at}
use Rattle.job.proofs.Shapes.{key_apart}
use Rattle.job.proofs.SortedRules.{Fitting}

-- what an insert adds to the members
insert_cases : (r x : JobRecord) (l : List JobRecord) → List·Memᴰ x (insert r l) → (x ≡ r) ⊎ List·Memᴰ x l
unfolding insert
insert_cases r x [] m = List·Memᴰ·cases-cons m
insert_cases r x (y ∷ ys) m =
    cases (leb (sort_key_lem r) (sort_key_lem y))
    (λ t. List·Memᴰ·cases-cons (rw t at m))
    (λ t. ⊎_elim
    (λ e. inr (List·Memᴰ·head e))
    (λ n. ⊎_elim inl (λ k. inr (List·Memᴰ·tail k)) (insert_cases r x ys n)) (List·Memᴰ·cases-cons (rw t at m)))

-- the sorted rules are the rules among the records
pub sorted_member : (rs : List JobRecord) {x : JobRecord} → List·Memᴰ x (sorted_rules_lem rs)
    → List·Memᴰ x rs × (is_rule_lem x ≡ true)
unfolding sorted_rules_lem
sorted_member [] m = absurd (List·Memᴰ·not-nil m)
sorted_member (r ∷ rs) {x} m =
    let later : List·Memᴰ x (sorted_rules_lem rs) → List·Memᴰ x (r ∷ rs) × (is_rule_lem x ≡ true) =
    λ n. let (k, t) = sorted_member rs n in (List·Memᴰ·tail k, t) in
    cases (is_rule_lem r)
    (λ t. ⊎_elim (λ e. (List·Memᴰ·head e, ap is_rule_lem e ∙ t)) later (insert_cases r x (sorted_rules_lem rs) (rw t at m)))
    (λ t. later (rw t at m))

-- each sorts before all that come after it
unfoldable pub Rising : List JobRecord → Type 0
Rising [] = Unit {0}
Rising (x ∷ xs) = ((y : JobRecord) → List·Memᴰ y xs → sort_key_lem x < sort_key_lem y) × Rising xs

insert_rising : (r : JobRecord) (l : List JobRecord) → ((y : JobRecord) → List·Memᴰ y l → sort_key_lem y ≡ sort_key_lem r → ⊥)
    → Rising l
    → Rising (insert r l)
unfolding insert Rising
insert_rising r [] other h = (λ y m. absurd (List·Memᴰ·not-nil m), tt)
insert_rising r (x ∷ xs) other h =
    cases (leb (sort_key_lem r) (sort_key_lem x))
    (λ t.
    let first : sort_key_lem r < sort_key_lem x =
    omega (arith, leb-true (sort_key_lem r) (sort_key_lem x) t, other x (List·Memᴰ·head refl)) in
    rw t (λ y m. ⊎_elim (λ e. rw e first) (λ n. omega (arith, h.0 y n)) (List·Memᴰ·cases-cons m), h))
    (λ t.
    rw t (
      λ y m. ⊎_elim (λ e. rw e (leb-false (sort_key_lem r) (sort_key_lem x) t)) (h.0 y) (insert_cases r y xs m),
      insert_rising r xs (λ y m. other y (List·Memᴰ·tail m)) h.1,
    ))

pub sorted_rising : (rs : List JobRecord) → Fitting rs → NoRepeat rs → Rising (sorted_rules_lem rs)
unfolding sorted_rules_lem Rising NoRepeat
sorted_rising [] s d = tt
sorted_rising (r ∷ rs) s d =
    let rest : Rising (sorted_rules_lem rs) = sorted_rising rs (λ x m. s x (List·Memᴰ·tail m)) d.1 in
    cases (is_rule_lem r)
    (λ t. rw t
    (insert_rising r (sorted_rules_lem rs)
    (λ y m e.
    let (n, u) = sorted_member rs m in
    d.0 (Memᴰ·cast (sym (key_apart y r (s y (List·Memᴰ·tail n)) u (s r (List·Memᴰ·head refl)) t e)) n))
    rest))
    (λ t. rw t rest)

-- an earlier place has the smaller key
pub rising_places : (d : JobRecord) (l : List JobRecord) → Rising l → (i j : ℕ) → i < j → j < length l
    → sort_key_lem (get_or l i d) < sort_key_lem (get_or l j d)
unfolding Rising
rising_places d [] h i j p q = omega arith
rising_places d (x ∷ xs) h zero zero p q = omega arith
rising_places d (x ∷ xs) h zero (suc j) p q = h.0 (get_or xs j d) (member_at d xs j (omega arith))
rising_places d (x ∷ xs) h (suc i) zero p q = omega arith
rising_places d (x ∷ xs) h (suc i) (suc j) p q = rising_places d xs h.1 i j (omega arith) (omega arith)

-- a test that passes below i and not from i on counts i
count_front : (t : ℕ → Bool) (i n : ℕ) → i ≤ n → ((k : ℕ) → k < i → t k ≡ true)
    → ((k : ℕ) → i ≤ k → k < n → t k ≡ false) → count t n ≡ i
unfolding count
count_front t i zero h below above = omega arith
count_front t i (suc n) h below above =
    cases (leb i n)
    (λ u.
    let p = leb-true i n u in
    rw (above n p (omega arith)) (omega (arith, count_front t i n p below (λ k a b. above k a (omega arith)))))
    (λ u. let p = leb-false i n u in rw (below n p) (omega (arith, count-all t n (λ k a. below k (omega arith)))))

pub rising_counts : (d : JobRecord) (l : List JobRecord) → Rising l → (i : ℕ) → i < length l
    → count (λ k. ltb (sort_key_lem (get_or l k d)) (sort_key_lem (get_or l i d))) (length l) ≡ i
rising_counts d l h i p =
    count_front _ i _ (omega arith) (λ k b. lt-ltb _ _ (rising_places d l h k i b p))
    (λ k a b. le-ltb _ _
    (⊎_elim (λ e. rw e (le_refl _)) (λ u. le_of_lt (rising_places d l h i k u b)) (eq-or-lt_of_le a)))
