-- The sorted rules do not depend on the order of the records: two records that the key tells apart can be inserted in
-- either order. Assumes nothing.
use Rattle.grammar.proofs.Basics.{◌≡◌, refl, sym, ⊎_elim, List, ◌∷◌, [], List·Memᴰ, List·Memᴰ·head, List·Memᴰ·tail}
use Rattle.grammar.proofs.Basics.{List-as-Permᴰ, Permᴰ·symm, ◌<◌, le_of_lt, eq-or-lt_of_le, arith, ltb, leb, ltb-false}
use Rattle.grammar.proofs.Basics.{ltb-true, le-leb, leb-true, lt-leb, cases}
use Rattle.job.specs.declared.JobRecord.{JobRecord}
use Rattle.job.specs.Format.{field_classes, bad_field_lem, is_rule_lem}
use Rattle.job.specs.Job.{sort_key_lem, insert, sorted_rules_lem}
use Rattle.job.proofs.Permutation.{member_permutes, permutes}
use Rattle.job.proofs.Shapes.{key_apart}

-- the fields of each record fit
abbrev pub Fitting : List JobRecord → Type 0
Fitting rs = (r : JobRecord) → List·Memᴰ r rs → bad_field_lem field_classes r ≡ 0

-- two inserts change places: that of the smaller key and that of the larger
below_commutes : (a b : JobRecord) (l : List JobRecord) → sort_key_lem a < sort_key_lem b
    → insert a (insert b l) ≡ insert b (insert a l)
unfolding insert
below_commutes a b [] h = simp (le-leb _ _ (le_of_lt h), lt-leb _ _ h)
below_commutes a b (x ∷ xs) h =
    let before = le-leb _ _ (le_of_lt h) in
    let behind = lt-leb _ _ h in
    cases (leb (sort_key_lem b) (sort_key_lem x))
    (λ t. simp (before, behind, t, le-leb (sort_key_lem a) (sort_key_lem x) (omega (arith, leb-true (sort_key_lem b) (sort_key_lem x) t))))
    (λ t. cases (leb (sort_key_lem a) (sort_key_lem x)) (λ u. simp (behind, t, u)) (λ u. simp (t, u, below_commutes a b xs h)))

insert_commutes : (a b : JobRecord) (l : List JobRecord) → (sort_key_lem a ≡ sort_key_lem b → a ≡ b)
    → insert a (insert b l) ≡ insert b (insert a l)
insert_commutes a b l apart =
    cases (ltb (sort_key_lem a) (sort_key_lem b))
    (λ t. below_commutes a b l (ltb-true _ _ t))
    (λ t. ⊎_elim (λ e. rw (apart (sym e))) (λ h. sym (below_commutes b a l h)) (eq-or-lt_of_le (ltb-false _ _ t)))

pub sorted_permutes : {l m : List JobRecord} → List-as-Permᴰ l m → Fitting l → sorted_rules_lem l ≡ sorted_rules_lem m
unfolding sorted_rules_lem
sorted_permutes =
    permutes sorted_rules_lem Fitting
    (λ a l s r m. s r (List·Memᴰ·tail m))
    (λ l m d s r n. s r (member_permutes (Permᴰ·symm d) n))
    (λ a l m e. rw e)
    (λ a b l s. cases (is_rule_lem a)
    (λ p. cases (is_rule_lem b)
    (λ q. rw (p, q)
    (insert_commutes a b (sorted_rules_lem l)
    (key_apart a b (s a (List·Memᴰ·head refl)) p (s b (List·Memᴰ·tail (List·Memᴰ·head refl))) q)))
    (λ q. rw (p, q)))
    (λ p. rw p))
