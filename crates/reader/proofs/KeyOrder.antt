-- Rules put in order as sort keys are those put in order as records, where their fields are bytes; and they are read
-- back from their keys. Assumes nothing.
use Rattle.grammar.proofs.Basics.{◌≡◌, refl, ◌∙◌, sym, ap, ap₂, ⊎_elim, true, false, cases, not_true_false, List, []}
use Rattle.grammar.proofs.Basics.{◌∷◌, map, List·Memᴰ, List·Memᴰ·head, List·Memᴰ·tail, List·Memᴰ·cases-cons, ◌<◌}
use Rattle.grammar.proofs.Basics.{List·Memᴰ·not-nil, arith, eqb, leb, leb-true, leb-false, eqb-true, eqb-false, subst}
use Rattle.job.specs.declared.JobRecord.{JobRecord}
use Rattle.job.specs.Format.{same, has}
use Rattle.job.specs.Job.{sort_key_lem, insert}
use Rattle.job.specs.Inside.Keys.{record_of_key}
use Rattle.job.specs.Theorems.RankCounts.{FourBytes}
use Rattle.job.proofs.Keys.{key_record}
use Rattle.job.proofs.Members.{same_equal, has_member, member_has}
use Rattle.abnf_jobs.specs.Rules.{insert_once, in_order}
use Rattle.abnf_jobs.proofs.EveryMember.{Every}
use Rattle.abnf_jobs.proofs.DistinctRules.{NoneFalls, insert_keeps, once_member}
use Rattle.text_symbols.specs.Keys.{insert_key_once, keys_in_order}

key_back : (r : JobRecord) → FourBytes r → record_of_key (sort_key_lem r) ≡ r
key_back r f = key_record r f.kind f.second f.third

pub keys_back : (rs : List JobRecord) → Every FourBytes rs → map record_of_key (map sort_key_lem rs) ≡ rs
keys_back [] bytes = refl
keys_back (r ∷ rs) bytes =
    ap₂ ◌∷◌ (key_back r (bytes r (List·Memᴰ·head refl))) (keys_back rs (λ x m. bytes x (List·Memᴰ·tail m)))

-- a record with a lower key than all others is none of them
lower_none : (r : JobRecord) (rs : List JobRecord) → ((x : JobRecord) → List·Memᴰ x rs → sort_key_lem r < sort_key_lem x) →
    has rs r ≡ false
lower_none r rs lower = not_true_false (has rs r) (λ t. omega (arith, lower r (has_member rs r t)))

other_key : (x r : JobRecord) → sort_key_lem x < sort_key_lem r → same x r ≡ false
other_key x r l = not_true_false (same x r) (λ t. omega (arith, ap sort_key_lem (same_equal x r t)))

-- one rule
module _ (r : JobRecord) (f : FourBytes r) where
  once_keys : (rs : List JobRecord) → NoneFalls rs → Every FourBytes rs →
      insert_key_once (sort_key_lem r) (map sort_key_lem rs) ≡ map sort_key_lem (insert_once r rs)
  unfolding insert_key_once insert has NoneFalls
  once_keys [] rise bytes = refl
  once_keys (x ∷ xs) rise bytes =
      cases (leb (sort_key_lem r) (sort_key_lem x))
      (λ t.
      cases (eqb (sort_key_lem x) (sort_key_lem r))
      (λ u.
      let e : r ≡ x =
      sym (key_back r f) ∙ ap record_of_key (sym (eqb-true (sort_key_lem x) (sort_key_lem r) u))
      ∙ key_back x (bytes x (List·Memᴰ·head refl)) in
      let stands : has (x ∷ xs) r ≡ true = member_has (List·Memᴰ·head {xs = xs} e) in
      rw (t, u, stands))
      (λ u.
      let first : sort_key_lem r < sort_key_lem x =
      omega (arith, leb-true (sort_key_lem r) (sort_key_lem x) t, eqb-false (sort_key_lem x) (sort_key_lem r) u) in
      let none : has (x ∷ xs) r ≡ false =
      lower_none r (x ∷ xs)
      (λ y m. ⊎_elim (λ e. rw e first) (λ k. omega (arith, first, rise.0 y k)) (List·Memᴰ·cases-cons m)) in
      rw (t, u, none)))
      (λ t.
      let apart = other_key x r (leb-false (sort_key_lem r) (sort_key_lem x) t) in
      let rest = once_keys xs rise.1 (λ y m. bytes y (List·Memᴰ·tail m)) in
      cases (has xs r)
      (λ h. rw (t, apart, h) (ap (λ ks. sort_key_lem x ∷ ks) (rw h at rest)))
      (λ h. rw (t, apart, h) (ap (λ ks. sort_key_lem x ∷ ks) (rw h at rest))))

  once_none_falls : (rs : List JobRecord) → NoneFalls rs → NoneFalls (insert_once r rs)
  once_none_falls rs rise = cases (has rs r) (λ t. rw t rise) (λ t. rw t (insert_keeps r rs rise))

  once_bytes : (rs : List JobRecord) → Every FourBytes rs → Every FourBytes (insert_once r rs)
  once_bytes rs bytes x m =
      ⊎_elim (λ e. subst FourBytes (sym e) f) (bytes x) (List·Memᴰ·cases-cons ((once_member r rs x).0 m))

-- and all
keys_put : (rs xs : List JobRecord) → NoneFalls rs → Every FourBytes rs → Every FourBytes xs →
    keys_in_order (map sort_key_lem rs) (map sort_key_lem xs) ≡ map sort_key_lem (in_order rs xs)
unfolding keys_in_order in_order
keys_put rs [] rise bytes more = refl
keys_put rs (x ∷ xs) rise bytes more =
    let f = more x (List·Memᴰ·head refl) in
    ap (λ ks. keys_in_order ks (map sort_key_lem xs)) (once_keys x f rs rise bytes)
    ∙ keys_put (insert_once x rs) xs (once_none_falls x f rs rise) (once_bytes x f rs bytes)
    (λ y m. more y (List·Memᴰ·tail m))

pub keys_ordered : (xs : List JobRecord) → Every FourBytes xs →
    keys_in_order [] (map sort_key_lem xs) ≡ map sort_key_lem (in_order [] xs)
unfolding NoneFalls
keys_ordered xs bytes = keys_put [] xs tt (λ x m. absurd (List·Memᴰ·not-nil m)) bytes
