-- Accepted jobs with the same grammar say the same rules and start symbol: two rising lists with the same members are
-- equal, as the first of each is the least. Assumes nothing.
use Rattle.grammar.proofs.Basics.{◌≡◌, refl, ◌∙◌, sym, ap, ap₂, ⊎_elim, inl, inr, ◌⊎◌, true, false, ◌||◌, List, ◌∷◌}
use Rattle.grammar.proofs.Basics.{List·Memᴰ, List·Memᴰ·head, List·Memᴰ·tail, List·Memᴰ·not-nil, List·Memᴰ·cases-cons}
use Rattle.grammar.proofs.Basics.{[], map, ℕ, ◌<◌, ◌≤◌, arith, eqb, leb, eq-eqb, cases, or_left, or_right}
use Rattle.job.specs.declared.JobRecord.{JobRecord}
use Rattle.job.specs.Format.{records_of, is_rule_lem, byte_s}
use Rattle.job.specs.Check.{count_kind}
use Rattle.job.specs.Accepted.{Accepted}
use Rattle.job.specs.Job.{sort_key_lem, insert, sorted_rules_lem, field_of, rule_of, job_of, job_of_records}
use Rattle.job.proofs.Members.{has_member, member_has}
use Rattle.job.proofs.Ranks.{Rising, sorted_member, sorted_rising}
use Rattle.job.proofs.AcceptedFacts.{field_from, job_start}
use Rattle.job.specs.Order.{SameGrammar}

-- an insert keeps the members and adds the record
insert_member : (r x : JobRecord) (l : List JobRecord) → (x ≡ r) ⊎ List·Memᴰ x l → List·Memᴰ x (insert r l)
unfolding insert
insert_member r x [] m = ⊎_elim List·Memᴰ·head List·Memᴰ·tail m
insert_member r x (y ∷ ys) m =
    cases (leb (sort_key_lem r) (sort_key_lem y))
    (λ t. rw t (⊎_elim List·Memᴰ·head List·Memᴰ·tail m))
    (λ t. rw t
    (⊎_elim
    (λ e. List·Memᴰ·tail (insert_member r x ys (inl e)))
    (λ n. ⊎_elim List·Memᴰ·head (λ k. List·Memᴰ·tail (insert_member r x ys (inr k))) (List·Memᴰ·cases-cons n)) m))

-- a rule among the records is among the sorted rules
member_sorted : {x : JobRecord} {rs : List JobRecord} → List·Memᴰ x rs → is_rule_lem x ≡ true
    → List·Memᴰ x (sorted_rules_lem rs)
unfolding sorted_rules_lem
member_sorted {x = x} {rs = r ∷ rs} (List·Memᴰ·head e) t =
    rw (ap is_rule_lem (sym e) ∙ t) (insert_member r x (sorted_rules_lem rs) (inl e))
member_sorted {x = x} {rs = r ∷ rs} (List·Memᴰ·tail m) t =
    cases (is_rule_lem r)
    (λ u. rw u (insert_member r x (sorted_rules_lem rs) (inr (member_sorted m t))))
    (λ u. rw u (member_sorted m t))
member_sorted {x = x} {rs = []} x6 t = elim x6 [ ]

-- the members of one list are members of the other
abbrev Inside : List JobRecord → List JobRecord → Type 0
Inside l m = (x : JobRecord) → List·Memᴰ x l → List·Memᴰ x m

-- behind an equal first record the rest is inside too, as none of it is the first
inside_rest : {x y : JobRecord} {xs ys : List JobRecord} → x ≡ y → Rising (x ∷ xs) → Inside (x ∷ xs) (y ∷ ys)
    → Inside xs ys
unfolding Rising
inside_rest {x} e h i z m =
    ⊎_elim (λ p. absurd (omega (arith, h.0 z m, ap sort_key_lem (p ∙ sym e)))) (λ n. n)
    (List·Memᴰ·cases-cons (i z (List·Memᴰ·tail m)))

-- two rising lists with the same members are equal
rising_equal : (l m : List JobRecord) → Rising l → Rising m → Inside l m → Inside m l → l ≡ m
unfolding Rising
rising_equal [] [] h k i j = refl
rising_equal [] (y ∷ ys) h k i j = absurd (List·Memᴰ·not-nil (j y (List·Memᴰ·head refl)))
rising_equal (x ∷ xs) [] h k i j = absurd (List·Memᴰ·not-nil (i x (List·Memᴰ·head refl)))
rising_equal (x ∷ xs) (y ∷ ys) h k i j =
    let first : x ≡ y =
    ⊎_elim (λ e. e)
    (λ m. ⊎_elim sym (λ n. absurd (omega (arith, k.0 x m, h.0 y n)))
    (List·Memᴰ·cases-cons (j y (List·Memᴰ·head refl))))
    (List·Memᴰ·cases-cons (i x (List·Memᴰ·head refl))) in
    ap₂ ◌∷◌ first (rising_equal xs ys h.1 k.1 (inside_rest first h i) (inside_rest (sym first) k j))

-- a record counts for its kind
member_counted : (k : ℕ) {r : JobRecord} {rs : List JobRecord} → List·Memᴰ r rs → r.kind ≡ k → 0 < count_kind k rs
unfolding count_kind
member_counted k (List·Memᴰ·head e) q = rw (← e, eq-eqb _ k q) (omega arith)
member_counted k (List·Memᴰ·tail m) q = omega (arith, member_counted k m q)

-- the field of a kind that stands at most once is that of any record of the kind
only_field : (k : ℕ) {r : JobRecord} {rs : List JobRecord} → count_kind k rs ≤ 1 → List·Memᴰ r rs → r.kind ≡ k
    → field_of k rs ≡ r.first
unfolding count_kind field_of
only_field k h (List·Memᴰ·head e) q = rw (← e, eq-eqb _ k q)
only_field k {rs = x ∷ xs} h (List·Memᴰ·tail m) q =
    cases (eqb x.kind k)
    (λ t. absurd (omega (arith, rw t at h, member_counted k m q)))
    (λ t. rw t (only_field k (omega arith) m q))

module _ {a b : List ℕ} (ok : Accepted false a) (other : Accepted false b) (same : SameGrammar a b) where
  -- a record of a rule or of the start symbol is a record of the other job
  carried : (r : JobRecord) → List·Memᴰ r (records_of a) → (is_rule_lem r || eqb r.kind byte_s) ≡ true
      → List·Memᴰ r (records_of b)
  carried r m t = has_member (records_of b) r (sym (same r t) ∙ member_has m)

  sorted_inside : Inside (sorted_rules_lem (records_of a)) (sorted_rules_lem (records_of b))
  sorted_inside r m =
      let (n, t) = sorted_member (records_of a) m in
      member_sorted (carried r n (or_left (is_rule_lem r) (eqb r.kind byte_s) t)) t

  -- so the start symbol is the same
  pub same_start : (job_of a).start ≡ (job_of b).start
  same_start =
      let s = field_from byte_s (records_of a) (omega (arith, ok.one_start)) in
      let t = or_right (is_rule_lem s.from) (eqb s.from.kind byte_s) (eq-eqb _ _ s.of_kind) in
      let m = carried s.from s.member t in
      job_start a ∙ s.field ∙ sym (job_start b ∙ only_field byte_s (omega (arith, other.one_start)) m s.of_kind)

-- and so are the rules
pub same_rules_lem : {a b : List ℕ} → Accepted false a → Accepted false b → SameGrammar a b
    → (job_of a).rules ≡ (job_of b).rules
unfolding job_of job_of_records
same_rules_lem {a} {b} ok other same =
    ap (map rule_of)
    (rising_equal (sorted_rules_lem (records_of a)) (sorted_rules_lem (records_of b))
    (sorted_rising (records_of a) ok.fitting ok.distinct)
    (sorted_rising (records_of b) other.fitting other.distinct)
    (sorted_inside ok other same) (sorted_inside other ok (λ r t. sym (same r t))))
