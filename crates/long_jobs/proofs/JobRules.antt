-- The rules of a job are those of its rule records. Assumes nothing.
use Rattle.grammar.proofs.Basics.{◌≡◌, refl, ⊎_elim, inl, inr, ◌⊎◌, true, List, ◌∷◌, [], List·Memᴰ, List·Memᴰ·head}
use Rattle.grammar.proofs.Basics.{List·Memᴰ·tail, Memᴰ·of-map, List·Memᴰ·cases-cons, leb, ℕ, cases}
use mathlib.Core.List.Memᴰ
use Rattle.grammar.specs.Rule.{head, body, ProductionsOf, of_rule, Among}
use Rattle.job.specs.declared.JobRecord.{JobRecord}
use Rattle.job.specs.Format.{is_rule_lem}
use Rattle.job.specs.Job.{sort_key_lem, insert, sorted_rules_lem, rule_of, job_of_records}
use Rattle.job.proofs.Ranks.{sorted_member}

inserted : (r : JobRecord) (l : List JobRecord) {x : JobRecord} → (x ≡ r) ⊎ List·Memᴰ x l → List·Memᴰ x (insert r l)
unfolding insert
inserted r [] m = ⊎_elim List·Memᴰ·head List·Memᴰ·tail m
inserted r (y ∷ ys) m =
    cases (leb (sort_key_lem r) (sort_key_lem y))
    (λ t. rw t (⊎_elim List·Memᴰ·head List·Memᴰ·tail m))
    (λ t. rw t (⊎_elim (λ e. List·Memᴰ·tail (inserted r ys (inl e)))
    (λ n. ⊎_elim List·Memᴰ·head (λ k. List·Memᴰ·tail (inserted r ys (inr k))) (List·Memᴰ·cases-cons n)) m))

member_sorted : {r : JobRecord} {ws : List JobRecord} → List·Memᴰ r ws → is_rule_lem r ≡ true →
    List·Memᴰ r (sorted_rules_lem ws)
unfolding sorted_rules_lem
member_sorted {ws = x ∷ ws} (List·Memᴰ·head e) t = rw (← e, t) (inserted _ (sorted_rules_lem ws) (inl refl))
member_sorted {ws = x ∷ ws} (List·Memᴰ·tail m) t =
    cases (is_rule_lem x) (λ u. rw u (inserted x (sorted_rules_lem ws) (inr (member_sorted m t))))
    (λ u. rw u (member_sorted m t))
member_sorted {r = r} {ws = []} x5 t = elim x5 [ ]

module _ (ws : List JobRecord) where
  pub record_production : (r : JobRecord) → List·Memᴰ r ws → is_rule_lem r ≡ true →
      ProductionsOf (Among (job_of_records ws).rules) (head (rule_of r)) (body (rule_of r))
  unfolding job_of_records
  record_production r m t = of_rule (rule_of r) (Memᴰ.map rule_of (member_sorted m t))

  -- what holds of the rule of each rule record holds of each production
  pub production_record : (T : ℕ → List ℕ → Type 0) →
      ((r : JobRecord) → List·Memᴰ r ws → is_rule_lem r ≡ true → T (head (rule_of r)) (body (rule_of r))) →
      (A : ℕ) (β : List ℕ) → ProductionsOf (Among (job_of_records ws).rules) A β → T A β
  unfolding job_of_records
  production_record T each A β (of_rule ρ m) =
      let (r, n, e) = Memᴰ·of-map rule_of (sorted_rules_lem ws) m in
      let (k, t) = sorted_member ws n in
      rw e at (each r k t)
