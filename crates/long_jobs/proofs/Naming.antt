-- What a long job names: the head and the body of each of its productions. Assumes nothing.
use Rattle.grammar.proofs.Basics.{◌≡◌, refl, sym, true, false, or-true, or-false, or_assoc, List, ◌∷◌, List·Memᴰ}
use Rattle.grammar.proofs.Basics.{List·Memᴰ·head, List·Memᴰ·tail, ℕ, eqb, eq-eqb}
use Rattle.grammar.specs.Rule.{head, body}
use Rattle.job.specs.declared.JobRecord.{JobRecord}
use Rattle.job.specs.Format.{is_rule_lem}
use Rattle.job.specs.Job.{rule_of}
use Rattle.long_jobs.specs.Dialect.{is_long_lem, head_of, body_of, short_of}
use Rattle.long_jobs.proofs.RuleKinds.{rule_kinds, for_rule}
use Rattle.long_jobs.specs.Fresh.{short_names_lem, holds, names, is_named_lem}

pub holds_member : {v : ℕ} {xs : List ℕ} → List·Memᴰ v xs → holds xs v ≡ true
unfolding holds
holds_member (List·Memᴰ·head e) = rw (eq-eqb _ _ (sym e))
holds_member (List·Memᴰ·tail m) = rw (holds_member m, or-true)

pub names_named : {r : List ℕ} {rs : List (List ℕ)} (v : ℕ) → List·Memᴰ r rs → names r v ≡ true → is_named_lem rs v ≡ true
unfolding is_named_lem
names_named v (List·Memᴰ·head e) n = rw (← e, n)
names_named v (List·Memᴰ·tail m) n = rw (names_named v m n, or-true)

pub long_names : (r : List ℕ) (X : ℕ) → is_long_lem r ≡ true → List·Memᴰ X (head_of r ∷ body_of r) → names r X ≡ true
unfolding names
long_names r X t m = rw t (holds_member m)

pub rule_not_long : (r : List ℕ) → is_rule_lem (short_of r) ≡ true → is_long_lem r ≡ false
rule_not_long r t = for_rule (λ k. eqb k 76 ≡ false) (short_of r) t refl refl refl

-- a rule names its symbols
pub rule_names : (r : JobRecord) (X : ℕ) → is_rule_lem r ≡ true → List·Memᴰ X (head (rule_of r) ∷ body (rule_of r)) →
    short_names_lem r X ≡ true
unfolding rule_of short_names_lem holds
rule_names r X t m =
    rule_kinds r t
    (λ k. let h = holds_member (rw k at m) in rw k (simp or-false (simp or-false at h)))
    (λ k. let h = holds_member (rw k at m) in rw k (simp or-false (simp or-false at h)))
    (λ k. let h = holds_member (rw k at m) in rw k (simp or_assoc (simp or-false at h)))
