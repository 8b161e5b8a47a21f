-- A rule's kind is E, U or P. Assumes nothing.
use Rattle.grammar.proofs.Basics.{◌≡◌, ⊎_elim, true, ℕ, eqb-true, or_split}
use Rattle.job.specs.declared.JobRecord.{JobRecord}
use Rattle.job.specs.Format.{is_rule_lem, byte_e, byte_u, byte_p}

pub rule_kinds : (r : JobRecord) {T : Type 0} → is_rule_lem r ≡ true → (r.kind ≡ byte_e → T) → (r.kind ≡ byte_u → T) →
    (r.kind ≡ byte_p → T) → T
rule_kinds r t e u p =
    ⊎_elim (λ k. ⊎_elim (λ n. e (eqb-true r.kind 69 n)) (λ n. u (eqb-true r.kind 85 n)) (or_split _ _ k))
    (λ n. p (eqb-true r.kind 80 n)) (or_split _ _ t)

-- what holds for the three kinds holds for a rule's
pub for_rule : (P : ℕ → Type 0) (x : JobRecord) → is_rule_lem x ≡ true → P byte_e → P byte_u → P byte_p → P x.kind
for_rule P x t e u p = rule_kinds x t (λ k. rw k e) (λ k. rw k u) (λ k. rw k p)
