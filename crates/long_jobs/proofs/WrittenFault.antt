-- 5 and 7 over written records, one record after the other: what is known at record j, and what one more makes of it.
-- Assumes nothing.
use Rattle.grammar.proofs.Basics.{◌≡◌, ◌∙◌, sym, ap, ◌&&◌, List, ◌∷◌, [], ◌++◌, ℕ, ◌<◌, ◌≤◌, ◌+◌, add-one, arith, leb}
use Rattle.grammar.proofs.Basics.{length, get_or, take, drop, drop-cons, take-suc, cases, drop_of_length-le, leb-false}
use lib.Seq.{take_all}
use Rattle.grammar.specs.Counting.{one_if_lem}
use Rattle.job.specs.declared.JobRecord.{JobRecord}
use Rattle.job.specs.Format.{is_rule_lem, has, no_record}
use Rattle.job.specs.Check.{count_rules}
use Rattle.job.proofs.Records.{records_counted}
use Rattle.long_jobs.specs.Walk.{written_fault_lem, fault_from}
use Rattle.long_jobs.specs.Inside.Parts.{fault_of}

pub rules_append : (xs ys : List JobRecord) → count_rules (xs ++ ys) ≡ count_rules xs + count_rules ys
unfolding count_rules
rules_append [] ys = omega arith
rules_append (x ∷ xs) ys = omega (arith, rules_append xs ys)

-- the first of some records
module _ (seen : List JobRecord) (r : JobRecord) (rs : List JobRecord) where
  fault_first : (fault_of seen (count_rules seen) r ≡ 0 → ⊥) →
      written_fault_lem seen (r ∷ rs) ≡ fault_of seen (count_rules seen) r
  unfolding written_fault_lem
  fault_first n =
      cases (has seen r)
      (λ t. rw t)
      (λ t. cases (is_rule_lem r && leb 256 (count_rules seen)) (λ u. rw (t, u)) (λ u. absurd (n (rw (t, u)))))

  fault_rest : fault_of seen (count_rules seen) r ≡ 0 → written_fault_lem seen (r ∷ rs) ≡ written_fault_lem (seen ++ (r ∷ [])) rs
  unfolding written_fault_lem
  fault_rest e =
      cases (has seen r)
      (λ t. absurd (omega (arith, rw t at e)))
      (λ t. cases (is_rule_lem r && leb 256 (count_rules seen)) (λ u. absurd (omega (arith, rw (t, u) at e)))
      (λ u. rw (t, u)))

-- a rule that is not one too many
rules_few : (seen : List JobRecord) (rules : ℕ) (r : JobRecord) → fault_of seen rules r ≡ 0 → rules ≤ 256 →
    rules + one_if_lem (is_rule_lem r) ≤ 256
rules_few seen rules r e few =
    cases (has seen r)
    (λ t. absurd (omega (arith, rw t at e)))
    (λ t. cases (is_rule_lem r)
    (λ u. cases (leb 256 rules) (λ v. absurd (omega (arith, rw (t, u, v) at e)))
    (λ v. rw u (omega (arith, leb-false 256 rules v))))
    (λ u. rw u (omega arith)))

-- the records from one on are tried up to the j-th, and the rules of all before it are counted
pub record Tried (rs : List JobRecord) (from j rules : ℕ) : Type 0 where
  pub rest : fault_from from rs ≡ fault_from j rs
  pub counted : rules ≡ count_rules (take j rs)
  pub few : rules ≤ 256

module _ (rs : List JobRecord) (from j rules : ℕ) (tried : Tried rs from j rules) where
  module _ (n : ℕ) (r : JobRecord) (h : j < length rs) (at : r ≡ get_or rs j no_record)
      (is : n ≡ fault_of (take j rs) rules r) where
    is_counted : n ≡ fault_of (take j rs) (count_rules (take j rs)) r
    is_counted = is ∙ ap (λ k. fault_of (take j rs) k r) tried.counted

    here : fault_from from rs ≡ written_fault_lem (take j rs) (r ∷ drop (j + 1) rs)
    here = tried.rest ∙ rw (drop-cons rs j no_record h, at, add-one)

    pub fault_found : (n ≡ 0 → ⊥) → n ≡ fault_from from rs
    fault_found z = rw here (is_counted ∙ sym (fault_first (take j rs) r _ (λ e. z (is_counted ∙ e))))

    pub tried_more : n ≡ 0 → Tried rs from (j + 1) (rules + one_if_lem (is_rule_lem r))
    unfolding count_rules
    tried_more e =
        let more = take-suc rs j no_record h in
        record {
          rest = here ∙ fault_rest (take j rs) r _ (sym is_counted ∙ e) ∙ rw (add-one, more, at);
          counted = rw (add-one, more, rules_append, ← at, ← tried.counted) (omega arith);
          few = rules_few (take j rs) rules r (sym is ∙ e) tried.few;
        }

  module _ (h : length rs ≤ j) where
    pub no_fault : 0 ≡ fault_from from rs
    unfolding written_fault_lem
    no_fault = rw (tried.rest, drop_of_length-le rs)

    pub all_counted : (rules ≡ count_rules rs) × (rules ≤ 256)
    all_counted = (tried.counted ∙ rw take_all, tried.few)

-- what the loop over written records needs
pub ruleset steps = (records_counted, no_fault, all_counted)
