-- What a conversion of one record adds to what is written: rules behind it, or one record of another kind. Assumes
-- nothing.
use Rattle.grammar.proofs.Basics.{◌≡◌, refl, List, ◌∷◌, [], ◌++◌, ℕ, ◌≤◌, ◌+◌, arith, length, take, length-append}
use Rattle.grammar.proofs.Basics.{cases}
use lib.Seq.{take-append_seam}
use Rattle.job.specs.declared.JobRecord.{JobRecord}
use Rattle.job.specs.Check.{count_rules}
use Rattle.long_jobs.specs.Dialect.{is_long_lem, head_of, body_of, short_of}
use Rattle.long_jobs.specs.Convert.{Conversion, convert}
use Rattle.long_jobs.proofs.Adds.{Each, none, more}
use Rattle.long_jobs.proofs.Kept.{IsRule, split_rules_lem}
use Rattle.long_jobs.proofs.WrittenFault.{rules_append}

-- records come behind others, and one of them at most is no rule
pub record Added (before after : List JobRecord) : Type 0 where
  pub new : List JobRecord
  pub is : after ≡ before ++ new
  pub most_rules : length new ≤ count_rules new + 1

rules_counted : {xs : List JobRecord} → Each IsRule xs → length xs ≤ count_rules xs
unfolding count_rules
rules_counted none = omega arith
rules_counted (more t ts) = rw t (omega (arith, rules_counted ts))

pub convert_adds : (fresh : ℕ → ℕ) (r : List ℕ) (c : Conversion) → Added c.written (convert fresh r c).written
unfolding convert
convert_adds fresh r c =
    cases (is_long_lem r)
    (λ t.
    let a = split_rules_lem fresh (head_of r) (body_of r) c in
    rw t (record { new = a.new; is = a.is; most_rules = omega (arith, rules_counted a.each) }))
    (λ t. rw t (record { new = short_of r ∷ []; is = refl; most_rules = omega arith }))

module _ {before after : List JobRecord} (a : Added before after) where
  -- what stood before is in front, and one record at most came to it that is no rule
  pub front_kept : take (length before) after ≡ before
  front_kept = rw a.is (take-append_seam before a.new)

  pub added_counted : length after + count_rules before ≤ count_rules after + length before + 1
  added_counted =
      rw a.is (omega (arith, length-append before a.new, rules_append before a.new, a.most_rules))

  pub no_fewer : length before ≤ length after
  no_fewer = rw a.is (omega (arith, length-append before a.new))
