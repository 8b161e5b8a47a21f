-- The sort keys of an accepted job's rules hold the rules: a key's four bytes are the record's, so each key decodes to
-- the rule of its rank. Assumes nothing.
use Rattle.grammar.proofs.Basics.{◌≡◌, refl, ◌∙◌, ap, ap₂, inl, inr, ◌⊎◌, Bool, List, ◌∷◌, [], List·Memᴰ}
use Rattle.grammar.proofs.Basics.{List·Memᴰ·head, List·Memᴰ·tail, map, ℕ, ◌<◌, arith, length, get_or}
use Rattle.grammar.proofs.Basics.{length-map, List·getD-map}
use Rattle.grammar.proofs.NoRepeat.{member_at}
use Rattle.job.specs.declared.JobRecord.{JobRecord}
use Rattle.job.specs.Format.{records_of, no_record, byte_e, byte_u, byte_p}
use Rattle.job.specs.Accepted.{Accepted}
use Rattle.job.specs.Job.{sort_key_lem, sorted_rules_lem, rule_of, job_of, job_of_records}
use Rattle.job.specs.Inside.Keys.{key_head, key_kind, key_second, key_third, record_of_key, rule_of_key, KeyFits, Keys, rules_of_keys}
use Rattle.job.proofs.Members.{record_path}
use Rattle.job.proofs.Shapes.{RuleShape, empty_shape, unit_shape, pair_shape, rule_shape, shape_bounds}
use Rattle.job.proofs.Ranks.{sorted_member}
use Rattle.job.proofs.Insertion.{rules_counted}

-- the four bytes of a record's key are the record's
record Decoded (r : JobRecord) : Type 0 where
  pub head : key_head (sort_key_lem r) ≡ r.first
  pub kind : key_kind (sort_key_lem r) ≡ r.kind
  pub second : key_second (sort_key_lem r) ≡ r.second
  pub third : key_third (sort_key_lem r) ≡ r.third

decoded : {r : JobRecord} → RuleShape r → Decoded r
decoded s = let b = shape_bounds s in omega arith

-- so it is read back, where its fields are bytes
pub key_record : (r : JobRecord) → r.kind < 256 → r.second < 256 → r.third < 256 → record_of_key (sort_key_lem r) ≡ r
key_record r k s t = record_path _ _ (omega arith) (omega arith) (omega arith) (omega arith)

-- and says the record's rule
key_says : {r : JobRecord} → RuleShape r → rule_of_key (sort_key_lem r) ≡ rule_of r
unfolding rule_of_key rule_of
key_says s = let d = decoded s in rw (d.head, d.kind, d.second, d.third)

-- and the key of a rule's record fits
key_fits : {r : JobRecord} → RuleShape r → KeyFits (sort_key_lem r)
key_fits {r} s =
    let d = decoded s in
    let b = shape_bounds s in
    record { kind = rw d.kind (kind s); head = omega arith; second = omega arith; third = omega arith }
  where
    kind : RuleShape r → (r.kind ≡ byte_e) ⊎ ((r.kind ≡ byte_u) ⊎ (r.kind ≡ byte_p))
    kind (empty_shape k f) = inl k
    kind (unit_shape k f) = inr (inl k)
    kind (pair_shape k f) = inr (inr k)

keys_say : (rs : List JobRecord) → ((r : JobRecord) → List·Memᴰ r rs → RuleShape r)
    → map rule_of_key (map sort_key_lem rs) ≡ map rule_of rs
keys_say [] shaped = refl
keys_say (r ∷ rs) shaped =
    ap₂ ◌∷◌ (key_says (shaped r (List·Memᴰ·head refl))) (keys_say rs (λ x m. shaped x (List·Memᴰ·tail m)))

module _ {needed : Bool} {job : List ℕ} (ok : Accepted needed job) where
  shaped : (r : JobRecord) → List·Memᴰ r (sorted_rules_lem (records_of job)) → RuleShape r
  shaped r m =
      let (member, rule) = sorted_member (records_of job) m in
      rule_shape r (ok.fitting r member) rule

  -- keys that are those of the rules, in the order of their ranks
  module _ {keys : List ℕ} (sorted : keys ≡ map sort_key_lem (sorted_rules_lem (records_of job))) where
    keys_counted : length keys ≡ length (sorted_rules_lem (records_of job))
    keys_counted = ap length sorted ∙ length-map (sorted_rules_lem (records_of job)) sort_key_lem

    key_at : (k : ℕ) → k < length keys → get_or keys k 0 ≡ sort_key_lem (get_or (sorted_rules_lem (records_of job)) k no_record)
    key_at k h =
        ap (λ (l : List ℕ). get_or l k 0) sorted
        ∙ List·getD-map sort_key_lem (sorted_rules_lem (records_of job)) k no_record

    pub job_keys : Keys keys
    job_keys =
        record {
          few = omega (arith, keys_counted, rules_counted (records_of job), ok.few_rules);
          fit = λ k h.
              let r = get_or (sorted_rules_lem (records_of job)) k no_record in
              let l : k < length (sorted_rules_lem (records_of job)) = omega (arith, keys_counted) in
              rw (key_at k h) (key_fits (shaped r (member_at no_record (sorted_rules_lem (records_of job)) k l)));
        }

    pub job_rules : rules_of_keys keys ≡ (job_of job).rules
    unfolding job_of job_of_records
    job_rules = ap rules_of_keys sorted ∙ keys_say (sorted_rules_lem (records_of job)) shaped
