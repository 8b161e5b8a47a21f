-- What holds of an accepted job, for whoever works on it. Each fact is read off the records: what is said there is of
-- its class. Assumes nothing.
use Rattle.grammar.proofs.Basics.{◌≡◌, refl, inl, inr, true, Bool, List, ◌∷◌, [], List·Memᴰ, List·Memᴰ·head}
use Rattle.grammar.proofs.Basics.{List·Memᴰ·tail, Memᴰ·of-map, ℕ, ◌<◌, arith, eqb, length-map, eqb-true, cases}
use Rattle.job.specs.declared.JobRecord.{JobRecord}
use Rattle.job.specs.Format.{field_classes, records_of, bad_field_lem, byte_t, byte_i, byte_f, byte_s}
use Rattle.job.specs.Check.{count_kind}
use Rattle.job.specs.Accepted.{Accepted}
use Rattle.job.specs.Job.{field_of, rule_of, sorted_rules_lem, job_of, job_of_records}
use Rattle.job.specs.Theorems.InRange.{RuleInRange, InRange, AcceptedInRange}
use Rattle.job.specs.Theorems.StateCount.{NamesState}
use Rattle.job.proofs.Members.{has_member}
use Rattle.job.proofs.Shapes.{RuleShape, empty_shape, unit_shape, pair_shape, fields_fit, says_empty, says_unit}
use Rattle.job.proofs.Shapes.{says_pair, rule_shape}
use Rattle.job.proofs.Insertion.{rules_counted}
use Rattle.job.proofs.Ranks.{sorted_member}
use Rattle.job.proofs.States.{named_below_all, states_least}

shape_in_range : (r : JobRecord) → RuleShape r → RuleInRange (rule_of r)
shape_in_range r (empty_shape k f) = rw (says_empty r k) f.0
shape_in_range r (unit_shape k f) = rw (says_unit r k) (omega arith)
shape_in_range r (pair_shape k f) = rw (says_pair r k) (omega arith)

-- a state that a record names is one of 32
named_within : (r : JobRecord) (q : ℕ) → bad_field_lem field_classes r ≡ 0 → NamesState r q → q < 32
named_within r q e (inl (k, inl p)) = rw p (fields_fit byte_t r e k).0
named_within r q e (inl (k, inr p)) = rw p (fields_fit byte_t r e k).2
named_within r q e (inr (inl k, p)) = rw p (fields_fit byte_i r e k).0
named_within r q e (inr (inr k, p)) = rw p (fields_fit byte_f r e k).0

-- the field of a kind that is there is that of a record
pub record FieldFrom (k : ℕ) (rs : List JobRecord) : Type 0 where
  pub from : JobRecord
  pub member : List·Memᴰ from rs
  pub of_kind : from.kind ≡ k
  pub field : field_of k rs ≡ from.first

pub field_from : (k : ℕ) (rs : List JobRecord) → 0 < count_kind k rs → FieldFrom k rs
unfolding count_kind field_of
field_from k [] h = absurd (omega arith)
field_from k (r ∷ rs) h =
    cases (eqb r.kind k)
    (λ t. record { from = r; member = List·Memᴰ·head refl; of_kind = eqb-true r.kind k t; field = rw t })
    (λ t.
    let f = field_from k rs (omega (arith, rw t at h)) in
    record { from = f.from; member = List·Memᴰ·tail f.member; of_kind = f.of_kind; field = cc (t, f.field) })

-- the parts of what a job says
pub job_start : (job : List ℕ) → (job_of job).start ≡ field_of byte_s (records_of job)
unfolding job_of job_of_records
job_start job = refl

pub job_initial : (job : List ℕ) → (job_of job).initial ≡ field_of byte_i (records_of job)
unfolding job_of job_of_records
job_initial job = refl

module _ {needed : Bool} {job : List ℕ} (ok : Accepted needed job) where
  pub in_range : InRange (job_of job)
  unfolding job_of job_of_records
  in_range =
      let rs = records_of job in
      record {
        rules = λ ρ m.
            let (r, n, e) = Memᴰ·of-map rule_of (sorted_rules_lem rs) m in
            let (member, rule) = sorted_member rs n in
            rw e at (shape_in_range r (rule_shape r (ok.fitting r member) rule));
        rule_count = omega (arith, length-map (sorted_rules_lem rs) rule_of, rules_counted rs, ok.few_rules);
        states = states_least rs 32 (λ r q m n. named_within r q (ok.fitting r m) n);
        given_from = λ q X r d. named_below_all q (has_member _ _ d) (inl (refl, inl refl));
        given_symbol = λ q X r d. (fields_fit byte_t _ (ok.fitting _ (has_member _ _ d)) refl).1;
        given_to = λ q X r d. named_below_all r (has_member _ _ d) (inl (refl, inr refl));
      }

  -- each T record has its place in the table
  pub transition_fits : (r : JobRecord) → List·Memᴰ r (records_of job) → r.kind ≡ byte_t
      → (r.first < 32) × (r.second < 64) × (r.third < 32)
  transition_fits r m k = fields_fit byte_t r (ok.fitting r m) k

  pub start_below : (job_of job).start < 32
  start_below =
      let s = field_from byte_s (records_of job) (omega (arith, ok.one_start)) in
      omega (arith, job_start job, fields_fit byte_s s.from (ok.fitting _ s.member) s.of_kind)

  pub initial_below : needed ≡ true → (job_of job).initial < (job_of job).states
  unfolding job_of job_of_records
  initial_below t =
      let s = field_from byte_i (records_of job) (omega (arith, ok.initial_if_needed t)) in
      rw s.field (named_below_all s.from.first s.member (inr (inl s.of_kind, refl)))

pub accepted_in_range_lem : AcceptedInRange
accepted_in_range_lem needed job ok = (in_range ok, initial_below ok)
