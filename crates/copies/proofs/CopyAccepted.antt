-- A copy is an accepted job whose rules and start symbol are the clean ones: S, and then rules in range that rise, are
-- sorted as they stand, and none stands twice. Assumes nothing.
use Rattle.grammar.proofs.Basics.{◌≡◌, refl, ap, ap₂, ⊎_elim, false, Bool, List, ◌∷◌, [], List·Memᴰ, map}
use Rattle.grammar.proofs.Basics.{List·Memᴰ·head, List·Memᴰ·cases-cons, Memᴰ·of-map, ℕ, ◌<◌, ◌≤◌, le_of_lt, arith}
use Rattle.grammar.proofs.Basics.{length, length-map, lt-ltb, le-leb, cases, false≢true, true_and_false}
use Rattle.grammar.specs.Rule.{Rule, empty, unit, pair}
use Rattle.grammar.specs.Counting.{NoRepeat}
use Rattle.job.specs.declared.JobRecord.{JobRecord}
use Rattle.job.specs.Format.{field_classes, bytes_of, row_of, bad_field_lem, is_rule_lem, byte_i, byte_s}
use Rattle.job.specs.Check.{count_kind}
use Rattle.job.specs.Accepted.{Accepted}
use Rattle.job.specs.Job.{sort_key_lem, insert, sorted_rules_lem, rule_of, start_record, record_of_lem, field_of, job_of, job_of_records}
use Rattle.job.proofs.RuleRecords.{record_rule, record_fits}
use Rattle.job.proofs.Bytes.{records_of_bytes, bytes_counted}
use Rattle.job.proofs.Insertion.{rules_counted}
use Rattle.job.proofs.Ranks.{Rising}
use Rattle.job.proofs.AcceptedFacts.{in_range, start_below}
use Rattle.usefulness.specs.Sets.{rule_in, within}
use Rattle.job.specs.Theorems.InRange.{RulesInRange}
use Rattle.usefulness.specs.Usefulness.{useful, useful_rules}
use Rattle.copies.specs.Copy.{new_number, renumbered, clean_start, clean_rules, clean_records}
use Rattle.copies.proofs.CleanRange.{clean_in_range, clean_start_below}
use Rattle.copies.proofs.RisingCopy.{copy_rising}

-- a record that sorts before all others is put in front of them
insert_first : (r : JobRecord) (l : List JobRecord) → ((y : JobRecord) → List·Memᴰ y l → sort_key_lem r < sort_key_lem y)
    → insert r l ≡ r ∷ l
unfolding insert
insert_first r [] h = refl
insert_first r (x ∷ xs) h = rw (le-leb (sort_key_lem r) (sort_key_lem x) (le_of_lt (h x (List·Memᴰ·head refl))))

-- the kind is known and the fields fit
abbrev Fits : JobRecord → Type 0
Fits r = (row_of r.kind < 7) × (bad_field_lem field_classes r ≡ 0)

start_fits : {A : ℕ} → A < 32 → Fits (start_record A)
unfolding bad_field_lem
start_fits {A} l = (omega arith, rw (lt-ltb A 32 l))

-- no rule is an S or an I
no_kind : (ρs : List Rule) → (count_kind byte_s (map record_of_lem ρs) ≡ 0) × (count_kind byte_i (map record_of_lem ρs) ≡ 0)
unfolding count_kind
no_kind [] = (refl, refl)
no_kind (empty A ∷ ρs) = omega (arith, no_kind ρs)
no_kind (unit A X ∷ ρs) = omega (arith, no_kind ρs)
no_kind (pair A X Y ∷ ρs) = omega (arith, no_kind ρs)

-- rules that rise are sorted as they stand
sorted_already : (ρs : List Rule) → Rising (map record_of_lem ρs) → sorted_rules_lem (map record_of_lem ρs) ≡ map record_of_lem ρs
unfolding sorted_rules_lem Rising
sorted_already [] h = refl
sorted_already (ρ ∷ ρs) h =
    rw ((record_rule ρ).0, sorted_already ρs h.1) (insert_first (record_of_lem ρ) (map record_of_lem ρs) h.0)

rules_read : (ρs : List Rule) → map rule_of (map record_of_lem ρs) ≡ ρs
rules_read [] = refl
rules_read (ρ ∷ ρs) = ap₂ ◌∷◌ (record_rule ρ).1 (rules_read ρs)

-- and none of them stands twice
rising_distinct : (l : List JobRecord) → Rising l → NoRepeat l
unfolding Rising NoRepeat
rising_distinct [] h = tt
rising_distinct (x ∷ xs) h = (λ m. omega (arith, h.0 x m), rising_distinct xs h.1)

-- some of the rules are no more than all
fewer_within : (set : ℕ → Bool) (rules : List Rule) → length (within set rules) ≤ length rules
unfolding within
fewer_within set [] = omega arith
fewer_within set (ρ ∷ ρs) =
    let rest = fewer_within set ρs in
    cases (rule_in set ρ) (λ t. rw t (omega arith)) (λ t. rw t (omega arith))

-- a job of S and then rules that rise
module _ (A : ℕ) (ρs : List Rule) (rising : Rising (map record_of_lem ρs)) where
  abbrev records : List JobRecord
  records = start_record A ∷ map record_of_lem ρs

  start_sorted : sorted_rules_lem records ≡ map record_of_lem ρs
  unfolding sorted_rules_lem
  start_sorted = sorted_already ρs rising

  start_rules : (job_of (bytes_of records)).rules ≡ ρs
  unfolding job_of job_of_records
  start_rules = rw (records_of_bytes records, start_sorted) (rules_read ρs)

  start_start : (job_of (bytes_of records)).start ≡ A
  unfolding job_of job_of_records field_of
  start_start = rw (records_of_bytes records)

  start_accepted : A < 32 → RulesInRange ρs → length ρs ≤ 256 → Accepted false (bytes_of records)
  unfolding count_kind NoRepeat
  start_accepted below range few =
      let counted = bytes_counted records in
      let long = length-map ρs record_of_lem in
      let (no_start, no_initial) = no_kind ρs in
      let read = records_of_bytes records in
      let fits : (r : JobRecord) → List·Memᴰ r records → Fits r =
      λ r m. ⊎_elim (λ e. rw e (start_fits below))
      (λ n. let (ρ, k, e) = Memᴰ·of-map record_of_lem ρs n in rw (← e) (record_fits ρ (range ρ k)))
      (List·Memᴰ·cases-cons m) in
      record {
        within = omega arith;
        whole = omega arith;
        known = rw read (λ r m. (fits r m).0);
        fitting = rw read (λ r m. (fits r m).1);
        distinct = rw read (
          λ m. let (ρ, k, e) = Memᴰ·of-map record_of_lem ρs m in true_and_false (record_rule ρ).0 (ap is_rule_lem e),
          rising_distinct (map record_of_lem ρs) rising,
        );
        one_start = rw read (omega arith);
        one_initial = rw read (omega arith);
        initial_if_needed = λ t. absurd (false≢true t);
        few_rules = rw read (omega (arith, rules_counted records, ap length start_sorted));
      }

-- the clean copy of an accepted job is such a job
module _ {job : List ℕ} (ok : Accepted false job) where
  abbrev rules : List Rule
  rules = (job_of job).rules

  abbrev start : ℕ
  start = (job_of job).start

  few_clean : length (clean_rules rules start) ≤ 256
  unfolding clean_rules
  few_clean =
      omega (
        arith,
        (in_range ok).rule_count,
        fewer_within (useful rules start) rules,
        length-map (useful_rules rules start) (renumbered (new_number (useful rules start))),
      )

  pub few_records : length (clean_records rules start) ≤ 257
  unfolding clean_records
  few_records = omega (arith, few_clean, length-map (clean_rules rules start) record_of_lem)

  -- it is sorted as it stands
  pub copy_sorted : sorted_rules_lem (clean_records rules start) ≡ map record_of_lem (clean_rules rules start)
  unfolding clean_records
  copy_sorted = start_sorted (clean_start rules start) (clean_rules rules start) (copy_rising ok)

  -- it says the clean rules and the clean start symbol
  pub copy_rules_lem : (job_of (bytes_of (clean_records rules start))).rules ≡ clean_rules rules start
  unfolding clean_records
  copy_rules_lem = start_rules (clean_start rules start) (clean_rules rules start) (copy_rising ok)

  pub copy_start : (job_of (bytes_of (clean_records rules start))).start ≡ clean_start rules start
  unfolding clean_records
  copy_start = start_start (clean_start rules start) (clean_rules rules start) (copy_rising ok)

  -- and it passes the checks
  pub copy_accepted_lem : Accepted false (bytes_of (clean_records rules start))
  unfolding clean_records
  copy_accepted_lem =
      start_accepted (clean_start rules start) (clean_rules rules start) (copy_rising ok)
      (clean_start_below rules start (start_below ok)) (clean_in_range rules start (in_range ok).rules) few_clean
