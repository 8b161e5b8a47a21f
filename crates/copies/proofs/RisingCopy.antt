-- The rules of a copy stand in the order of their ranks: under the new numbers a useful symbol stays below what it was
-- below, so that two sort keys keep their order, digit by digit. Assumes nothing.
use Rattle.grammar.proofs.Basics.{◌≡◌, refl, ap, ap₂, true, false, Bool, List, ◌∷◌, [], List·Memᴰ, map, ℕ, ◌<◌}
use Rattle.grammar.proofs.Basics.{List·Memᴰ·head, List·Memᴰ·tail, Memᴰ·of-map, ◌+◌, ◌*◌, arith, ltb, ltb-true}
use Rattle.grammar.proofs.Basics.{ltb-false, lt-ltb, cases, and_left, and_right}
use mathlib.Core.List.Memᴰ
use Rattle.grammar.specs.Rule.{Rule, empty, unit, pair}
use Rattle.grammar.specs.Counting.{count}
use Rattle.job.specs.declared.JobRecord.{JobRecord}
use Rattle.job.specs.Format.{records_of}
use Rattle.job.specs.Accepted.{Accepted}
use Rattle.job.specs.Job.{sort_key_lem, sorted_rules_lem, rule_of, record_of_lem, job_of, job_of_records}
use Rattle.job.specs.Theorems.InRange.{RuleInRange}
use Rattle.job.proofs.Shapes.{RuleShape, Bounds, rule_shape}
use Rattle.job.proofs.RuleRecords.{record_again}
use Rattle.job.proofs.Ranks.{Rising, sorted_member, sorted_rising}
use Rattle.job.proofs.AcceptedFacts.{in_range}
use Rattle.usefulness.specs.Sets.{all_in_lem, rule_in, within}
use Rattle.job.specs.Theorems.InRange.{RulesInRange}
use Rattle.usefulness.specs.Usefulness.{useful}
use Rattle.usefulness.proofs.Tests.{within_among}
use Rattle.copies.specs.Copy.{new_number, renumbered, clean_rules}
use Rattle.copies.proofs.Numbering.{count_past, new_at_most}

-- two numbers stand to each other as two others do
abbrev Keeps : ℕ → ℕ → ℕ → ℕ → Type 0
Keeps x y x' y' = (x < y → x' < y') × (x ≡ y → x' ≡ y')

-- so they do with one more digit in base 256 each
keeps_digit : (x y x' y' a b a' b' : ℕ) → (a < 256) × (b < 256) × (a' < 256) → Keeps x y x' y'
    → (x ≡ y → Keeps a b a' b')
    → Keeps (x * 256 + a) (y * 256 + b) (x' * 256 + a') (y' * 256 + b')
keeps_digit x y x' y' a b a' b' small k d = (
  λ h. cases (ltb x y)
      (λ t. omega (arith, k.0 (ltb-true x y t)))
      (λ t.
      let e : x ≡ y = omega (arith, ltb-false x y t) in
      omega (arith, k.1 e, (d e).0 (omega arith))),
  λ h. let e : x ≡ y = omega arith in omega (arith, k.1 e, (d e).1 (omega arith)),
)

-- the fields of a rule's record are digits
bounds : (ρ : Rule) → RuleInRange ρ → Bounds (record_of_lem ρ)
bounds (empty A) r = omega arith
bounds (unit A X) r = omega arith
bounds (pair A X Y) r = omega arith

module _ (set : ℕ → Bool) where
  -- the number of a member is below those of all above it
  number_rises : (X Y : ℕ) → X < Y → set X ≡ true → new_number set X < new_number set Y
  number_rises X Y l e =
      cases (ltb Y 32)
      (λ t. rw (t, lt-ltb X 32 (omega (arith, ltb-true Y 32 t))) (count_past set X Y e l))
      (λ t. rw t (omega (arith, new_at_most set X)))

  -- the fields of a record under the new numbers; 0 stays 0
  abbrev numbered : JobRecord → JobRecord
  numbered r =
      record {
        kind = r.kind;
        first = new_number set r.first;
        second = new_number set r.second;
        third = new_number set r.third;
      }

  record_numbered : (ρ : Rule) → record_of_lem (renumbered (new_number set) ρ) ≡ numbered (record_of_lem ρ)
  unfolding count
  record_numbered (empty A) = refl
  record_numbered (unit A X) = refl
  record_numbered (pair A X Y) = refl

  -- the head of a kept rule is in the set
  head_in : (ρ : Rule) → rule_in set ρ ≡ true → set (record_of_lem ρ).first ≡ true
  unfolding all_in_lem
  head_in (empty A) t = and_left _ _ t
  head_in (unit A X) t = and_left _ _ t
  head_in (pair A X Y) t = and_left _ _ t

  -- and so is a symbol of its body that is below the one in that place of another rule of its kind
  body_in : (ρ σ : Rule) → rule_in set ρ ≡ true → (record_of_lem ρ).kind ≡ (record_of_lem σ).kind
      → ((record_of_lem ρ).second < (record_of_lem σ).second → set (record_of_lem ρ).second ≡ true)
      × ((record_of_lem ρ).third < (record_of_lem σ).third → set (record_of_lem ρ).third ≡ true)
  unfolding all_in_lem
  body_in (empty A) (empty B) t e = (λ l. absurd (omega arith), λ l. absurd (omega arith))
  body_in (empty A) (unit B Z) t e = absurd (omega arith)
  body_in (empty A) (pair B Z W) t e = absurd (omega arith)
  body_in (unit A X) (empty B) t e = absurd (omega arith)
  body_in (unit A X) (unit B Z) t e = (λ l. and_left _ _ (and_right (set A) _ t), λ l. absurd (omega arith))
  body_in (unit A X) (pair B Z W) t e = absurd (omega arith)
  body_in (pair A X Y) (empty B) t e = absurd (omega arith)
  body_in (pair A X Y) (unit B Z) t e = absurd (omega arith)
  body_in (pair A X Y) (pair B Z W) t e =
      let u = and_right (set A) _ t in
      (λ l. and_left _ _ u, λ l. and_left _ _ (and_right (set X) _ u))

  number_keeps : (X Y : ℕ) → (X < Y → set X ≡ true) → Keeps X Y (new_number set X) (new_number set Y)
  number_keeps X Y e = (λ l. number_rises X Y l (e l), ap (new_number set))

  -- so two rules, of which the first is kept, stand to each other as before
  keys_keep : (ρ σ : Rule) → RuleInRange ρ → RuleInRange σ → rule_in set ρ ≡ true
      → Keeps (sort_key_lem (record_of_lem ρ)) (sort_key_lem (record_of_lem σ)) (sort_key_lem (numbered (record_of_lem ρ)))
      (sort_key_lem (numbered (record_of_lem σ)))
  keys_keep ρ σ r s t =
      let a = record_of_lem ρ in
      let b = record_of_lem σ in
      let p = bounds ρ r in
      let q = bounds σ s in
      let second = new_at_most set a.second in
      let third = new_at_most set a.third in
      keeps_digit _ _ _ _ _ _ _ _ (omega arith)
      (keeps_digit _ _ _ _ _ _ _ _ (omega arith)
      (keeps_digit _ _ _ _ _ _ _ _ (omega arith)
      (number_keeps a.first b.first (λ l. head_in ρ t))
      (λ e. (λ l. l, λ d. d)))
      (λ e. number_keeps a.second b.second (body_in ρ σ t (omega arith)).0))
      (λ e. number_keeps a.third b.third (body_in ρ σ t (omega arith)).1)

  -- the rules that are kept rise under the new numbers
  copies_rise : (rules : List Rule) → RulesInRange rules → Rising (map record_of_lem rules)
      → Rising (map record_of_lem (map (renumbered (new_number set)) (within set rules)))
  unfolding Rising within
  copies_rise [] r h = tt
  copies_rise (ρ ∷ ρs) r h =
      let rest = copies_rise ρs (λ σ m. r σ (List·Memᴰ·tail m)) h.1 in
      cases (rule_in set ρ)
      (λ t. rw t (
        λ y m.
            let (τ, n, e) = Memᴰ·of-map record_of_lem _ m in
            let (σ, k, f) = Memᴰ·of-map (renumbered (new_number set)) _ n in
            let among = (within_among set ρs σ k).0 in
            rw (← e, ← f, record_numbered ρ, record_numbered σ)
            ((keys_keep ρ σ (r ρ (List·Memᴰ·head refl)) (r σ (List·Memᴰ·tail among)) t).0
            (h.0 (record_of_lem σ) (Memᴰ.map record_of_lem among))),
        rest,
      ))
      (λ t. rw t rest)

-- the records of what rules' records say are those records
records_again : (rs : List JobRecord) → ((r : JobRecord) → List·Memᴰ r rs → RuleShape r)
    → map record_of_lem (map rule_of rs) ≡ rs
records_again [] shaped = refl
records_again (r ∷ rs) shaped =
    ap₂ ◌∷◌ (record_again (shaped r (List·Memᴰ·head refl))) (records_again rs (λ x m. shaped x (List·Memᴰ·tail m)))

module _ {job : List ℕ} (ok : Accepted false job) where
  -- so the rules of an accepted job rise
  rules_rising : Rising (map record_of_lem (job_of job).rules)
  unfolding job_of job_of_records
  rules_rising =
      rw (records_again (sorted_rules_lem (records_of job)) (λ r m.
      let (member, rule) = sorted_member (records_of job) m in
      rule_shape r (ok.fitting r member) rule))
      (sorted_rising (records_of job) ok.fitting ok.distinct)

  -- and so do those of its copy
  pub copy_rising : Rising (map record_of_lem (clean_rules (job_of job).rules (job_of job).start))
  unfolding clean_rules
  copy_rising =
      copies_rise (useful (job_of job).rules (job_of job).start) (job_of job).rules (in_range ok).rules rules_rising
