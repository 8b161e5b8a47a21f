-- The records that the code writes, by flags and tables of numbers, are those of the clean copy. Assumes nothing.
use Rattle.grammar.proofs.Basics.{◌≡◌, refl, ◌∙◌, sym, ap, ap₂, Bool, cond, List, ◌∷◌, [], ◌++◌, List·Memᴰ·head}
use Rattle.grammar.proofs.Basics.{List·Memᴰ·tail, map, ℕ, ◌<◌, ◌≤◌, ◌+◌, ◌*◌, arith, ltb, length, drop}
use Rattle.grammar.proofs.Basics.{length-map}
use Rattle.grammar.specs.Rule.{Rule, empty, unit, pair, head, body}
use Rattle.grammar.proofs.Counting.{count_cong}
use Rattle.grammar.proofs.Strings.{All, nil, cons}
use Rattle.job.specs.Records.{Checked}
use Rattle.job.specs.Format.{bytes_of}
use Rattle.job.specs.Check.{room_check}
use Rattle.job.specs.Job.{sort_key_lem, start_record, record_of_lem}
use Rattle.job.specs.Inside.Keys.{record_of_key, rule_of_key, Keys, rules_of_keys}
use Rattle.job.specs.Theorems.InRange.{RuleInRange, RulesInRange}
use Rattle.job.proofs.Keys.{key_record}
use Rattle.job.proofs.KeyRules.{keys_in_range}
use Rattle.job.proofs.JobChecks.{room_fits}
use Rattle.usefulness.specs.Usefulness.{useful, useful_rules}
use Rattle.usefulness.specs.Inside.Flags.{Flags, flagged}
use Rattle.usefulness.proofs.Rounds.{Below}
use Rattle.usefulness.proofs.Tests.{within_among}
use Rattle.copies.specs.Copy.{new_number, renumbered, clean_start, clean_rules, clean_records}
use Rattle.copies.specs.Operation.{clean_on, clean_leaves, refusal}
use Rattle.copies.specs.Inside.Parts.{Numbers, number_in, renumbered_record, renumbered_key, rule_records, copy_records}
use Rattle.copies.proofs.Numbering.{new_at_most}
use Rattle.copies.proofs.Copied.{clean_written, no_room}

-- two sets with the same symbols below 64 give the same new numbers
number_same : (s t : ℕ → Bool) → ((X : ℕ) → X < 64 → s X ≡ t X) → (X : ℕ) → X < 64 → new_number s X ≡ new_number t X
number_same s t same X l = ap (λ (n : ℕ). cond (ltb X 32) n X) (count_cong s t X (λ i h. same i (omega arith)))

-- two numberings that agree below 64 give the same records
module _ (f g : ℕ → ℕ) (same : (X : ℕ) → X < 64 → f X ≡ g X) where
  rule_same : (ρ : Rule) → All (λ X. X < 64) (head ρ ∷ body ρ) → renumbered f ρ ≡ renumbered g ρ
  rule_same (empty A) (cons a nil) = ap empty (same A a)
  rule_same (unit A X) (cons a (cons x nil)) = ap₂ unit (same A a) (same X x)
  rule_same (pair A X Y) (cons a (cons x (cons y nil))) = rw (same A a, same X x, same Y y)

  records_same : (rules : List Rule) → Below 64 rules →
      map (λ ρ. record_of_lem (renumbered f ρ)) rules ≡ map record_of_lem (map (renumbered g) rules)
  records_same [] below = refl
  records_same (ρ ∷ ρs) below =
      ap₂ ◌∷◌ (ap record_of_lem (rule_same ρ (below ρ (List·Memᴰ·head refl))))
      (records_same ρs (λ σ m. below σ (List·Memᴰ·tail m)))

-- keys under numbers that are bytes are read back as the records
module _ (numbers : List ℕ) (bytes : (X : ℕ) → X < 64 → number_in numbers X < 256) where
  key_again : (ρ : Rule) → RuleInRange ρ →
      record_of_key (sort_key_lem (renumbered_record numbers ρ)) ≡ renumbered_record numbers ρ
  key_again (empty A) r = key_record _ (omega arith) (omega arith) (omega arith)
  key_again (unit A X) r = key_record _ (omega arith) (bytes X r.1) (omega arith)
  key_again (pair A X Y) r = key_record _ (omega arith) (bytes X r.1) (bytes Y r.2)

  keys_again : (keys : List ℕ) → RulesInRange (rules_of_keys keys) →
      map record_of_key (map (renumbered_key numbers) keys) ≡ rule_records numbers (rules_of_keys keys)
  keys_again [] fit = refl
  keys_again (k ∷ ks) fit =
      ap₂ ◌∷◌ (key_again (rule_of_key k) (fit (rule_of_key k) (List·Memᴰ·head refl)))
      (keys_again ks (λ ρ n. fit ρ (List·Memᴰ·tail n)))

-- the rules of the keys kept are the useful ones
module _ (rules : List Rule) (S : ℕ) {kept : List ℕ} (fit : Keys kept) (is : rules_of_keys kept ≡ useful_rules rules S)
    (out : List ℕ) where
  counted : length (clean_records rules S) ≡ length kept + 1
  unfolding clean_records clean_rules
  counted =
      omega (
        arith,
        length-map (clean_rules rules S) record_of_lem,
        length-map (useful_rules rules S) (renumbered (new_number (useful rules S))),
        ap length is,
        length-map kept rule_of_key,
      )

  pub room_refused : (c : Checked) → c ≡ room_check (length kept + 1) (length out) → (c.number ≡ 0 → ⊥) →
      clean_leaves (refusal c) out ≡ clean_on rules S out
  room_refused c e d = sym (no_room rules S out c (rw counted e) d)

  module _ (below : Below 64 rules) (start : S < 64) (word : ℕ) (numbers : List ℕ) (held : Flags (useful rules S) word)
      (numbered : Numbers (flagged word) numbers) where
    numbers_new : (X : ℕ) → X < 64 → number_in numbers X ≡ new_number (useful rules S) X
    numbers_new X l = numbered.at X l ∙ number_same (flagged word) (useful rules S) held.at X l

    records : copy_records numbers S (rules_of_keys kept) ≡ clean_records rules S
    unfolding clean_records clean_start clean_rules
    records =
        ap₂ ◌∷◌ (ap start_record (numbers_new S start))
        (ap (rule_records numbers) is
        ∙ records_same (number_in numbers) (new_number (useful rules S)) numbers_new (useful_rules rules S)
        (λ ρ n. below ρ (within_among (useful rules S) rules ρ n).0))

    bytes : (X : ℕ) → X < 64 → number_in numbers X < 256
    bytes X l = omega (arith, numbers_new X l, new_at_most (useful rules S) X)

    pub all_copied : (renumbered after : List ℕ) → (room_check (length kept + 1) (length out)).number ≡ 0 →
        renumbered ≡ map (renumbered_key numbers) kept →
        after
        ≡ bytes_of (start_record (number_in numbers S) ∷ map record_of_key renumbered)
        ++ drop (4 * length renumbered + 4) out →
        clean_leaves (record { number = 0; place = 0; records = length kept + 1 }) after ≡ clean_on rules S out
    all_copied renumbered after e are w =
        let four : 4 * length kept + 4 ≡ 4 * (length kept + 1) = omega arith in
        let fits : 4 * length (clean_records rules S) ≤ length out
        = rw counted (room_fits (length kept + 1) (length out) e) in
        let again = keys_again numbers bytes kept (keys_in_range kept fit.fit) in
        rw (w, are, length-map, again, records, four) (rw counted at (sym (clean_written rules S out fits)))
