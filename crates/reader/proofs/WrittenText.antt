-- What is written of a text that has no more variables and characters than there are numbers, by the keys of its rules
-- and the marks of its characters; and its refusal by 7 or 13. Assumes nothing.
use Rattle.grammar.proofs.Basics.{◌≡◌, refl, ◌∙◌, sym, ap, cases, Bool, true, false, List, ◌∷◌, ◌++◌, map, ℕ, ◌≤◌, ◌+◌, ◌*◌}
use Rattle.grammar.proofs.Basics.{arith, ltb, length, drop, length-map, le-ltb, ltb-false, add-one}
use Rattle.std.specs.Prelude.{Option, Some, IfSome}
use Rattle.grammar.specs.Counting.{count}
use Rattle.job.specs.Records.{Checked}
use Rattle.job.specs.Format.{bytes_of}
use Rattle.job.specs.Records.{or_else}
use Rattle.job.specs.Check.{room_check}
use Rattle.job.specs.Job.{sort_key_lem, start_record}
use Rattle.job.specs.Inside.Keys.{record_of_key}
use Rattle.job.proofs.RecordChecks.{both_pass}
use Rattle.job.proofs.JobChecks.{room_fits}
use Rattle.abnf.specs.Text.{Line}
use Rattle.abnf_jobs.specs.Bodies.{bodies_of}
use Rattle.abnf_jobs.specs.Characters.{used_in, used_below, characters_used, mapped}
use Rattle.abnf_jobs.specs.Roles.{roles_of}
use Rattle.abnf_jobs.specs.Rules.{rules_of_lines, distinct_rules, records_of_lines}
use Rattle.abnf_jobs.specs.Operation.{rules_check_lem, lines_check, lines_written, read_leaves, read_refused}
use Rattle.abnf_jobs.proofs.UsedCharacters.{used_long}
use Rattle.abnf_jobs.proofs.DistinctRules.{ordered_member}
use Rattle.abnf_jobs.proofs.RuleRange as range
use Rattle.text_symbols.specs.Marks.{Marked, marked}
use Rattle.text_symbols.proofs.PutRules.{kept_all}
use Rattle.reader.specs.Walk.{RulesKept, kept_count}
use Rattle.reader.specs.Parts.{lines_outcome}
use Rattle.reader.proofs.CharacterMarks.{marks_counted, marked_characters}
use Rattle.reader.proofs.KeyOrder.{keys_back}
use Rattle.reader.proofs.OrderedRules.{rules_bytes}
use Rattle.reader.proofs.Outcomes.{numbers, last_checks, checked_apart, passed_first, refused_call}

module _ (lines : List Line) {kept : Option (List ℕ)} (are : RulesKept lines kept) where
  abbrev rules : ℕ
  rules = length (distinct_rules lines)

  rules_long : length (map sort_key_lem (distinct_rules lines)) ≡ rules
  rules_long = length-map (distinct_rules lines) sort_key_lem

  -- 257 stands for more than 256
  more_rules : ltb 256 rules ≡ true → kept_count kept ≡ 257
  more_rules t = rw (are, rules_long, t) refl

  all_rules : ltb 256 rules ≡ false → kept_count kept ≡ rules
  all_rules t = rw (are, rules_long, t) rules_long

  pub few_rules : IfSome kept (λ keys. length keys ≤ 256)
  few_rules =
      cases (ltb 256 rules) (λ t. rw (are, rules_long, t) tt)
      (λ t. rw (are, rules_long, t) (omega (arith, rules_long, ltb-false 256 rules t)))

  module _ (it : range.Numbered lines) (map₀ job : List ℕ) (c : Checked)
      (is : c ≡ or_else (rules_check_lem (kept_count kept)) (room_check (kept_count kept + 1) (length job))) where
    last_are : last_checks lines map₀ job ≡ c
    unfolding records_of_lines
    last_are =
        cases (ltb 256 rules)
        (λ t. rw (is, t, more_rules t))
        (λ t. rw (is, all_rules t, add-one))

    check_is : lines_check lines (length job) ≡ c
    check_is =
        checked_apart lines map₀ job
        ∙ passed_first (numbers lines map₀ job) (last_checks lines map₀ job)
        (rw (
          le-ltb 32 (length (roles_of lines)) it.variables,
          le-ltb 32 (length (characters_used lines)) it.characters,
        ))
        ∙ last_are

    pub rules_refused : (c.number ≡ 0 → ⊥) → read_refused c map₀ job ≡ lines_outcome lines map₀ job
    rules_refused = refused_call c (lines_check lines (length job)) _ map₀ job check_is

    module _ (z : c.number ≡ 0) {keys : List ℕ} (found : kept ≡ Some keys) where
      keys_are : keys ≡ map sort_key_lem (distinct_rules lines)
      keys_are = sym (kept_all (map sort_key_lem (distinct_rules lines)) (sym found ∙ are))

      counted : length keys ≡ rules
      counted = ap length keys_are ∙ rules_long

      pub part_fits : 4 * length keys + 4 ≤ length job
      part_fits =
          let (seven, z) = both_pass (rules_check_lem (kept_count kept)) _ (rw is at z) in
          omega (arith, room_fits (length keys + 1) (length job) (rw found at z))

      records_are : map record_of_key keys ≡ distinct_rules lines
      records_are =
          rw keys_are
          (keys_back (distinct_rules lines) (λ r m. rules_bytes it r ((ordered_member (rules_of_lines lines) r).0 m)))

      pub all_written : {used : List Bool} {map₁ job₁ : List ℕ} {characters : ℕ} → Marked (used_in (bodies_of lines)) used →
          characters ≡ count (marked used) 256 → map₁ ≡ mapped (used_below (marked used) 256) map₀ →
          job₁
          ≡ bytes_of (start_record 0 ∷ map record_of_key keys) ++ drop (4 * length keys + 4) job →
          read_leaves (record { number = 0; place = 0; records = length keys + 1; characters = characters }) map₁ job₁
          ≡ lines_outcome lines map₀ job
      unfolding lines_written records_of_lines
      all_written {used} marks many left written =
          let length_is : length keys + 1 ≡ length (records_of_lines lines) = omega (arith, counted) in
          let offset : 4 * length keys + 4 ≡ 4 * length (records_of_lines lines) = omega (arith, counted) in
          rw (
            check_is,
            z,
            written,
            records_are,
            offset,
            left,
            marked_characters marks,
            many,
            marks_counted marks,
            ← used_long (used_in (bodies_of lines)) 256,
            length_is,
          )
