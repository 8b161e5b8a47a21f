-- The outcome of a call by its checks in their order: each that refuses decides it, and where all pass it is what is
-- written. Assumes nothing.
use Rattle.grammar.proofs.Basics.{◌≡◌, refl, ◌∙◌, ap, cond, cases, Bool, List, ℕ, ◌<◌, ◌≤◌, arith, eqb, ltb, length, eq-eqb}
use Rattle.grammar.proofs.Basics.{ne_eqb, eqb-true, lt-ltb, le-ltb, ltb-true, ltb-false}
use Rattle.grammar.specs.Counting.{count}
use Rattle.job.specs.Records.{Checked}
use Rattle.job.specs.Records.{or_else}
use Rattle.job.specs.Check.{short_buffer_lem, room_check}
use Rattle.job.proofs.CallChecks.{long_enough}
use Rattle.job.proofs.RecordChecks.{both_pass, check_passed_test}
use Rattle.abnf.specs.declared.Edition.{Edition}
use Rattle.abnf.specs.declared.Fault.TheVariants.{Nothing}
use Rattle.abnf.specs.Text.{Line}
use Rattle.abnf.specs.Reading.{fault_of, lines_of}
use Rattle.abnf.specs.Meaning.{names_of}
use Rattle.abnf_jobs.specs.Names.{name_fault_of}
use Rattle.abnf_jobs.specs.Bodies.{bodies_of}
use Rattle.abnf_jobs.specs.Characters.{used_in, characters_used}
use Rattle.abnf_jobs.specs.Roles.{roles_of}
use Rattle.abnf_jobs.specs.Rules.{distinct_rules, records_of_lines}
use Rattle.abnf_jobs.specs.Operation.{ReadOutcome, text_check_lem, fault_check_lem, numbers_check_lem, rules_check_lem, lines_check}
use Rattle.abnf_jobs.specs.Operation.{read_check, read_refused, read_of}
use Rattle.abnf_jobs.proofs.Success.{no_fault}
use Rattle.abnf_jobs.proofs.UsedCharacters.{used_long}
use Rattle.text_symbols.specs.Marks.{Marked, marked}
use Rattle.reader.specs.Walk.{Needs, Fits}
use Rattle.reader.specs.Parts.{lines_outcome}
use Rattle.reader.proofs.CharacterMarks.{marks_counted}
use Rattle.reader.proofs.BodiesWalked.{walked_none, walked_few}

-- checks one after the other
or_else_apart : (c d e : Checked) → or_else c (or_else d e) ≡ or_else (or_else c d) e
or_else_apart c d e = cases (eqb c.number 0) (λ t. rw t) (λ t. rw (t, t))

refused_first : (c d : Checked) → (c.number ≡ 0 → ⊥) → or_else c d ≡ c
refused_first c d n = rw (ne_eqb c.number 0 n)

pub passed_first : (c d : Checked) → c.number ≡ 0 → or_else c d ≡ d
passed_first c d z = rw (eq-eqb c.number 0 z)

-- a call that a check refuses
pub refused_call : (c check : Checked) (written : ReadOutcome) (map job : List ℕ) → check ≡ c →
    (c.number ≡ 0 → ⊥) → read_refused c map job ≡ cond (eqb check.number 0) written (read_refused check map job)
refused_call c check written map job is n = rw (is, ne_eqb c.number 0 n)

module _ (lines : List Line) (map job : List ℕ) where
  abbrev pub numbers : Checked
  numbers = numbers_check_lem (length (roles_of lines)) (length (characters_used lines))

  abbrev pub last_checks : Checked
  last_checks =
      or_else (rules_check_lem (length (distinct_rules lines))) (room_check (length (records_of_lines lines)) (length job))

  pub checked_apart : lines_check lines (length job) ≡ or_else numbers last_checks
  unfolding lines_check
  checked_apart = refl

  numbers_refused : (c : Checked) → c ≡ numbers → (c.number ≡ 0 → ⊥) → read_refused c map job ≡ lines_outcome lines map job
  numbers_refused c is n =
      refused_call c (lines_check lines (length job)) _ map job
      (checked_apart ∙ rw (← is) (refused_first c last_checks n)) n

  -- more variables than there are numbers
  too_many_variables : (n m : ℕ) → 32 < n → 32 < length (roles_of lines) → numbers_check_lem n m ≡ numbers
  too_many_variables n m l h = rw (lt-ltb 32 n l, lt-ltb 32 (length (roles_of lines)) h)

  -- by the names alone
  names_decide : (n : ℕ) → n ≡ length (names_of lines) → ((numbers_check_lem n 0).number ≡ 0 → ⊥) →
      lines_check lines (length job) ≡ numbers_check_lem n 0
  names_decide n is refuses =
      cases (ltb 32 n)
      (λ t.
      let l = ltb-true 32 n t in
      let same = too_many_variables n 0 l (omega (arith, walked_few (walked_none lines))) in
      checked_apart ∙ rw (← same) (refused_first (numbers_check_lem n 0) last_checks refuses))
      (λ t. absurd (refuses (rw t)))

  -- what the bodies need
  module _ {n characters : ℕ} {used : List Bool} (needs : Needs lines n used)
      (counted : characters ≡ count (marked used) 256) (c : Checked) (is : c ≡ numbers_check_lem n characters) where
    numbers_are : c ≡ numbers
    numbers_are =
        is
        ∙ cases (ltb 32 n)
        (λ t. let l = ltb-true 32 n t in too_many_variables n characters l (needs.more l))
        (λ t.
        let l = ltb-false 32 n t in
        rw (
          needs.counted l,
          counted,
          marks_counted (needs.marks l),
          used_long (used_in (bodies_of lines)) 256,
        ))

    pub needs_refused : (c.number ≡ 0 → ⊥) → read_refused c map job ≡ lines_outcome lines map job
    needs_refused = numbers_refused c numbers_are

    module _ (z : c.number ≡ 0) where
      within : (length (roles_of lines) ≤ 32) × (length (characters_used lines) ≤ 32)
      within =
          let (variables, rest) = check_passed_test _ _ _ _ (rw numbers_are at z) in
          let (characters, rest) = check_passed_test _ _ _ _ rest in
          (ltb-false _ _ variables, ltb-false _ _ characters)

      pub needs_fit : Fits lines
      needs_fit = record { variables = within.0; characters = within.1 }

      pub needs_marked : Marked (used_in (bodies_of lines)) used
      needs_marked = needs.marks (ltb-false _ _ (check_passed_test _ _ _ _ (rw is at z)).0)

module _ (e : Edition) (text map job : List ℕ) where
  -- 10, 2 and 16
  abbrev text_checks : Checked
  text_checks =
      or_else (short_buffer_lem (length map) 32 3) (or_else (text_check_lem (length text)) (fault_check_lem 16 (fault_of e text)))

  abbrev rest_checks : Checked
  rest_checks = or_else (fault_check_lem 17 (name_fault_of e text)) (lines_check (lines_of e text) (length job))

  checks_apart : read_check e text map job ≡ or_else text_checks rest_checks
  unfolding read_check
  checks_apart =
      let ten = short_buffer_lem (length map) 32 3 in
      let two = text_check_lem (length text) in
      ap (or_else ten) (or_else_apart two (fault_check_lem 16 (fault_of e text)) rest_checks)
      ∙ or_else_apart ten (or_else two (fault_check_lem 16 (fault_of e text))) rest_checks

  module _ (c : Checked) (is : c ≡ text_checks) where
    pub text_refused : (c.number ≡ 0 → ⊥) → read_refused c map job ≡ read_of e text map job
    unfolding read_of
    text_refused n =
        refused_call c (read_check e text map job) _ map job
        (checks_apart ∙ rw (← is) (refused_first c rest_checks n)) n

    pub text_passed : c.number ≡ 0 → (length text ≤ 16384) × (fault_of e text ≡ Nothing) × (32 ≤ length map)
    text_passed z =
        let (ten, z) = both_pass (short_buffer_lem (length map) 32 3) _ (rw is at z) in
        let (two, z) = both_pass (text_check_lem (length text)) _ z in
        let short = ltb-false _ _ (check_passed_test _ _ _ _ two).0 in
        (short, no_fault 15 (fault_of e text) z, long_enough (length map) 32 3 ten)

  -- past them
  module _ (short : length text ≤ 16384) (fine : fault_of e text ≡ Nothing) (long : 32 ≤ length map) where
    rest_decides : read_check e text map job ≡ rest_checks
    rest_decides = checks_apart ∙ rw (le-ltb (length map) 32 long, le-ltb 16384 (length text) short, fine)

    -- 17, and 18 by the names alone
    module _ (n : ℕ) (counted : n ≡ length (names_of (lines_of e text))) (c : Checked)
        (is : c ≡ or_else (fault_check_lem 17 (name_fault_of e text)) (numbers_check_lem n 0)) where
      abbrev by_names : Checked
      by_names = fault_check_lem 17 (name_fault_of e text)

      names_check_lem : (c.number ≡ 0 → ⊥) → rest_checks ≡ c
      names_check_lem refuses =
          cases (eqb by_names.number 0)
          (λ t.
          let only : c ≡ numbers_check_lem n 0 = is ∙ passed_first by_names (numbers_check_lem n 0) (eqb-true _ _ t) in
          rw (t, only) (names_decide (lines_of e text) map job n counted (rw only at refuses)))
          (λ t. rw (is, t))

      pub names_refused : (c.number ≡ 0 → ⊥) → read_refused c map job ≡ read_of e text map job
      unfolding read_of
      names_refused refuses =
          refused_call c (read_check e text map job) _ map job (rest_decides ∙ names_check_lem refuses) refuses

      pub names_passed : c.number ≡ 0 → (name_fault_of e text ≡ Nothing) × (n ≤ 32)
      names_passed z =
          let (fault, many) = both_pass by_names (numbers_check_lem n 0) (rw is at z) in
          (no_fault 16 (name_fault_of e text) fault, ltb-false _ _ (check_passed_test _ _ _ _ many).0)

    pub by_lines : {left : ReadOutcome} → name_fault_of e text ≡ Nothing → left ≡ lines_outcome (lines_of e text) map job →
        left ≡ read_of e text map job
    unfolding read_of
    by_lines names is = is ∙ rw (rest_decides, names)

-- the marks of a text that fits are few
pub marks_few : {lines : List Line} {used : List Bool} → Fits lines → Marked (used_in (bodies_of lines)) used →
    count (marked used) 256 ≤ 32
marks_few {lines} fits marks =
    omega (arith, marks_counted marks, used_long (used_in (bodies_of lines)) 256, fits.characters)
