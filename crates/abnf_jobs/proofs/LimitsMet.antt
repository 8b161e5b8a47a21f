-- A refusal by 18 or by 7 comes from its own check, and so from its own test. Assumes nothing.
use Rattle.grammar.proofs.Basics.{◌≡◌, refl, ◌∙◌, sym, ap, ⊎_elim, inl, inr, ◌⊎◌, Bool, true, false, cond, List, ℕ}
use Rattle.grammar.proofs.Basics.{◌<◌, ◌≤◌, suc, ◌*◌, arith, eqb, ltb, length, eqb-false, ltb-true, ltb-false, cases}
use Rattle.job.specs.Records.{Checked}
use Rattle.job.specs.Records.{refused, accepted, or_else}
use Rattle.job.specs.Check.{room_check}
use Rattle.abnf.specs.declared.Edition.{Edition}
use Rattle.abnf.specs.declared.Fault.{Fault}
use Rattle.abnf.specs.declared.Fault.TheVariants.{Nothing, At}
use Rattle.abnf.specs.Text.{Line}
use Rattle.abnf.specs.Reading.{fault_of, lines_of}
use Rattle.abnf_jobs.specs.Names.{name_fault_of}
use Rattle.abnf_jobs.specs.Characters.{characters_used}
use Rattle.abnf_jobs.specs.Roles.{roles_of}
use Rattle.abnf_jobs.specs.Rules.{distinct_rules, records_of_lines}
use Rattle.abnf_jobs.specs.Operation.{fault_check_lem, numbers_check_lem, rules_check_lem, lines_check, read_check, read_of}
use Rattle.abnf_jobs.specs.Operation.{lines_written, read_refused}
use Rattle.abnf_jobs.specs.Theorems.Counts.{LimitsTrue}

-- a check refuses by one number or not at all
abbrev OnlyBy : ℕ → Checked → Type 0
OnlyBy n c = (c.number ≡ n) ⊎ (c.number ≡ 0)

by_test : (b : Bool) (n p : ℕ) → OnlyBy n (cond b (refused n p) accepted)
by_test true n p = inl refl
by_test false n p = inr refl

by_fault : (n : ℕ) (f : Fault) → OnlyBy n (fault_check_lem n f)
by_fault n Nothing = inr refl
by_fault n (At at) = inl refl

-- so not by another
by_no_other : {n : ℕ} (m : ℕ) (c : Checked) → OnlyBy m c → c.number ≡ suc n → eqb m (suc n) ≡ false → ⊥
by_no_other {n} m c only e other =
    ⊎_elim (λ k. eqb-false m (suc n) other (sym k ∙ e)) (λ k. omega (arith, k, e)) only

-- and what is refused by another is refused by the next check
by_next : {n : ℕ} (m : ℕ) (c d : Checked) → OnlyBy m c → (or_else c d).number ≡ suc n → eqb m (suc n) ≡ false →
    (or_else c d ≡ d) × (d.number ≡ suc n)
by_next m c d only e other =
    cases (eqb c.number 0) (λ t. rw t (refl, rw t at e))
    (λ t. absurd (by_no_other m c only (rw t at e) other))

-- the checks of lines
module _ (lines : List Line) (room : ℕ) where
  abbrev variables : ℕ
  variables = length (roles_of lines)

  abbrev characters : ℕ
  characters = length (characters_used lines)

  abbrev rules : ℕ
  rules = length (distinct_rules lines)

  abbrev numbers : Checked
  numbers = numbers_check_lem variables characters

  abbrev last : Checked
  last = room_check (length (records_of_lines lines)) room

  abbrev rest : Checked
  rest = or_else (rules_check_lem rules) last

  by_numbers : OnlyBy 18 numbers
  by_numbers =
      cases (ltb 32 variables) (λ t. rw t (inl refl)) (λ t. rw t (by_test (ltb 32 characters) 18 2))

  by_room : OnlyBy 13 last
  unfolding room_check
  by_room = by_test (ltb room (4 * length (records_of_lines lines))) 13 _

  rest_refused : {n : ℕ} → rest.number ≡ suc n → eqb 13 (suc n) ≡ false →
      (n ≡ 6) × ((rest.place ≡ 257) × (256 < rules))
  rest_refused e other =
      cases (ltb 256 rules)
      (λ t. rw t (omega (arith, rw t at e), (refl, ltb-true 256 rules t)))
      (λ t. absurd (by_no_other 13 last by_room (rw t at e) other))

  numbers_refused : (lines_check lines room).number ≡ 18 →
      (((lines_check lines room).place ≡ 1) × (32 < variables))
      ⊎ (((lines_check lines room).place ≡ 2) × ((variables ≤ 32) × (32 < characters)))
  unfolding lines_check
  numbers_refused e =
      cases (ltb 32 variables)
      (λ t. rw t (inl (refl, ltb-true 32 variables t)))
      (λ t. cases (ltb 32 characters)
      (λ u. rw (t, u) (inr (refl, (ltb-false 32 variables t, ltb-true 32 characters u))))
      (λ u. absurd (omega (arith, (rest_refused (rw (t, u) at e) refl).0))))

  rules_refused : (lines_check lines room).number ≡ 7 → ((lines_check lines room).place ≡ 257) × (256 < rules)
  unfolding lines_check
  rules_refused e =
      let (on, refused) = by_next 18 numbers rest by_numbers e refl in
      rw on (rest_refused refused refl).1

module _ (e : Edition) (text map job : List ℕ) where
  abbrev of_lines : Checked
  of_lines = lines_check (lines_of e text) (length job)

  -- a refusal by another number than 10, 2, 16 and 17 is that of the lines
  module _ {n : ℕ} (no-10 : eqb 10 (suc n) ≡ false) (no-2 : eqb 2 (suc n) ≡ false) (no-16 : eqb 16 (suc n) ≡ false)
      (no-17 : eqb 17 (suc n) ≡ false) where
    past_text : (read_check e text map job).number ≡ suc n → read_check e text map job ≡ of_lines
    unfolding read_check
    past_text r =
        let (map-fits, r) = by_next 10 _ _ (by_test (ltb (length map) 32) 10 3) r no-10 in
        let (text-fits, r) = by_next 2 _ _ (by_test (ltb 16384 (length text)) 2 (length text)) r no-2 in
        let (in_the_part, r) = by_next 16 _ _ (by_fault 16 (fault_of e text)) r no-16 in
        let (names_fine, r) = by_next 17 _ of_lines (by_fault 17 (name_fault_of e text)) r no-17 in
        map-fits ∙ text-fits ∙ in_the_part ∙ names_fine

    refused_lines : (read_of e text map job).answer.number ≡ suc n →
        read_of e text map job ≡ read_refused of_lines map job
    unfolding read_of lines_written
    refused_lines r =
        let check = read_check e text map job in
        cases (eqb check.number 0)
        (λ t. absurd (omega (arith, rw t at r)))
        (λ t. rw t (ap (λ c. read_refused c map job) (past_text (rw t at r))))

pub limits_true_lem : LimitsTrue
limits_true_lem e text map job =
    record {
      by_variables = λ r.
          let left = refused_lines e text map job refl refl refl refl r in
          rw left (numbers_refused (lines_of e text) (length job) (rw left at r));
      by_rules = λ r.
          let left = refused_lines e text map job refl refl refl refl r in
          rw left (rules_refused (lines_of e text) (length job) (rw left at r));
    }
