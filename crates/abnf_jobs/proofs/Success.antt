-- What a call that is not refused has passed, and the map and the job that it leaves. Assumes nothing.
use Rattle.grammar.proofs.Basics.{◌≡◌, refl, List, ℕ, ◌≤◌, suc, arith, eqb, length, take_at, eqb-true, eqb-false}
use Rattle.grammar.proofs.Basics.{ltb-false, cases}
use Rattle.job.specs.Format.{bytes_of}
use Rattle.job.specs.Check.{short_buffer_lem}
use Rattle.job.proofs.RecordChecks.{both_pass, check_passed_test}
use Rattle.job.proofs.CallChecks.{long_enough}
use Rattle.job.proofs.Bytes.{bytes_counted}
use Rattle.abnf.specs.declared.Edition.{Edition}
use Rattle.abnf.specs.declared.Fault.{Fault}
use Rattle.abnf.specs.declared.Fault.TheVariants.{Nothing, At}
use Rattle.abnf.specs.Text.{Line}
use Rattle.abnf.specs.Reading.{fault_of, lines_of}
use Rattle.abnf_jobs.specs.Names.{name_fault_of}
use Rattle.abnf_jobs.specs.Characters.{characters_used}
use Rattle.abnf_jobs.specs.Roles.{roles_of}
use Rattle.abnf_jobs.specs.Rules.{distinct_rules, records_of_lines}
use Rattle.abnf_jobs.specs.Operation.{text_check_lem, fault_check_lem, lines_check, read_check, lines_written, read_of}
use Rattle.abnf_jobs.specs.Theorems.Written.{Succeeds}
use Rattle.abnf_jobs.proofs.Premises.{Success}

-- a check by a fault that refuses nothing has none
pub no_fault : (n : ℕ) (f : Fault) → (fault_check_lem (suc n) f).number ≡ 0 → f ≡ Nothing
no_fault n Nothing e = refl
no_fault n (At at) e = absurd (omega arith)

-- what 18 and 7 count is within the limits where they refuse nothing
few_enough : (lines : List Line) (room : ℕ) → (lines_check lines room).number ≡ 0 →
    (length (roles_of lines) ≤ 32) × (length (characters_used lines) ≤ 32) × (length (distinct_rules lines) ≤ 256)
unfolding lines_check
few_enough lines room e =
    let (numbers, e) = both_pass _ _ e in
    let (rules, e) = both_pass _ _ e in
    let (variables, numbers) = check_passed_test _ _ _ _ numbers in
    let (characters, numbers) = check_passed_test _ _ _ _ numbers in
    (ltb-false _ _ variables, ltb-false _ _ characters, ltb-false _ _ (check_passed_test _ _ _ _ rules).0)

pub success : (e : Edition) (text map job : List ℕ) → Succeeds e text map job → Success e text map job
unfolding read_of read_check lines_written
success e text map job s =
    let n = (read_check e text map job).number in
    let rs = records_of_lines (lines_of e text) in
    cases (eqb n 0)
    (λ t.
    let (long, p) = both_pass (short_buffer_lem (length map) 32 3) _ (eqb-true n 0 t) in
    let (short, p) = both_pass (text_check_lem (length text)) _ p in
    let (outside, p) = both_pass (fault_check_lem 16 (fault_of e text)) _ p in
    let (nameless, p) = both_pass (fault_check_lem 17 (name_fault_of e text)) (lines_check (lines_of e text) (length job)) p in
    let (variables, characters, rules) = few_enough (lines_of e text) (length job) p in
    record {
      in_the_part = no_fault 15 _ outside;
      names_fine = no_fault 16 _ nameless;
      variables = variables;
      characters = characters;
      rules = rules;
      long = long_enough (length map) 32 3 long;
      map_is = rw t;
      count_is = rw t;
      job_is = rw t (take_at (bytes_of rs) _ _ (bytes_counted rs));
    })
    (λ t. absurd (eqb-false n 0 t (rw t at s)))
