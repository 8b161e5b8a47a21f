-- What a call leaves, by whether it is refused, and the copy that it leaves; so what holds of clean rules is said of
-- calls. Assumes nothing.
use Rattle.grammar.proofs.Basics.{◌≡◌, refl, ◌∙◌, sym, ap, true, false, List, ℕ, ◌≤◌, ◌*◌, arith, eqb, ltb, length}
use Rattle.grammar.proofs.Basics.{take, take_at, ne_eqb, eqb-true, eqb-false, le-ltb, ltb-false, cases}
use Rattle.grammar.specs.Rule.{Rule}
use Rattle.job.specs.declared.JobRecord.{JobRecord}
use Rattle.job.specs.Records.{Checked}
use Rattle.job.specs.Format.{bytes_of}
use Rattle.job.specs.Check.{refused, job_check, room_check}
use Rattle.job.specs.Accepted.{Accepted}
use Rattle.job.specs.Job.{job_of}
use Rattle.job.proofs.Accepted.{number_accepted, accepted_check, check_accepts_lem}
use Rattle.job.proofs.JobChecks.{room_fits}
use Rattle.job.proofs.AcceptedFacts.{in_range, start_below}
use Rattle.job.proofs.Bytes.{bytes_counted, records_of_bytes}
use Rattle.job.specs.Theorems.InRange.{RulesInRange}
use Rattle.copies.specs.Copy.{clean_rules, clean_start, clean_records}
use Rattle.copies.specs.Operation.{CleanOutcome, clean_by, clean_of, clean_on, clean_refused, records_written}
use Rattle.copies.specs.Theorems.Copies.{copy_of, Succeeds, CopyFits, CopyAccepted, CopyInOrder, SameLanguage}
use Rattle.copies.specs.Theorems.Copies.{EmptyCopy, CopyOfCopy, CopiesAlike}
use Rattle.copies.proofs.SameLanguage.{same_language_lem}
use Rattle.copies.proofs.CopyAgain.{start_again, rules_again}
use Rattle.copies.proofs.EmptyLanguage.{empty_records}
use Rattle.job.proofs.SameGrammar.{same_rules_lem, same_start}
use Rattle.copies.proofs.CopyAccepted.{few_records, copy_sorted, copy_rules_lem, copy_start, copy_accepted_lem}

-- a call on an accepted job, and one on a job that is refused
pub clean_accepted : {job : List ℕ} (out : List ℕ) → Accepted false job →
    clean_of job out ≡ clean_on (job_of job).rules (job_of job).start out
unfolding clean_by
clean_accepted out ok = rw (accepted_check ok)

pub clean_refused_lem : (job out : List ℕ) (c : Checked) → c ≡ job_check false job → (c.number ≡ 0 → ⊥) →
    clean_of job out ≡ clean_refused c out
unfolding clean_by
clean_refused_lem job out c e d = rw (← e) (rw (ne_eqb c.number 0 d))

module _ (rules : List Rule) (S : ℕ) (out : List ℕ) where
  -- where there is room the records are written, else nothing is
  pub clean_written : 4 * length (clean_records rules S) ≤ length out →
      clean_on rules S out ≡ records_written (clean_records rules S) out
  unfolding clean_on room_check
  clean_written h = rw (le-ltb (length out) (4 * length (clean_records rules S)) h)

  pub no_room : (c : Checked) → c ≡ room_check (length (clean_records rules S)) (length out) → (c.number ≡ 0 → ⊥) →
      clean_on rules S out ≡ clean_refused c out
  unfolding clean_on
  no_room c e d = rw (← e) (rw (ne_eqb c.number 0 d))

  short_refused : ltb (length out) (4 * length (clean_records rules S)) ≡ true →
      clean_on rules S out ≡ clean_refused (refused 13 (length (clean_records rules S))) out
  unfolding room_check
  short_refused t = no_room (refused 13 (length (clean_records rules S))) (rw t) (λ z. omega arith)

-- the records of the copy of a job
abbrev copied : List ℕ → List JobRecord
copied job = clean_records (job_of job).rules (job_of job).start

-- a call that is not refused: the job is accepted, and its copy is what is written
record Copied (job out : List ℕ) : Type 0 where
  pub passes : Accepted false job
  pub outcome : clean_of job out ≡ records_written (copied job) out

module _ {job : List ℕ} (out : List ℕ) where
  fitting_copied : Accepted false job → 4 * length (copied job) ≤ length out → Copied job out
  fitting_copied ok h =
      let written = clean_written (job_of job).rules (job_of job).start out h in
      record { passes = ok; outcome = clean_accepted out ok ∙ written }

  copy_bytes : Copied job out → copy_of job out ≡ bytes_of (copied job)
  copy_bytes it = rw it.outcome (take_at (bytes_of (copied job)) _ _ (bytes_counted (copied job)))

success_copied : (job out : List ℕ) → Succeeds job out → Copied job out
success_copied job out s =
    let c = job_check false job in
    cases (eqb c.number 0)
    (λ t.
    let ok = number_accepted false job (eqb-true c.number 0 t) in
    let room = room_check (length (copied job)) (length out) in
    cases (eqb room.number 0)
    (λ u. fitting_copied out ok (room_fits _ _ (eqb-true room.number 0 u)))
    (λ u.
    let d = eqb-false room.number 0 u in
    let left = clean_accepted out ok ∙ no_room (job_of job).rules (job_of job).start out room refl d in
    absurd (d (ap (λ (o : CleanOutcome). o.answer.number) (sym left) ∙ s))))
    (λ t.
    let d = eqb-false c.number 0 t in
    absurd (d (ap (λ (o : CleanOutcome). o.answer.number) (sym (clean_refused_lem job out c refl d)) ∙ s)))

pub copy_fits_lem : CopyFits
copy_fits_lem job out p long =
    let ok = (check_accepts_lem false job).0 p in
    let it = fitting_copied out ok (omega (arith, few_records ok)) in
    ap (λ (o : CleanOutcome). o.answer.number) it.outcome

pub copy_passes : CopyAccepted
copy_passes job out s =
    let it = success_copied job out s in
    rw (copy_bytes out it) (accepted_check (copy_accepted_lem it.passes))

pub copy_in_order_lem : CopyInOrder
unfolding clean_records
copy_in_order_lem job out s =
    let it = success_copied job out s in
    rw (copy_bytes out it, records_of_bytes, copy_start it.passes, copy_sorted it.passes)

pub same_strings_lem : SameLanguage
same_strings_lem job out s w =
    let it = success_copied job out s in
    let ok = it.passes in
    rw (copy_bytes out it, copy_rules_lem ok, copy_start ok)
    (same_language_lem (job_of job).rules (job_of job).start (in_range ok).rules (start_below ok) w)

pub start_alone : EmptyCopy
unfolding bytes_of
start_alone job out s none =
    let it = success_copied job out s in
    let ok = it.passes in
    let records = empty_records (job_of job).rules (job_of job).start (in_range ok).rules (start_below ok) none in
    rw (copy_bytes out it, records)

-- the clean records of clean rules are those again
records_again : (rules : List Rule) (S : ℕ) → RulesInRange rules →
    clean_records (clean_rules rules S) (clean_start rules S) ≡ clean_records rules S
unfolding clean_records
records_again rules S range = rw (rules_again rules S range, start_again rules S range)

pub copied_again : CopyOfCopy
copied_again job out again s fits =
    let it = success_copied job out s in
    let ok = it.passes in
    let bytes = copy_bytes out it in
    let same : copied (copy_of job out) ≡ copied job =
    rw (bytes, copy_rules_lem ok, copy_start ok) (records_again _ _ (in_range ok).rules) in
    let next : Copied (copy_of job out) again =
    fitting_copied again (rw bytes (copy_accepted_lem ok))
    (rw same (omega (arith, bytes_counted (copied job), ap length bytes))) in (
      ap (λ (o : CleanOutcome). o.answer) next.outcome ∙ rw same
          (ap (λ (o : CleanOutcome). o.answer) (sym it.outcome)),
      copy_bytes again next ∙ ap bytes_of same ∙ sym bytes,
    )

-- what buffers as long as each other get
module _ (rules : List Rule) (S : ℕ) (out other : List ℕ) (long : length out ≡ length other) where
  abbrev front : CleanOutcome → List ℕ
  front o = take (4 * o.answer.records) o.out

  outcomes_alike : ((clean_on rules S out).answer ≡ (clean_on rules S other).answer)
      × (front (clean_on rules S out) ≡ front (clean_on rules S other))
  outcomes_alike =
      let rs = clean_records rules S in
      let n = 4 * length rs in
      cases (ltb (length out) n)
      (λ t. rw (short_refused rules S out t, short_refused rules S other (rw (← long) t)) (refl, refl))
      (λ t.
      let fits = ltb-false (length out) n t in
      rw (clean_written rules S out fits, clean_written rules S other (omega arith)) (
        refl,
        take_at (bytes_of rs) _ n (bytes_counted rs) ∙ sym (take_at (bytes_of rs) _ n (bytes_counted rs)),
      ))

pub copies_same : CopiesAlike
copies_same a b out other p q same long =
    let ok = (check_accepts_lem false a).0 p in
    let good = (check_accepts_lem false b).0 q in
    rw (clean_accepted out ok, clean_accepted other good, ← same_rules_lem ok good same, ← same_start ok good same)
    (outcomes_alike (job_of a).rules (job_of a).start out other long)
