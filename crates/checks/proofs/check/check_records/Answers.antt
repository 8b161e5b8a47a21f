use Rattle.grammar.proofs.Basics.{◌≡◌, ◌∙◌, refl, sym, true, false, Bool, List, ℕ, ◌<◌, ◌≤◌, ◌/◌, add-one, arith, length, get_or, take}
use Rattle.std.proofs.lemmas.Option.{none-some, same_Some}
use Rattle.job.specs.declared.JobRecord.{JobRecord}
use Rattle.job.specs.declared.Limits.{Limits}
use Rattle.job.specs.declared.Tally.{Tally}
use Rattle.job.specs.Format.{records_of, has, no_record}
use Rattle.job.specs.Inside.Walk.{form_fault_lem, mark_of}
use Rattle.job.proofs.Records.{records_counted}
use Rattle.job.proofs.Refusals.{is_number, not_zero}
use Rattle.job.proofs.Earlier.{none_at_first, none_so_far, has_at}
use Rattle.job.proofs.Marks.{Marked, none_marked, unmarked, marked_on}
use Rattle.job.proofs.Walk.{Walked, Read, walked_none, walked_on, walked_all, tally_within, fault_here}
use Rattle.job.proofs.Walk.{refused_here}
use Rattle.checks.proofs.check.check_records.Goals.{else-walk-test, then-walk-test+in_default+then-loop-j-test+then-alike}
use Rattle.checks.proofs.check.check_records.Goals.{then-marks-mark, else-marks-mark}
use Rattle.checks.proofs.check.check_records.Goals as goal

-- the record is read
read : {limits : Limits} (job : List ℕ) {i : ℕ} {seen : Tally} {r : JobRecord} {form : ℕ}
    → Walked limits (records_of job) i seen
    → i < length job / 4
    → r ≡ get_or (records_of job) i no_record
    → form ≡ form_fault_lem r
    → Read limits (records_of job) i seen r form
read job w l h f = record { walked = w; below = omega (arith, records_counted job); here = h; formed = f }

-- all records before it were compared
all_compared : (rs : List JobRecord) (r : JobRecord) (i j met : ℕ) → met ≡ i → j ≤ met → met ≤ j
    → has (take j rs) r ≡ false → has (take i rs) r ≡ false
all_compared rs r i j met m l h n = let e : i ≡ j = omega arith in rw e n

-- a record whose mark is not set was not met
not_met : {marks : List Bool} (job : List ℕ) {i : ℕ} → Marked marks (records_of job) i → (r : JobRecord) (mark : ℕ)
    → mark ≡ mark_of r → i < length job / 4 → get_or marks mark false ≡ false → has (take i (records_of job)) r ≡ false
not_met job m r mark is h z = unmarked m r (omega (arith, records_counted job)) (rw is at z)

pub walk-init : goal.walk-init
walk-init c = (walked_none _ _, none_marked _ _ refl, refl)

pub returns-in-Err : goal.returns-in-Err
returns-in-Err c =
    record {
      checked =
          let a = read c.args.job.now c.walk.invariant.0 c.walk-test.true c.record_at-r.ensures.record c.in-Err.ensures.fault in
          refused_here a _ (fault_here a ∙ rw (is_number c.in-Err.cause)) (not_zero c.in-Err.cause)
          c.refuse.ensures.refused;
    }

pub loop-j-init : goal.loop-j-init
loop-j-init c = (none_at_first _, c.walk.invariant.2)

pub loop-j-preserved : goal.loop-j-preserved
loop-j-preserved c =
    let rs = records_of c.args.job.now in
    let l : c.loop-j.j < length rs =
    elim c.if-marks-mark.branch [
      | then-marks-mark w ↦ omega (arith, w.met-is, records_counted c.args.job.now)
      | else-marks-mark w ↦ omega (arith, w.met-is)
    ] in (
      rw add-one (none_so_far _ rs c.loop-j.j l c.loop-j.invariant.0 (sym c.alike.ensures.says ∙ c.if-alike.false)),
      c.loop-j.invariant.1,
    )

pub returns-in-Err-order_fault : goal.returns-in-Err-order_fault
returns-in-Err-order_fault c =
    let a = read c.args.job.now c.walk.invariant.0 c.walk-test.true c.record_at-r.ensures.record c.in_default.ensures.fault in
    let none : has (take c.walk.i (records_of c.args.job.now)) c.record_at-r.result ≡ false =
    elim c.if-marks-mark.branch [
      | then-marks-mark w ↦ all_compared _ _ _ c.loop-j.j _ w.met-is c.loop-j.auto.j-end c.loop-j-test.false c.loop-j.invariant.0
      | else-marks-mark w ↦
          not_met c.args.job.now c.walk.invariant.1 _ _ c.mark_of-mark.ensures.mark.0 c.walk-test.true w.if-marks-mark.false
    ] in
    record {
      checked =
          refused_here a _ (fault_here a ∙ rw (none, ← c.in-Err-order_fault.ensures.fault))
          (not_zero c.in-Err-order_fault.cause) c.refuse-in-Err-order_fault.ensures.refused;
    }

pub count_in-seen-requires : goal.count_in-seen-requires
count_in-seen-requires c =
    record {
      few =
          omega (
            arith,
            tally_within _ _ _ _ c.walk.invariant.0 (omega (arith, records_counted c.args.job.now)),
            records_counted c.args.job.now,
          );
    }

pub walk-preserved : goal.walk-preserved
walk-preserved c =
    let a = read c.args.job.now c.walk.invariant.0 c.walk-test.true c.record_at-r.ensures.record c.in_default.ensures.fault in
    let none : has (take c.walk.i (records_of c.args.job.now)) c.record_at-r.result ≡ false =
    elim c.if-marks-mark.branch [
      | then-marks-mark w ↦ all_compared _ _ _ c.loop-j.j _ w.met-is c.loop-j.auto.j-end c.loop-j-test.false c.loop-j.invariant.0
      | else-marks-mark w ↦
          not_met c.args.job.now c.walk.invariant.1 _ _ c.mark_of-mark.ensures.mark.0 c.walk-test.true w.if-marks-mark.false
    ] in (
      walked_on a (fault_here a ∙ rw (none, ← c.in_default-order_fault.ensures.fault)) c.count_in-seen.ensures.counted,
      marked_on c.walk.invariant.1 _ a.here (rw c.mark_of-mark.ensures.mark.0),
      c.loop-j.invariant.1,
    )

pub returns-in-Some : goal.returns-in-Some
returns-in-Some c =
    elim c.walk-test.branch [
      | else-walk-test w ↦ absurd (none-some _ (sym c.walk.invariant.2 ∙ sym w.repeated-is ∙ c.in-Some.is))
      | then-walk-test+in_default+then-loop-j-test+then-alike w ↦
          let job = c.args.job.now in
          let a = read job c.walk.invariant.0 w.walk-test.true w.record_at-r.ensures.record w.in_default.ensures.fault in
          let l : w.loop-j.j < c.walk.i =
          elim w.if-marks-mark.branch [
            | then-marks-mark w' ↦ omega (arith, w'.met-is)
            | else-marks-mark w' ↦ omega (arith, w'.met-is)
          ] in
          let met : has (take c.walk.i (records_of job)) w.record_at-r.result ≡ true =
          has_at _ (records_of job) c.walk.i w.loop-j.j l (omega (arith, records_counted job))
          (sym w.alike.ensures.says ∙ w.if-alike.true) in
          let again : c.in-Some.refusal ≡ w.refuse-then-alike.result = same_Some _ _ (sym c.in-Some.is ∙ w.repeated-is) in
          record {
            checked =
                rw again (refused_here a _ (fault_here a ∙ rw met) (omega arith) w.refuse-then-alike.ensures.refused);
          }
    ]

pub returns-in-None : goal.returns-in-None
returns-in-None c =
    elim c.walk-test.branch [
      | else-walk-test w ↦
          record {
            checked =
                c.missing_kind.ensures.missing
                ∙ walked_all c.walk.invariant.0 _ _ (sym (records_counted _)) c.walk.auto.i-end w.walk-test.false;
          }
      | then-walk-test+in_default+then-loop-j-test+then-alike w ↦
          absurd (none-some _ (sym c.in-None.is ∙ w.repeated-is))
    ]
