-- `format::alike` compares field by field, field 2 first, what the definition compares in one test. Assumes nothing.
use Rattle.grammar.proofs.Basics.{◌≡◌, refl, ◌∙◌, sym, true, false, Bool, ◌&&◌, List, ℕ, ◌≤◌, ◌+◌, ◌*◌, eqb, length}
use Rattle.grammar.proofs.Basics.{get_or, eq-eqb, ne_eqb}
use Rattle.job.specs.declared.JobRecord.{JobRecord}
use Rattle.job.specs.Format.{records_of, same, no_record}
use Rattle.job.proofs.Records.{record_of_bytes}
use Rattle.records.proofs.format.alike.Goals.{then-job-at, else-job-at, then-job-at-2, else-job-at-2}
use Rattle.records.proofs.format.alike.Goals as goal

-- all four tests, in the order of the definition and in that of the code
in_order : (kind first second third : Bool) → (kind && first && second && third)
    ≡ (((second && third) && first) && kind)
in_order true true true true = refl
in_order true true true false = refl
in_order true true false true = refl
in_order true true false false = refl
in_order true false true true = refl
in_order true false true false = refl
in_order true false false true = refl
in_order true false false false = refl
in_order false true true true = refl
in_order false true true false = refl
in_order false true false true = refl
in_order false true false false = refl
in_order false false true true = refl
in_order false false true false = refl
in_order false false false true = refl
in_order false false false false = refl

module _ (b : List ℕ) (i : ℕ) (r : JobRecord) (fits : 4 * i + 4 ≤ length b) where
  says : (two three : Bool) → two ≡ (eqb (get_or b (4 * i + 2) 0) r.second && eqb (get_or b (4 * i + 3) 0) r.third)
      → three ≡ (two && eqb (get_or b (4 * i + 1) 0) r.first)
      → (three && eqb (get_or b (4 * i) 0) r.kind) ≡ same (get_or (records_of b) i no_record) r
  says two three e h =
      let kind = eqb (get_or b (4 * i) 0) r.kind in
      let first = eqb (get_or b (4 * i + 1) 0) r.first in
      let second = eqb (get_or b (4 * i + 2) 0) r.second in
      let third = eqb (get_or b (4 * i + 3) 0) r.third in
      rw (h, e, record_of_bytes b i fits) (sym (in_order kind first second third))

pub returns-then-job-at-3 : goal.returns-then-job-at-3
returns-then-job-at-3 c =
    let b = c.args.job.now in
    let at = 4 * c.args.i in
    let two : c.if-job-at.value
    ≡ (eqb (get_or b (at + 2) 0) c.args.r.second && eqb (get_or b (at + 3) 0) c.args.r.third) =
    elim c.if-job-at.branch [
      | then-job-at w ↦ rw (eq-eqb _ _ w.if-job-at.true) w.value-is
      | else-job-at w ↦ rw (ne_eqb _ _ w.if-job-at.false) (w.value-is ∙ ne_eqb _ _ w.if-job-at.false)
    ] in
    let three : c.if-job-at-2.value ≡ (c.if-job-at.value && eqb (get_or b (at + 1) 0) c.args.r.first) =
    elim c.if-job-at-2.branch [
      | then-job-at-2 w ↦ rw w.if-job-at-2.true w.value-is
      | else-job-at-2 w ↦ rw w.if-job-at-2.false (w.value-is ∙ w.if-job-at-2.false)
    ] in
    record { says = rw c.if-job-at-3.true at (says b c.args.i c.args.r c.requires.within _ _ two three) }

pub returns-else-job-at-3 : goal.returns-else-job-at-3
returns-else-job-at-3 c =
    let b = c.args.job.now in
    let at = 4 * c.args.i in
    let two : c.if-job-at.value
    ≡ (eqb (get_or b (at + 2) 0) c.args.r.second && eqb (get_or b (at + 3) 0) c.args.r.third) =
    elim c.if-job-at.branch [
      | then-job-at w ↦ rw (eq-eqb _ _ w.if-job-at.true) w.value-is
      | else-job-at w ↦ rw (ne_eqb _ _ w.if-job-at.false) (w.value-is ∙ ne_eqb _ _ w.if-job-at.false)
    ] in
    let three : c.if-job-at-2.value ≡ (c.if-job-at.value && eqb (get_or b (at + 1) 0) c.args.r.first) =
    elim c.if-job-at-2.branch [
      | then-job-at-2 w ↦ rw w.if-job-at-2.true w.value-is
      | else-job-at-2 w ↦ rw w.if-job-at-2.false (w.value-is ∙ w.if-job-at-2.false)
    ] in
    record {
      says =
          c.if-job-at-3.false
          ∙ rw c.if-job-at-3.false at (says b c.args.i c.args.r c.requires.within _ _ two three);
    }
