-- A table within a wider one: a record whose fields fit the first fit the second, so a record has another fault by the
-- second only where it is refused by 4 by the first. Assumes nothing.
use Rattle.grammar.proofs.Basics.{◌≡◌, refl, List, ◌∷◌, [], ◌++◌, suc, zero, arith, eqb, length, eqb-true, ltb-true}
use Rattle.grammar.proofs.Basics.{lt-ltb, not-false, cases}
use Rattle.job.specs.declared.JobRecord.{JobRecord}
use Rattle.job.specs.declared.Limits.{Limits}
use Rattle.job.specs.Format.{ClassTable, records_of, row_of, bad_field_lem}
use Rattle.job.specs.Records.{first_fault, length_check_lem, bytes_check}
use Rattle.job.specs.Check.{fault, job_format, check_of}
use Rattle.job.specs.Theorems.WiderClasses.{Within, PairsWidened, WiderChecks}
use Rattle.job.proofs.Shapes.{test_passed}

pub pairs_widened : PairsWidened
pairs_widened zero field x h = h
pairs_widened (suc zero) field x h = h
pairs_widened (suc (suc zero)) zero x h = h
pairs_widened (suc (suc zero)) (suc zero) x h = lt-ltb x 64 (omega (arith, ltb-true x 32 h))
pairs_widened (suc (suc zero)) (suc (suc zero)) x h = lt-ltb x 64 (omega (arith, ltb-true x 32 h))
pairs_widened (suc (suc zero)) (suc (suc (suc field))) x h = h
pairs_widened (suc (suc (suc row))) field x h = h

module _ (narrow wide : ClassTable) (within : Within narrow wide) (limits : Limits) where
  fits_wider : (r : JobRecord) → bad_field_lem narrow r ≡ 0 → bad_field_lem wide r ≡ 0
  unfolding bad_field_lem
  fits_wider r e =
      let (f, e) = test_passed _ 0 _ e in
      let (s, e) = test_passed _ 1 _ e in
      let (t, e) = test_passed _ 2 0 e in
      let row = row_of r.kind in
      rw (
        within row 0 r.first (not-false _ f),
        within row 1 r.second (not-false _ s),
        within row 2 r.third (not-false _ t),
      )

  fault_wider : (seen : List JobRecord) (r : JobRecord) → (fault narrow limits seen r ≡ 4 → ⊥) →
      fault wide limits seen r ≡ fault narrow limits seen r
  unfolding fault
  fault_wider seen r n =
      cases (eqb (row_of r.kind) 7) (λ t. rw t)
      (λ t. cases (eqb (bad_field_lem narrow r) 0)
      (λ u. let e = eqb-true (bad_field_lem narrow r) 0 u in rw (t, e, fits_wider r e))
      (λ u. absurd (n (rw (t, u)))))

  first_wider : (seen rs : List JobRecord) → ((first_fault (job_format narrow limits) seen rs).number ≡ 4 → ⊥) →
      first_fault (job_format wide limits) seen rs ≡ first_fault (job_format narrow limits) seen rs
  unfolding first_fault
  first_wider seen [] n = refl
  first_wider seen (r ∷ rs) n =
      let k = fault narrow limits seen r in
      cases (eqb k 0)
      (λ t.
      let e = eqb-true k 0 t in
      rw (fault_wider seen r (omega (arith, e)), e) (first_wider (seen ++ (r ∷ [])) rs (rw t at n)))
      (λ t. rw (fault_wider seen r (rw t at n), t))

pub wider_checks_lem : WiderChecks
unfolding check_of bytes_check
wider_checks_lem narrow wide within limits job n needed =
    cases (eqb (length_check_lem 16384 4 (length job)).number 0)
    (λ t.
    let rs = records_of job in
    let first = first_fault (job_format narrow limits) [] rs in
    let unrefused : first.number ≡ 4 → ⊥ = λ e. n (rw (t, e)) in
    rw (t, first_wider narrow wide within limits [] rs unrefused))
    (λ t. rw t)
