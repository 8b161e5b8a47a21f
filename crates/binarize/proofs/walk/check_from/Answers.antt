-- `walk::check_from`: each record is tried, among those before it. Assumes nothing.
use Rattle.grammar.proofs.Basics.{◌≡◌, ◌∙◌, refl, ap, List, ℕ, ◌*◌, arith, take}
use Rattle.std.proofs.lemmas.Result.{err_from_is_err_and}
use Rattle.job.specs.declared.JobRecord.{JobRecord}
use Rattle.job.specs.Format.{records_of}
use Rattle.job.proofs.Records.{records_counted}
use Rattle.job.proofs.Bytes.{records_in_front}
use Rattle.job.proofs.Refusals.{not_zero}
use Rattle.long_jobs.specs.Inside.Parts.{fault_of}
use Rattle.long_jobs.proofs.WrittenFault.{fault_found, tried_more}
use Rattle.binarize.proofs.walk.check_from.Goals as goal

-- the number of the record that is tried
tried_here : (records : List ℕ) (j rules : ℕ) (r : JobRecord) (n : ℕ)
    → n ≡ fault_of (records_of (take (4 * j) records)) rules r
    → n ≡ fault_of (take j (records_of records)) rules r
tried_here records j rules r n is = is ∙ ap (λ seen. fault_of seen rules r) (records_in_front j records)

pub returns-in_err-written_fault-clause-fault : goal.returns-in_err-written_fault-clause-fault
returns-in_err-written_fault-clause-fault c =
    let p = err_from_is_err_and c.from_residual.result c.from_residual.ensures.1 in
    rw (p.1, p.2)
    (fault_found _ _ _ _ c.loop-j.invariant _ _ (omega (arith, records_counted c.args.records.now))
    c.record_at-r.ensures.record (tried_here _ _ _ _ _ c.in_err-written_fault.ensures.fault) (not_zero _))

pub loop-j-preserved : goal.loop-j-preserved
loop-j-preserved c =
    rw (c.from-rules.ensures, c.is_rule.ensures.says)
    (tried_more _ _ _ _ c.loop-j.invariant _ _ (omega (arith, records_counted c.args.records.now))
    c.record_at-r.ensures.record (tried_here _ _ _ _ _ c.in_ok-written_fault.ensures.fault) refl)
