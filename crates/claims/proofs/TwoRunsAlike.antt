-- Demand 3: two runs side by side stay so after each call, whose outcomes are alike; and each run keeps what it does
-- not write and counts right. By induction on the list of calls. Assumes nothing.
use Rattle.grammar.proofs.Basics.{◌∙◌, sym, false, Bool, ◌||◌, List, ℕ}
use Rattle.job.specs.Accepted.{Accepted}
use Rattle.job.specs.Job.{job_of}
use Rattle.job.specs.Order.{SameRecords}
use Rattle.job.proofs.Accepted.{check_accepts_lem}
use Rattle.job.proofs.AcceptedFacts.{in_range}
use Rattle.job.proofs.JobChecks.{nothing_shown}
use Rattle.job.proofs.OrderFree.{accepted_permutes, accepted_same_job}
use Rattle.machine.specs.Table.{Lent}
use Rattle.machine.proofs.Starts.StartCounts.{smallest_is_counted}
use Rattle.claims.specs.Call.{Kind, Call, outcome_of, run_of, run_by}
use Rattle.claims.specs.Alike.{SameCalls, TraceAlike, settles}
use Rattle.claims.specs.Counts.{idle}
use Rattle.claims.specs.TwoRuns.{TwoRuns}
use Rattle.claims.proofs.SideBySide.{SideBySide}
use Rattle.claims.proofs.CallsAlike.{call_alike}
use Rattle.claims.proofs.RunKept.{call_keeps, run_kept}
use Rattle.claims.proofs.RunCounts.{run_counted}
use Rattle.claims.specs.Alike as alike

module _ (k : Kind) (a b : List ℕ) (records : SameRecords a b) (ok : Accepted false a) where
  trace_alike : (m n : Lent) (known : Bool) → SideBySide k a b m n known → {cs ds : List (Call k)} →
      SameCalls k cs ds → TraceAlike k known (run_of k a m cs) (run_of k b n ds)
  unfolding run_by
  trace_alike m n known runs alike.none = alike.none
  trace_alike m n known runs (alike.more {c = c} {d = d} same calls) =
      let now = call_alike k a b m n known runs same in
      let kept = call_keeps a ok k m c in
      let others = call_keeps b (accepted_permutes records ok) k n d in
      alike.more now
      (trace_alike (outcome_of k a m c).lent (outcome_of k b n d).lent (known || settles (outcome_of k a m c).answer)
      (record {
        records = records;
        ok = ok;
        long =
            record {
              table = kept.long_table ∙ runs.long.table ∙ sym others.long_table;
              reasons = kept.long_reasons ∙ runs.long.reasons ∙ sym others.long_reasons;
            };
        alike = now.lent;
      })
      calls)

pub two_runs : TwoRuns
unfolding TwoRuns
two_runs k a b checked records m n long cs ds calls known same =
    let ok : Accepted false a = (check_accepts_lem false a).0 checked in
    let runs : SideBySide k a b m n known = record { records = records; ok = ok; long = long; alike = same } in
    let second = accepted_permutes records ok in
    let counted = smallest_is_counted (job_of a) (in_range ok) in
    record {
      alike = trace_alike k a b records ok m n known runs calls;
      kept_first = run_kept a ok k m cs;
      kept_second = run_kept b second k n ds;
      transitions = counted.0;
      smallest = counted.1;
      counts_first = run_counted a ok counted.0 counted.1 k m cs idle tt;
      counts_second =
          run_counted b second counted.0 (rw (← accepted_same_job records ok) counted.1) k n ds idle tt;
      shown_first = nothing_shown ok;
      shown_second = nothing_shown second;
    }
