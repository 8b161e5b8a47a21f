use Rattle.grammar.proofs.Basics.{◌≡◌, List, ◌∷◌, [], ◌++◌, map, ℕ, ◌<◌, ◌≤◌, ◌+◌, ◌*◌, arith, length}
use Rattle.grammar.proofs.Basics.{get_or, take, drop, length-map, length-take-le}
use lib.Seq.{take_all}
use Rattle.job.specs.declared.JobRecord.{JobRecord}
use Rattle.job.specs.Format.{bytes_of}
use Rattle.job.specs.Job.{start_record}
use Rattle.job.specs.Inside.Keys.{record_of_key}
use Rattle.job.proofs.InFront.{InFront, front_size, front_more}
use Rattle.job.proofs.KeyRules.{mapped_more}
use Rattle.records.proofs.write.write_grammar.Invariants.{first}
use Rattle.records.proofs.write.write_grammar.Goals as goal

counted : (start : ℕ) (keys : List ℕ) (k : ℕ) → k ≤ length keys → length (first start keys k) ≡ k + 1
counted start keys k h = omega (arith, length-map (take k keys) record_of_key, length-take-le k keys h)

module _ (start : ℕ) (keys before : List ℕ) where
  size : (out : List ℕ) (k : ℕ) → InFront (first start keys k) before out → 4 * length keys + 4 ≤ length before →
      k ≤ length keys → length out ≡ length before
  size out k f room h = front_size f (rw (counted start keys k h) (omega arith))

  one_more : (out after : List ℕ) (k : ℕ) (r : JobRecord) → k < length keys →
      InFront (first start keys k) before out → r ≡ record_of_key (get_or keys k 0) →
      after ≡ take (4 * (k + 1)) out ++ (bytes_of (r ∷ []) ++ drop (4 * (k + 1) + 4) out) →
      InFront (first start keys (k + 1)) before after
  one_more out after k r h f is put =
      rw (mapped_more record_of_key keys k h, ← is) (front_more f (k + 1) r (rw (counted start keys k (omega arith))) put)

  all : (out : List ℕ) (k : ℕ) → k ≡ length keys → InFront (first start keys k) before out →
      out ≡ bytes_of (start_record start ∷ map record_of_key keys) ++ drop (4 * length keys + 4) before
  all out k e f =
      let n : 4 * length (first start keys k) ≡ 4 * length keys + 4 = rw (counted start keys k (omega arith)) (omega arith) in
      rw (n, take_all k keys (omega arith)) at f.is

pub loop-k-preserved : goal.loop-k-preserved
loop-k-preserved c =
    let inv = c.loop-k.invariant in (
      omega arith,
      one_more _ _ _ _ _ _ _ c.loop-k-test.true inv.1 c.record_of.ensures.record c.put_record-in-loop-k.ensures.put,
    )
