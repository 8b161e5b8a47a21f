-- `write::write_grammar`. The invariant: S and the records of the first k keys stand in front. Assumes nothing.
use Rattle.grammar.proofs.Basics.{List, ◌∷◌, map, ℕ, ◌≤◌, length}
use Rattle.grammar.proofs.Basics.{take}
use Rattle.job.specs.declared.JobRecord.{JobRecord}
use Rattle.job.specs.Job.{start_record}
use Rattle.job.specs.Inside.Keys.{record_of_key}
use Rattle.job.proofs.InFront.{InFront}
use Rattle.records.proofs.write.write_grammar.Given as goal

-- S and the records of the first k keys
abbrev pub first : ℕ → List ℕ → ℕ → List JobRecord
first start keys k = start_record start ∷ map record_of_key (take k keys)

abbrev pub invariant-loop-k : goal.invariant-loop-k
invariant-loop-k l = (l.k ≤ length l.keys) × InFront (first l.start l.keys l.k) l.initial.out l.out
