-- `job::theorems::same_rules` carries what proofs/SameGrammar says, of jobs that pass the checks. Assumes nothing.
use Rattle.grammar.proofs.Basics.{false}
use Rattle.job.specs.Theorems.OrderFree.{SameRules}
use Rattle.job.proofs.Accepted.{check_accepts_lem}
use Rattle.job.proofs.SameGrammar.{same_rules_lem, same_start}
use Rattle.job.proofs.theorems.same_rules.Statement.{statement}
use Rattle.job.proofs.theorems.same_rules.Tie as tie

same : SameRules
same a b e f g =
    let ok = (check_accepts_lem false a).0 e in
    let other = (check_accepts_lem false b).0 f in
    (same_rules_lem ok other g, same_start ok other g)

pub same_rules_spec : {M : Type 1} → statement M
same_rules_spec = tie.close (tie.spec (λ c. same))
