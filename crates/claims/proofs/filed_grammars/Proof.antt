-- The claim is the theorem of proofs/FiledCertificates. Assumes nothing.
use Rattle.claims.proofs.FiledCertificates.{filed_grammars_lem'}
use Rattle.claims.proofs.filed_grammars.Statement.{statement}
use Rattle.claims.proofs.filed_grammars.Tie as tie

pub filed_grammars_spec : {M : Type 1} → statement M
filed_grammars_spec = tie.close (tie.spec (λ c. filed_grammars_lem'))
