-- `claims::finished_tables` meets its contract, which is of Type 1: advances after a start are steps from it, and
-- steps from a start finish with the smallest set. Assumes nothing.
use Rattle.claims.specs.FinishedTables.{FinishedTables}
use Rattle.grammar.proofs.Carried.{Nothing, NothingAfter, carried}
use contract.Running.{tables_of}
use borrow.Fn.Run.{Over}
use Rattle.claims.proofs.Finished.{finished_tables_lem}
use Rattle.claims.proofs.finished_tables.Code as code
use Rattle.claims.specs.contracts.finished_tables.Key as key
use Rattle.claims.proofs.finished_tables.Lts as lts
use Rattle.claims.proofs.finished_tables.Statement.{statement}
use Rattle.claims.proofs.finished_tables.Tie as tie
use borrow.Fn.Written.{at_code}
use borrow.Fn.Function.{plain_of}

pub finished_tables_spec : {M : Type 1} → statement M
unfolding tables_of
finished_tables_spec {M} 𝓤 𝓛 𝓜 𝓡 wired =
    let γ = 𝓡.env in
    carried FinishedTables finished_tables_lem (record { M = M; 𝓤 = 𝓤; 𝓛 = 𝓛; 𝓜 = 𝓜; 𝓡 = 𝓡 }) γ key.name code.function
    (code.unfolded 𝓤 𝓛.H 𝓜 𝓡 wired)
    (at_code 𝓤 𝓛.H (Over 𝓛 𝓜 𝓡 γ).C (Over 𝓛 𝓜 𝓡 γ).Λ lts.function code.function tie.same_locals tie.same_body
    (plain_of 𝓛 0 lts.ps lts.r Nothing NothingAfter)
    (lts.spec Nothing NothingAfter (λ c. tt) 𝓤 𝓛 (Over 𝓛 𝓜 𝓡 γ)))
