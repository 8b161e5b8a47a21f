-- `theorems::finish_is_path` meets its contract: a state that passes at each symbol is a step of the path. Assumes
-- nothing.
use Rattle.forms.specs.Theorems.AcceptanceTheorems.{FinishIsPath}
use Rattle.forms.proofs.FinishPaths.{finish_path, path_finish}
use Rattle.forms.proofs.theorems.finish_is_path.Statement.{statement}
use Rattle.forms.proofs.theorems.finish_is_path.Tie as tie

pub finish_is_path_spec : {M : Type 1} → statement M
unfolding FinishIsPath
finish_is_path_spec = tie.close (tie.spec
    (λ c. λ final done w q l. (finish_path final done w q l, λ p. path_finish final done p.1 p.2)))
