-- What is lent keeps its lengths. Assumes nothing.
use Rattle.grammar.proofs.Basics.{◌≡◌, refl, ◌∙◌, length}
use Rattle.machine.specs.Table.{Lent}

-- the same lengths
pub record AsLong (m n : Lent) : Type 0 where
  pub table : length n.table ≡ length m.table
  pub reasons : length n.reasons ≡ length m.reasons

pub as_long : (m : Lent) → AsLong m m
as_long m = record { table = refl; reasons = refl }

pub then_long : (m n o : Lent) → AsLong m n → AsLong n o → AsLong m o
then_long m n o p q = record { table = q.table ∙ p.table; reasons = q.reasons ∙ p.reasons }
