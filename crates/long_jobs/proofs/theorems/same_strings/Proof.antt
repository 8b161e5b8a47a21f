-- `binarize::theorems::same_strings` meets its contract: the taken variables stand for strings of the long job. Assumes
-- nothing.
use Rattle.long_jobs.proofs.SameStrings.{same_strings_lem}
use Rattle.long_jobs.proofs.theorems.same_strings.Statement.{statement}
use Rattle.long_jobs.proofs.theorems.same_strings.Tie as tie

pub same_strings_spec : {M : Type 1} → statement M
same_strings_spec = tie.close (tie.spec (λ c. same_strings_lem))
