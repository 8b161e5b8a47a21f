-- `theorems::same_language`: derivations by useful rules are carried over the new numbers and back. Assumes nothing.
use Rattle.copies.proofs.Copied.{same_strings_lem}
use Rattle.copies.proofs.theorems.same_language.Statement.{statement}
use Rattle.copies.proofs.theorems.same_language.Tie as tie

pub same_language_spec : {M : Type 1} → statement M
same_language_spec = tie.close (tie.spec (λ c. same_strings_lem))
