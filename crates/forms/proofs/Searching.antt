-- There is a first number that passes exactly where there is one. Assumes nothing.
use Rattle.grammar.proofs.Basics.{◌≡◌, true, Bool, ℕ, ◌<◌, arith}
use Rattle.grammar.specs.Counting.{some}
use Rattle.grammar.proofs.Some.{some_passes}
use Rattle.machine.specs.Step.{first_from}
use Rattle.machine.proofs.Tables.FirstFrom.{first_least}

pub first_of_some : (f : ℕ → Bool) (n : ℕ) → some f n ≡ true → first_from f 0 n < n
first_of_some f n e =
    let found = some_passes f n e in
    omega (arith, first_least f 0 n found.0 (omega arith) (omega (arith, found.1)) found.2)
