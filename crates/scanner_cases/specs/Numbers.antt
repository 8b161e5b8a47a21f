-- What the test's exports take and write. Assumes nothing.
use Rattle.std.specs.Prelude.{ℕ, Bool, false, true}
use Rattle.abnf.specs.declared.Edition.{Edition}
use Rattle.abnf.specs.declared.Edition.TheVariants.{Rfc5234, Rfc7405}
use Rattle.abnf.specs.declared.Fault.{Fault}
use Rattle.abnf.specs.declared.Fault.TheVariants.{Nothing, At}

abbrev pub edition_of_lem : Bool → Edition
edition_of_lem false = Rfc5234
edition_of_lem true = Rfc7405

abbrev pub fault_number : Fault → ℕ
fault_number Nothing = 18446744073709551615
fault_number (At offset) = offset
