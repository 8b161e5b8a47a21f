-- `values::values_fit`: a value above FF stays so, and at the end none was. Assumes nothing.
use Rattle.grammar.proofs.Basics.{arith}
use Rattle.scanner.proofs.Numbers.{fits_on, too_large, all_fit}
use Rattle.scanner.proofs.values.values_fit.Goals as goal

pub returns-then-value-gt255 : goal.returns-then-value-gt255
returns-then-value-gt255 c = record { says = search too_large }

pub loop-b-preserved : goal.loop-b-preserved
loop-b-preserved c = (omega arith, search fits_on)

pub returns : goal.returns
returns c = record { says = search all_fit }
