-- `format::in_class` makes the test of each class as the definition does. Assumes nothing.

use Rattle.records.proofs.format.in_class.Goals as goal

pub returns-in-Zero : goal.returns-in-Zero
returns-in-Zero c = record { says = rw c.in-Zero.is }

pub returns-in-Variable : goal.returns-in-Variable
returns-in-Variable c = record { says = rw c.in-Variable.is c.is_variable.ensures.variable }

pub returns-in-Symbol : goal.returns-in-Symbol
returns-in-Symbol c = record { says = rw c.in-Symbol.is c.is_symbol.ensures.symbol }

pub returns-in-State : goal.returns-in-State
returns-in-State c = record { says = rw c.in-State.is }
