-- Refused calls: the number of each cause, and what an answer of the code says as a number and a place. Assumes nothing.
use Rattle.std.specs.Prelude.{ℕ, Option, Some, None, Result, Ok, Err}
use Rattle.job.specs.declared.Cause.{Cause}
use Rattle.job.specs.declared.Cause.TheVariants.{PartialRecord, TooLong, UnknownKind, FieldOutsideClass, Repeated}
use Rattle.job.specs.declared.Cause.TheVariants.{Second, TooManyRules, NoStart, NoInitial, ShortBuffer, NoSymbol}
use Rattle.job.specs.declared.Cause.TheVariants.{FormTooLong, NoRoom, TooFewVariables, IllPadded, OutsideAbnf}
use Rattle.job.specs.declared.Cause.TheVariants.{NameOutOfPlace, TooFewNumbers}
use Rattle.job.specs.declared.Refusal.{Refusal}
use Rattle.job.specs.Records.{Checked, refused, accepted}

-- the number of a cause
abbrev pub number_of : Cause → ℕ
number_of PartialRecord = 1
number_of TooLong = 2
number_of UnknownKind = 3
number_of FieldOutsideClass = 4
number_of Repeated = 5
number_of Second = 6
number_of TooManyRules = 7
number_of NoStart = 8
number_of NoInitial = 9
number_of ShortBuffer = 10
number_of NoSymbol = 11
number_of FormTooLong = 12
number_of NoRoom = 13
number_of TooFewVariables = 14
number_of IllPadded = 15
number_of OutsideAbnf = 16
number_of NameOutOfPlace = 17
number_of TooFewNumbers = 18

-- the number of a fault, 0 where there is none
abbrev pub fault_number : {T : Type 0} → Result T Cause → ℕ
fault_number (Ok _) = 0
fault_number (Err cause) = number_of cause

-- a refusal as its number and its place
abbrev pub refused_by : Refusal → Checked
refused_by r = refused (number_of r.cause) r.place

-- what checks that answer a Result say
abbrev pub checked_of : {T : Type 0} → Result T Refusal → Checked
checked_of (Ok _) = accepted
checked_of (Err r) = refused_by r

-- what is printed of a refusal, or of none
abbrev pub refused_or_none : Option Refusal → Checked
refused_or_none None = accepted
refused_or_none (Some r) = refused_by r
