-- A refusal's number is not 0, so it comes first. Assumes nothing.
use Rattle.grammar.proofs.Basics.{◌≡◌, ◌∙◌, refl, sym, false, false≢true, eqb, eq-eqb}
use Rattle.job.specs.declared.Cause.{Cause}
use Rattle.job.specs.declared.Cause.TheVariants.{PartialRecord, TooLong, UnknownKind, FieldOutsideClass, Repeated, Second}
use Rattle.job.specs.declared.Cause.TheVariants.{TooManyRules, NoStart, NoInitial, ShortBuffer, NoSymbol, FormTooLong}
use Rattle.job.specs.declared.Cause.TheVariants.{NoRoom, TooFewVariables, IllPadded, OutsideAbnf, NameOutOfPlace, TooFewNumbers}
use Rattle.job.specs.declared.Refusal.{Refusal}
use Rattle.job.specs.Records.{Checked, or_else}
use Rattle.job.specs.Refusals.{number_of, refused_by}

pub is_number : (cause : Cause) → eqb (number_of cause) 0 ≡ false
is_number PartialRecord = refl
is_number TooLong = refl
is_number UnknownKind = refl
is_number FieldOutsideClass = refl
is_number Repeated = refl
is_number Second = refl
is_number TooManyRules = refl
is_number NoStart = refl
is_number NoInitial = refl
is_number ShortBuffer = refl
is_number NoSymbol = refl
is_number FormTooLong = refl
is_number NoRoom = refl
is_number TooFewVariables = refl
is_number IllPadded = refl
is_number OutsideAbnf = refl
is_number NameOutOfPlace = refl
is_number TooFewNumbers = refl

pub refused_first : (r : Refusal) (d : Checked) → or_else (refused_by r) d ≡ refused_by r
refused_first r d = rw (is_number r.cause)

pub not_zero : (cause : Cause) → number_of cause ≡ 0 → ⊥
not_zero cause e = false≢true (sym (is_number cause) ∙ eq-eqb _ 0 e)
