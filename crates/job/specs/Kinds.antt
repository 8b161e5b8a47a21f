-- The job: the kinds as the code reads them from kind bytes. Assumes nothing.
use Rattle.std.specs.Prelude.{◌≡◌, ℕ, suc, Option, Some, None, Result, Ok, Err}
use Rattle.job.specs.declared.Kind.{Kind}
use Rattle.job.specs.declared.Kind.TheVariants.{Empty, Unit, Pair, Transition, Initial, Final, Start}
use Rattle.job.specs.declared.NoKind.{NoKind}
use Rattle.job.specs.Format.{row_of}

-- the row of a kind in the table of kinds
abbrev pub kind_row : Kind → ℕ
kind_row Empty = 0
kind_row Unit = 1
kind_row Pair = 2
kind_row Transition = 3
kind_row Initial = 4
kind_row Final = 5
kind_row Start = 6

-- that of a kind which is read, 7 for none
abbrev pub read_row : Result Kind NoKind → ℕ
read_row (Ok kind) = kind_row kind
read_row (Err _) = 7

-- a kind is read from a byte
abbrev pub KindRead : ℕ → Result Kind NoKind → Type 0
KindRead byte kind = row_of byte ≡ read_row kind

-- the number, 1 to 3, of a field that is counted from 0; 0 for none
abbrev pub field_number : Option ℕ → ℕ
field_number None = 0
field_number (Some field) = suc field
