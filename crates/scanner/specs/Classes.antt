-- The tests of the classes of bytes. Assumes nothing.
use Rattle.std.specs.Prelude.{ℕ, Bool}
use Rattle.abnf.specs.Bytes.{is_hexdig, is_wsp_lem, in_name, in_string, in_comment}
use Rattle.scanner.specs.declared.bytes.ByteClass.{ByteClass}
use Rattle.scanner.specs.declared.bytes.ByteClass.TheVariants.{Name, Wsp, Quotable, Comment, Hexdig}

-- The text of ABNF: the test of a class
abbrev pub test_of : ByteClass → ℕ → Bool
test_of Name = in_name
test_of Wsp = is_wsp_lem
test_of Quotable = in_string
test_of Comment = in_comment
test_of Hexdig = is_hexdig
