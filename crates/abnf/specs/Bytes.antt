-- The bytes of ABNF text: the classes of RFC 5234, appendix B.1, and what digits and letters say. Assumes nothing.
use Rattle.std.specs.Prelude.{ℕ, ◌+◌, ◌-◌, ◌*◌, Bool, false, true, cond, not, ◌&&◌, ◌||◌, List, [], ◌∷◌, eqb, leb}
use Rattle.abnf.specs.declared.Character.{Character}

-- The text of ABNF: letters, decimal digits, hexadecimal digits of either case
abbrev pub is_capital : ℕ → Bool
is_capital b = leb 65 b && leb b 90

abbrev pub is_alpha_lem : ℕ → Bool
is_alpha_lem b = is_capital b || (leb 97 b && leb b 122)

abbrev pub is_digit_lem : ℕ → Bool
is_digit_lem b = leb 48 b && leb b 57

abbrev pub is_hexdig : ℕ → Bool
is_hexdig b = is_digit_lem b || (leb 65 b && leb b 70) || (leb 97 b && leb b 102)

-- The text of ABNF: a blank or a tab, and what may stand in a name, between quotes and in a comment
abbrev pub is_wsp_lem : ℕ → Bool
is_wsp_lem b = eqb b 32 || eqb b 9

abbrev pub in_name : ℕ → Bool
in_name b = is_alpha_lem b || is_digit_lem b || eqb b 45

abbrev pub in_string : ℕ → Bool
in_string b = leb 32 b && leb b 126 && not (eqb b 34)

abbrev pub in_comment : ℕ → Bool
in_comment b = is_wsp_lem b || (leb 33 b && leb b 126)

-- a letter as a small one; any other byte as it is
abbrev pub lower : ℕ → ℕ
lower b = cond (is_capital b) (b + 32) b

-- The text of ABNF: the letters after a percent sign, without regard to case
abbrev pub is_x : ℕ → Bool
is_x b = eqb (lower b) 120

abbrev pub is_s : ℕ → Bool
is_s b = eqb (lower b) 115

abbrev pub is_i : ℕ → Bool
is_i b = eqb (lower b) 105

-- the value of a hexadecimal digit
abbrev pub digit_value_lem : ℕ → ℕ
digit_value_lem b = cond (is_digit_lem b) (b - 48) (lower b - 87)

-- the value of the digits before, v, and these
unfoldable pub value_from : ℕ → List ℕ → ℕ
value_from v [] = v
value_from v (b ∷ s) = value_from (16 * v + digit_value_lem b) s

-- The text of ABNF: a character of a value or of a %s string, and one of any other string
abbrev pub exact : ℕ → Character
exact b = record { byte = b; either = false }

abbrev pub either_case : ℕ → Character
either_case b = record { byte = b; either = true }
