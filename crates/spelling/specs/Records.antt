-- The lines of a listing: a transition and why it is there. Assumes nothing.
use Rattle.std.specs.Prelude.{ℕ, ◌+◌, ◌*◌, cond, List, ◌++◌, eqb, get_or}
use Prim.Native.Char.{code}
use Rattle.spelling.specs.Words.{ascii, decimal}
use Rattle.spelling.specs.Lines.{newline}

-- Forms and listings: a transition, 'q X r'
unfoldable pub transition_output : ℕ → ℕ → ℕ → List ℕ
transition_output q X r = decimal q ++ ascii " " ++ decimal X ++ ascii " " ++ decimal r

-- Forms and listings: what follows the first symbol of a rule's body: of a pair rule the second symbol and the middle
-- state, ' Z at m', of a unit rule nothing, and the line's end
unfoldable pub second_output : ℕ → ℕ → ℕ → List ℕ
second_output kind Z m =
    cond (eqb kind (code "P")) (ascii " " ++ decimal Z ++ ascii " at " ++ decimal m ++ newline) newline

-- Forms and listings: the body of the rule by which a transition was added: ' -> empty', ' -> Y' or ' -> Y Z at m'
unfoldable pub body_output : ℕ → ℕ → ℕ → ℕ → List ℕ
body_output kind Y Z m =
    cond (eqb kind (code "E")) (ascii " -> empty\n") (ascii " -> " ++ decimal Y ++ second_output kind Z m)

-- Forms and listings: why a transition with the symbol X is there: ' given', or ' by X' and the rule's body
unfoldable pub reason_output : ℕ → ℕ → ℕ → ℕ → ℕ → List ℕ
reason_output X kind Y Z m =
    cond (eqb kind (code "G")) (ascii " given\n") (ascii " by " ++ decimal X ++ body_output kind Y Z m)

-- Forms and listings: a record is eight bytes: q, X, r, the kind of the reason, the two symbols of the body, the
-- middle state, and one that is not printed
abbrev pub record_byte : List ℕ → ℕ → ℕ → ℕ
record_byte listing k j = get_or listing (8 * k + j) 0

-- Forms and listings: the line of record k: its transition and why it is there
unfoldable pub record_line_lem : List ℕ → ℕ → List ℕ
record_line_lem listing k =
    transition_output (record_byte listing k 0) (record_byte listing k 1) (record_byte listing k 2)
    ++ reason_output
    (record_byte listing k 1)
    (record_byte listing k 3)
    (record_byte listing k 4)
    (record_byte listing k 5)
    (record_byte listing k 6)
