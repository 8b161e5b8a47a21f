-- What may follow what in a text; where a text leaves the part; what it says. Assumes nothing.
use Rattle.std.specs.Prelude.{ℕ, ◌+◌, Bool, false, true, cond, List, [], ◌∷◌, map, eqb, length, take, get_or}
use Rattle.abnf.specs.declared.Edition.{Edition}
use Rattle.abnf.specs.declared.Mark.{Mark}
use Rattle.abnf.specs.declared.Mark.TheVariants.{Defines, Adds}
use Rattle.abnf.specs.declared.Character.{Character}
use Rattle.abnf.specs.declared.PieceKind.{PieceKind}
use Rattle.abnf.specs.declared.PieceKind.TheVariants.{NamePiece, MarkPiece, SlashPiece, BlankPiece, LiteralPiece, CommentPiece}
use Rattle.abnf.specs.declared.PieceKind.TheVariants.{EndPiece, NoPiece}
use Rattle.abnf.specs.declared.Stage.{Stage}
use Rattle.abnf.specs.declared.Stage.TheVariants.{LineStart, Named, NamedSpaced, Open, OpenSpaced, Filled}
use Rattle.abnf.specs.declared.Stage.TheVariants.{FilledSpaced, Noted, Outside}
use Rattle.abnf.specs.declared.Fault.{Fault}
use Rattle.abnf.specs.declared.Fault.TheVariants.{Nothing, At}
use Rattle.abnf.specs.Bytes.{in_string, is_x, is_s, exact, either_case}
use Rattle.abnf.specs.Text.{Element, name, characters, Line}
use Rattle.abnf.specs.Pieces.{Piece, pieces_of, span, values_from}

-- the columns of the table below
abbrev pub column : PieceKind → ℕ
column NamePiece = 0
column MarkPiece = 1
column SlashPiece = 2
column BlankPiece = 3
column LiteralPiece = 4
column CommentPiece = 5
column EndPiece = 6
column NoPiece = 7

-- The text of ABNF: how far a line is read after each kind of piece: a name, a mark, a slash, blanks, a literal, a
-- comment, a line end
abbrev pub row : Stage → List Stage
row LineStart = Named ∷ []
row Named = Outside ∷ Open ∷ Outside ∷ NamedSpaced ∷ []
row NamedSpaced = Outside ∷ Open ∷ []
row Open = Filled ∷ Outside ∷ Outside ∷ OpenSpaced ∷ Filled ∷ []
row OpenSpaced = Filled ∷ Outside ∷ Outside ∷ Outside ∷ Filled ∷ []
row Filled = Outside ∷ Outside ∷ Open ∷ FilledSpaced ∷ Outside ∷ Noted ∷ LineStart ∷ []
row FilledSpaced = Filled ∷ Outside ∷ Open ∷ Outside ∷ Filled ∷ Noted ∷ LineStart ∷ []
row Noted = Outside ∷ Outside ∷ Outside ∷ Outside ∷ Outside ∷ Outside ∷ LineStart ∷ []
row Outside = []

abbrev pub follows : Stage → PieceKind → Stage
follows stage kind = get_or (row stage) (column kind) Outside

abbrev pub is_line_start_lem : Stage → Bool
is_line_start_lem LineStart = true
is_line_start_lem Named = false
is_line_start_lem NamedSpaced = false
is_line_start_lem Open = false
is_line_start_lem OpenSpaced = false
is_line_start_lem Filled = false
is_line_start_lem FilledSpaced = false
is_line_start_lem Noted = false
is_line_start_lem Outside = false

abbrev pub is_outside_lem : Stage → Bool
is_outside_lem LineStart = false
is_outside_lem Named = false
is_outside_lem NamedSpaced = false
is_outside_lem Open = false
is_outside_lem OpenSpaced = false
is_outside_lem Filled = false
is_outside_lem FilledSpaced = false
is_outside_lem Noted = false
is_outside_lem Outside = true

-- where pieces leave the part, the first of them at an offset: at the first that may not stand where it does, or past
-- the last where one is missing
unfoldable pub fault_from : Stage → ℕ → List Piece → Fault
fault_from stage at [] = cond (is_line_start_lem stage) Nothing (At at)
fault_from stage at (p ∷ ps) =
    cond (is_outside_lem (follows stage p.kind)) (At at)
    (fault_from (follows stage p.kind) (at + length p.bytes) ps)

-- The text of ABNF: the offset of refusal 16, if there is one
unfoldable pub fault_of : Edition → List ℕ → Fault
fault_of e [] = At 0
fault_of e (b ∷ s) = fault_from LineStart 0 (pieces_of e (b ∷ s))

-- what stands up to a quote
abbrev pub inner : List ℕ → List ℕ
inner s = take (span in_string s) s

-- The text of ABNF: the characters of the bytes after %x, %s" or %i", by the letter
abbrev pub characters_after : ℕ → List ℕ → List Character
characters_after x [] = []
characters_after x (b ∷ s) =
    cond (is_x x) (map exact (values_from 0 (b ∷ s))) (cond (is_s x) (map exact (inner s)) (map either_case (inner s)))

abbrev pub characters_past : List ℕ → List Character
characters_past [] = []
characters_past (x ∷ s) = characters_after x s

-- The text of ABNF: the characters of a literal
abbrev pub characters_of_lem : List ℕ → List Character
characters_of_lem [] = []
characters_of_lem (b ∷ s) = cond (eqb b 34) (map either_case (inner s)) (characters_past s)

-- the mark of the bytes = or =/
abbrev pub mark_of : List ℕ → Mark
mark_of [] = Defines
mark_of (b ∷ []) = Defines
mark_of (b ∷ c ∷ s) = Adds

-- what pieces say: in a line the mark, the rest of an alternative and the alternatives after it; the lines after it
pub record Said : Type 0 where
  pub mark : Mark
  pub here : List Element
  pub others : List (List Element)
  pub lines : List Line

abbrev pub nothing_said_lem : Said
nothing_said_lem = record { mark = Defines; here = []; others = []; lines = [] }

-- a line with this name; an element; a slash; a mark; each before what is said
abbrev pub line_said : List ℕ → Said → Said
line_said n said =
    record {
      mark = Defines;
      here = [];
      others = [];
      lines = record { name = n; mark = said.mark; alternatives = said.here ∷ said.others } ∷ said.lines;
    }

abbrev pub element_said : Element → Said → Said
element_said x said =
    record { mark = said.mark; here = x ∷ said.here; others = said.others; lines = said.lines }

abbrev pub slash_said : Said → Said
slash_said said = record { mark = said.mark; here = []; others = said.here ∷ said.others; lines = said.lines }

abbrev pub mark_said : Mark → Said → Said
mark_said m said = record { mark = m; here = said.here; others = said.others; lines = said.lines }

-- The text of ABNF: what a piece says before the rest. A name at the start of a line is the rule's, any other is an
-- element.
abbrev pub says : Stage → PieceKind → List ℕ → Said → Said
says stage NamePiece bytes said = cond (is_line_start_lem stage) (line_said bytes said) (element_said (name bytes) said)
says stage MarkPiece bytes said = mark_said (mark_of bytes) said
says stage SlashPiece bytes said = slash_said said
says stage BlankPiece bytes said = said
says stage LiteralPiece bytes said = element_said (characters (characters_of_lem bytes)) said
says stage CommentPiece bytes said = said
says stage EndPiece bytes said = said
says stage NoPiece bytes said = said

unfoldable pub says_from : Stage → List Piece → Said
says_from stage [] = nothing_said_lem
says_from stage (p ∷ ps) = says stage p.kind p.bytes (says_from (follows stage p.kind) ps)

-- The text of ABNF: the rules that a text says, line by line
unfoldable pub lines_of : Edition → List ℕ → List Line
lines_of e text = (says_from LineStart (pieces_of e text)).lines
