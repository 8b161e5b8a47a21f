-- Where the names of a text stand. Assumes nothing.
use Rattle.std.specs.Prelude.{ℕ, ◌+◌, cond, List, [], ◌∷◌, ◌++◌, length}
use Rattle.abnf.specs.declared.Edition.{Edition}
use Rattle.abnf.specs.declared.Mark.{Mark}
use Rattle.abnf.specs.declared.PieceKind.{PieceKind}
use Rattle.abnf.specs.declared.PieceKind.TheVariants.{NamePiece, MarkPiece, SlashPiece, BlankPiece, LiteralPiece, CommentPiece}
use Rattle.abnf.specs.declared.PieceKind.TheVariants.{EndPiece, NoPiece}
use Rattle.abnf.specs.declared.Stage.{Stage}
use Rattle.abnf.specs.declared.Stage.TheVariants.{LineStart}
use Rattle.abnf.specs.Pieces.{Piece, pieces_of}
use Rattle.abnf.specs.Reading.{follows, is_line_start_lem, says_from}

-- ABNF text as a job, 17: a name at an offset: it begins a line with this mark, or it is an element
pub data Use : Type 0 where
  heads : ℕ → List ℕ → Mark → Use
  mentioned : ℕ → List ℕ → Use

-- the use that a piece is, if it is one, by the stage before it, its offset and the mark that follows
abbrev pub used_by : Stage → ℕ → PieceKind → List ℕ → Mark → List Use
used_by stage at NamePiece bytes mark = cond (is_line_start_lem stage) (heads at bytes mark) (mentioned at bytes) ∷ []
used_by stage at MarkPiece bytes mark = []
used_by stage at SlashPiece bytes mark = []
used_by stage at BlankPiece bytes mark = []
used_by stage at LiteralPiece bytes mark = []
used_by stage at CommentPiece bytes mark = []
used_by stage at EndPiece bytes mark = []
used_by stage at NoPiece bytes mark = []

unfoldable pub uses_from : Stage → ℕ → List Piece → List Use
uses_from stage at [] = []
uses_from stage at (p ∷ ps) =
    used_by stage at p.kind p.bytes (says_from (follows stage p.kind) ps).mark
    ++ uses_from (follows stage p.kind) (at + length p.bytes) ps

-- ABNF text as a job, 17: the names of a text, one after the other
unfoldable pub uses_of : Edition → List ℕ → List Use
uses_of e text = uses_from LineStart 0 (pieces_of e text)
