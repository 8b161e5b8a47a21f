-- Where a line may begin, nothing is said of a line that is begun. Assumes nothing.
use Rattle.grammar.proofs.Basics.{ℕ, List, [], ◌∷◌, ◌≡◌, refl, cond}
use Rattle.abnf.specs.declared.PieceKind.{PieceKind}
use Rattle.abnf.specs.declared.PieceKind.TheVariants.{NamePiece, MarkPiece, SlashPiece, BlankPiece, LiteralPiece}
use Rattle.abnf.specs.declared.PieceKind.TheVariants.{CommentPiece, EndPiece, NoPiece}
use Rattle.abnf.specs.declared.Stage.TheVariants.{LineStart}
use Rattle.abnf.specs.declared.Fault.{Fault}
use Rattle.abnf.specs.declared.Fault.TheVariants.{Nothing, At}
use Rattle.abnf.specs.Pieces.{Piece}
use Rattle.abnf.specs.Reading.{Said, says, follows, is_outside_lem, fault_from, says_from}
use Rattle.abnf.proofs.OfThePart.{at_nothing}

-- nothing is said of an alternative that is begun, nor of others after it
pub record LinesAlone (said : Said) : Type 0 where
  pub here : said.here ≡ []
  pub others : said.others ≡ []

-- a line begins with a name
begins_alone : (k : PieceKind) (at : ℕ) (b : List ℕ) (said : Said) (later : Fault) →
    cond (is_outside_lem (follows LineStart k)) (At at) later ≡ Nothing → LinesAlone (says LineStart k b said)
begins_alone NamePiece at b said later h = record { here = refl; others = refl }
begins_alone MarkPiece at b said later h = at_nothing at h
begins_alone SlashPiece at b said later h = at_nothing at h
begins_alone BlankPiece at b said later h = at_nothing at h
begins_alone LiteralPiece at b said later h = at_nothing at h
begins_alone CommentPiece at b said later h = at_nothing at h
begins_alone EndPiece at b said later h = at_nothing at h
begins_alone NoPiece at b said later h = at_nothing at h

pub lines_alone : (at : ℕ) (ps : List Piece) → fault_from LineStart at ps ≡ Nothing → LinesAlone (says_from LineStart ps)
unfolding fault_from says_from
lines_alone at [] h = record { here = refl; others = refl }
lines_alone at (p ∷ ps) h = begins_alone p.kind at p.bytes (says_from (follows LineStart p.kind) ps) _ h
