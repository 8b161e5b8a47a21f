-- Lists of pieces that a text may have: each piece is what its kind says, and may stand where it does. Assumes nothing.
use Rattle.grammar.proofs.Basics.{ℕ, List, [], ◌∷◌, ◌≡◌, false}
use Rattle.abnf.specs.declared.Edition.{Edition}
use Rattle.abnf.specs.declared.PieceKind.{PieceKind}
use Rattle.abnf.specs.declared.Stage.{Stage}
use Rattle.abnf.specs.Pieces.{Piece}
use Rattle.abnf.specs.Reading.{follows, is_outside_lem}
pub use Rattle.abnf.specs.Theorems.Pieces.{PieceText, name_text, mark_text, slash_text, blank_text, literal_text}
pub use Rattle.abnf.specs.Theorems.Pieces.{comment_text, end_text}

-- pieces that lead from a stage to another, none of them outside
pub data Walks : Edition → Stage → List Piece → Stage → Type 0 where
  no_piece : {e : Edition} {σ : Stage} → Walks e σ [] σ
  next_piece :
      {e : Edition} {σ τ : Stage} {k : PieceKind} {b : List ℕ} {ps : List Piece} →
      PieceText e k b → is_outside_lem (follows σ k) ≡ false → Walks e (follows σ k) ps τ →
      Walks e σ (record { kind = k; bytes = b } ∷ ps) τ
