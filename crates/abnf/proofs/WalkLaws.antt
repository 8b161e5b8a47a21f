-- Laws of walks over pieces: they compose, a whole one has no fault, and each stage inside the part has a way on.
-- Assumes nothing.
use Rattle.grammar.proofs.Basics.{ℕ, ◌+◌, List, [], ◌∷◌, ◌++◌, append_assoc, ◌≡◌, refl, true, false, true≢false}
use Rattle.grammar.proofs.Basics.{length}
use Rattle.abnf.specs.declared.Edition.{Edition}
use Rattle.abnf.specs.declared.Fault.TheVariants.{Nothing}
use Rattle.abnf.specs.declared.PieceKind.{PieceKind}
use Rattle.abnf.specs.declared.PieceKind.TheVariants.{NamePiece, MarkPiece, LiteralPiece, EndPiece}
use Rattle.abnf.specs.declared.Stage.{Stage}
use Rattle.abnf.specs.declared.Stage.TheVariants.{LineStart, Named, NamedSpaced, Open, OpenSpaced, Filled}
use Rattle.abnf.specs.declared.Stage.TheVariants.{FilledSpaced, Noted, Outside}
use Rattle.abnf.specs.Text.{no_more, rulename, equals, quoted_string, char_val}
use Rattle.abnf.specs.Pieces.{Piece}
use Rattle.abnf.specs.Reading.{follows, is_outside_lem, is_line_start_lem, fault_from}
use Rattle.abnf.specs.Theorems.Reading.{joined}
use Rattle.abnf.proofs.Walks.{PieceText, name_text, mark_text, literal_text, end_text, Walks, no_piece}
use Rattle.abnf.proofs.Walks.{next_piece}

-- a walk that ends at the start of a line has no fault
fine_to : (e : Edition) (σ τ : Stage) (at : ℕ) (ps : List Piece) →
    is_line_start_lem τ ≡ true → Walks e σ ps τ → fault_from σ at ps ≡ Nothing
unfolding fault_from
fine_to e σ τ at ps s no_piece = rw s
fine_to e σ τ at ps s (next_piece {k = k} {b = b} {ps = qs} t o w) =
    rw o (fine_to e (follows σ k) τ (at + length b) qs s w)

pub walks_fine : (e : Edition) (σ : Stage) (at : ℕ) (ps : List Piece) →
    Walks e σ ps LineStart → fault_from σ at ps ≡ Nothing
walks_fine e σ at ps w = fine_to e σ LineStart at ps refl w

-- one walk after another
pub walks_append : {e : Edition} {σ τ υ : Stage} {ps qs : List Piece} →
    Walks e σ ps τ → Walks e τ qs υ → Walks e σ (ps ++ qs) υ
walks_append no_piece v = v
walks_append (next_piece t o w) v = next_piece t o (walks_append w v)

-- the bytes of pieces after others
pub joined_append : (ps qs : List Piece) → joined (ps ++ qs) ≡ joined ps ++ joined qs
unfolding joined
joined_append [] qs = refl
joined_append (p ∷ ps) qs = rw (append_assoc p.bytes, ← joined_append ps qs)

-- pieces, one at least, that lead from a stage to the start of a line
pub record Completion (e : Edition) (σ : Stage) : Type 0 where
  pub first : Piece
  pub others : List Piece
  pub walks : Walks e σ (first ∷ others) LineStart

-- one piece before a way on
piece_first : {e : Edition} (σ : Stage) (k : PieceKind) {b : List ℕ} →
    PieceText e k b → is_outside_lem (follows σ k) ≡ false → Completion e (follows σ k) → Completion e σ
piece_first σ k {b} t o c =
    record {
      first = record { kind = k; bytes = b };
      others = c.first ∷ c.others;
      walks = next_piece {σ = σ} t o c.walks;
    }

-- the line end, before it the element "", before it =, before it the name a
module _ {e : Edition} where
  line_end_lem : (σ : Stage) → is_outside_lem (follows σ EndPiece) ≡ false → Walks e (follows σ EndPiece) [] LineStart →
      Completion e σ
  line_end_lem σ o w =
      record {
        first = record { kind = EndPiece; bytes = 13 ∷ 10 ∷ [] };
        others = [];
        walks = next_piece {σ = σ} end_text o w;
      }

  empty_string : PieceText e LiteralPiece (34 ∷ 34 ∷ [])
  empty_string = literal_text (char_val (quoted_string no_more))

  from_filled : Completion e Filled
  from_filled = line_end_lem Filled refl no_piece

  from_open : Completion e Open
  from_open = piece_first Open LiteralPiece empty_string refl from_filled

  from_named : Completion e Named
  from_named = piece_first Named MarkPiece (mark_text equals) refl from_open

-- from each stage of the part there is a way on
pub completion : (e : Edition) (τ : Stage) → is_outside_lem τ ≡ false → Completion e τ
completion e LineStart o =
    piece_first LineStart NamePiece {b = 97 ∷ []} (name_text (rulename refl no_more)) refl from_named
completion e Named o = from_named
completion e NamedSpaced o = piece_first NamedSpaced MarkPiece (mark_text equals) refl from_open
completion e Open o = from_open
completion e OpenSpaced o = piece_first OpenSpaced LiteralPiece empty_string refl from_filled
completion e Filled o = from_filled
completion e FilledSpaced o = line_end_lem FilledSpaced refl no_piece
completion e Noted o = line_end_lem Noted refl no_piece
completion e Outside o = absurd (true≢false o)
