-- What a piece of a text is, by the grammar of ABNF alone. Assumes nothing.
use Rattle.std.specs.Prelude.{ℕ, ◌≤◌, ◌≡◌, ◌↔◌, true, List, [], ◌∷◌, ◌++◌, length, take}
use Rattle.abnf.specs.declared.Edition.{Edition}
use Rattle.abnf.specs.declared.Mark.{Mark}
use Rattle.abnf.specs.declared.Character.{Character}
use Rattle.abnf.specs.declared.PieceKind.{PieceKind}
use Rattle.abnf.specs.declared.PieceKind.TheVariants.{NamePiece, MarkPiece, SlashPiece, BlankPiece}
use Rattle.abnf.specs.declared.PieceKind.TheVariants.{LiteralPiece, CommentPiece, EndPiece, NoPiece}
use Rattle.abnf.specs.Bytes.{is_wsp_lem, is_hexdig, is_x}
use Rattle.abnf.specs.Text.{OneOrMore, Rulename, Sign, Literal, Comment}
use Rattle.abnf.specs.Pieces.{Piece, piece_of}

-- The text of ABNF: the bytes that each kind of piece may have in a text of the part
pub data PieceText : Edition → PieceKind → List ℕ → Type 0 where
  name_text : {e : Edition} {s : List ℕ} → Rulename s → PieceText e NamePiece s
  mark_text : {e : Edition} {s : List ℕ} {m : Mark} → Sign s m → PieceText e MarkPiece s
  slash_text : {e : Edition} → PieceText e SlashPiece (47 ∷ [])
  blank_text : {e : Edition} {s : List ℕ} → OneOrMore is_wsp_lem s → PieceText e BlankPiece s
  literal_text : {e : Edition} {s : List ℕ} {cs : List Character} → Literal e s cs → PieceText e LiteralPiece s
  comment_text : {e : Edition} {s : List ℕ} → Comment s → PieceText e CommentPiece s
  end_text : {e : Edition} → PieceText e EndPiece (13 ∷ 10 ∷ [])

-- RFC 5234, hex_val as a whole: numbers of any size with dots between them, and ranges
pub data Numbers : List ℕ → Type 0 where
  last_number : {d : List ℕ} → OneOrMore is_hexdig d → Numbers d
  dotted_number : {d s : List ℕ} → OneOrMore is_hexdig d → Numbers s → Numbers (d ++ (46 ∷ s))

pub data AnyHexVal : List ℕ → Type 0 where
  numbers : {s : List ℕ} → Numbers s → AnyHexVal s
  range : {d s : List ℕ} → OneOrMore is_hexdig d → OneOrMore is_hexdig s → AnyHexVal (d ++ (45 ∷ s))

-- The text of ABNF: what its RFC lets a piece be, in the part or outside it
pub data RfcPiece : Edition → List ℕ → Type 0 where
  in_the_part : {e : Edition} {k : PieceKind} {s : List ℕ} → PieceText e k s → RfcPiece e s
  any_value : {e : Edition} {x : ℕ} {s : List ℕ} → is_x x ≡ true → AnyHexVal s → RfcPiece e (37 ∷ x ∷ s)

-- the bytes begin the text, and no piece that its RFC lets begin there is longer
pub record Longest (e : Edition) (text bytes : List ℕ) : Type 0 where
  pub rest : List ℕ
  pub begins : bytes ++ rest ≡ text
  pub longest : (other after : List ℕ) → RfcPiece e other → other ++ after ≡ text → length other ≤ length bytes

-- the first piece of a text
abbrev pub first_piece : Edition → ℕ → List ℕ → Piece
first_piece e b s = record { kind = (piece_of e b s).kind; bytes = b ∷ take (piece_of e b s).more s }

-- The text of ABNF: a text begins with a piece just where it is the longest that its RFC lets begin there and is one of
-- the part
abbrev pub LongestPieces : Type 0
LongestPieces =
    (e : Edition) (b : ℕ) (s : List ℕ) (k : PieceKind) (bytes : List ℕ) →
    ((first_piece e b s ≡ record { kind = k; bytes = bytes }) × (k ≡ NoPiece → ⊥))
    ↔ (PieceText e k bytes × Longest e (b ∷ s) bytes)
