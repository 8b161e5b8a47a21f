-- What reading by pieces has to do with the grammar of ABNF. Assumes nothing.
use Rattle.std.specs.Prelude.{ℕ, ◌≡◌, ◌↔◌, List, [], ◌∷◌, ◌++◌, length}
use Rattle.abnf.specs.declared.Edition.{Edition}
use Rattle.abnf.specs.declared.Fault.TheVariants.{Nothing, At}
use Rattle.abnf.specs.Text.{Line, Rulelist}
use Rattle.abnf.specs.Pieces.{Piece, pieces_of}
use Rattle.abnf.specs.Reading.{fault_of, lines_of}

-- The text of ABNF: a text is of the part just where nothing is refused, and then it says one list of rules
abbrev pub OfThePart : Type 0
OfThePart =
    (e : Edition) (text : List ℕ) (lines : List Line) →
    Rulelist e text lines ↔ ((fault_of e text ≡ Nothing) × (lines_of e text ≡ lines))

-- the bytes of pieces, one after the other
unfoldable pub joined : List Piece → List ℕ
joined [] = []
joined (p ∷ ps) = p.bytes ++ joined ps

-- one of two lists of pieces ends where the other has a piece, or they have different pieces there
pub data Differs : List Piece → List Piece → Type 0 where
  missing : {q : Piece} {qs : List Piece} → Differs [] (q ∷ qs)
  too_many : {p : Piece} {ps : List Piece} → Differs (p ∷ ps) []
  another : {p q : Piece} {ps qs : List Piece} → (p ≡ q → ⊥) → Differs (p ∷ ps) (q ∷ qs)

-- The text of ABNF: the pieces before the offset begin some text of the part, and each text of the part that begins
-- with them goes on with another piece than this text, or where this one does not
pub record OutsideAt (e : Edition) (text : List ℕ) (at : ℕ) : Type 0 where
  pub before : List Piece
  pub after : List Piece
  pub pieces : pieces_of e text ≡ before ++ after
  pub whole : joined (before ++ after) ≡ text
  pub offset : length (joined before) ≡ at
  pub other : List ℕ
  pub said : List Line
  pub of_the_part_lem : Rulelist e other said
  pub rest : List Piece
  pub shared : pieces_of e other ≡ before ++ rest
  pub differs :
      (t : List ℕ) (lines : List Line) (more : List Piece) → Rulelist e t lines → pieces_of e t ≡ before ++ more →
      Differs after more

abbrev pub FirstOutside : Type 0
FirstOutside = (e : Edition) (text : List ℕ) (at : ℕ) → fault_of e text ≡ At at → OutsideAt e text at
