-- The pieces of a text, each as long as its RFC lets it; the first byte of a piece decides what it is. Assumes nothing.
use Rattle.std.specs.Prelude.{ℕ, zero, suc, ◌+◌, ◌*◌, Bool, false, true, cond, not, ◌&&◌, ◌||◌, List, [], ◌∷◌, eqb, leb, take, drop}
use Rattle.abnf.specs.declared.Edition.{Edition}
use Rattle.abnf.specs.declared.Edition.TheVariants.{Rfc5234, Rfc7405}
use Rattle.abnf.specs.declared.PieceKind.{PieceKind}
use Rattle.abnf.specs.declared.PieceKind.TheVariants.{NamePiece, MarkPiece, SlashPiece, BlankPiece, LiteralPiece, CommentPiece}
use Rattle.abnf.specs.declared.PieceKind.TheVariants.{EndPiece, NoPiece}
use Rattle.abnf.specs.declared.Begun.{Begun}
use Rattle.abnf.specs.Bytes.{is_alpha_lem, is_hexdig, is_wsp_lem, in_name, in_string, in_comment, is_x, is_s, is_i, digit_value_lem}

-- how many bytes pass a test, up to the first that does not
unfoldable pub span : (ℕ → Bool) → List ℕ → ℕ
span p [] = 0
span p (b ∷ s) = cond (p b) (suc (span p s)) 0

-- the text begins with a byte that passes a test
unfoldable pub begins : (ℕ → Bool) → List ℕ → Bool
begins p [] = false
begins p (b ∷ s) = p b

-- how many bytes are digits, or dots with a digit after them
unfoldable pub dotted : List ℕ → ℕ
dotted [] = 0
dotted (b ∷ s) = cond (is_hexdig b || (eqb b 46 && begins is_hexdig s)) (suc (dotted s)) 0

-- the values of numbers with dots between them, after digits of the value v
unfoldable pub values_from : ℕ → List ℕ → List ℕ
values_from v [] = v ∷ []
values_from v (b ∷ s) = cond (eqb b 46) (v ∷ values_from 0 s) (values_from (16 * v + digit_value_lem b) s)

-- The text of ABNF: a value is a character, so none is above FF
unfoldable pub fit : List ℕ → Bool
fit [] = true
fit (v ∷ vs) = leb v 255 && fit vs

-- digits, a dash and a digit: a range, which is longer than its first value
abbrev pub range_after : List ℕ → Bool
range_after [] = false
range_after (b ∷ s) = eqb b 45 && begins is_hexdig s

abbrev pub is_range_lem : List ℕ → Bool
is_range_lem s = range_after (drop (span is_hexdig s) s)

-- a piece of a kind, with so many bytes after its first; and a byte with which no piece begins
abbrev pub piece : PieceKind → ℕ → Begun
piece k n = record { kind = k; more = n }

abbrev pub neither : Begun
neither = piece NoPiece 0

-- a string of which n bytes stand between the piece's first byte and the text s that the quotes hold
abbrev pub quoted : ℕ → List ℕ → Begun
quoted n s =
    cond (begins (eqb 34) (drop (span in_string s) s)) (piece LiteralPiece (n + suc (span in_string s))) neither

-- what stands after %x
abbrev pub value : List ℕ → Begun
value s =
    cond (begins is_hexdig s && not (is_range_lem s) && fit (values_from 0 (take (dotted s) s)))
    (piece LiteralPiece (suc (dotted s)))
    neither

-- The text of ABNF: whether an edition has strings after %s and %i
abbrev pub has_prefixes_lem : Edition → Bool
has_prefixes_lem Rfc5234 = false
has_prefixes_lem Rfc7405 = true

-- what stands after the letter of %s or %i
abbrev pub prefixed : List ℕ → Begun
prefixed [] = neither
prefixed (b ∷ s) = cond (eqb 34 b) (quoted 2 s) neither

-- what stands after a percent sign
abbrev pub percent : Edition → List ℕ → Begun
percent e [] = neither
percent e (b ∷ s) = cond (is_x b) (value s) (cond (has_prefixes_lem e && (is_s b || is_i b)) (prefixed s) neither)

-- a mark, by what stands after its equals sign; a line end, by what stands after CR
abbrev pub mark : List ℕ → Begun
mark s = piece MarkPiece (cond (begins (eqb 47) s) 1 0)

abbrev pub line_end : List ℕ → Begun
line_end s = cond (begins (eqb 10) s) (piece EndPiece 1) neither

-- The text of ABNF: the piece that begins with the byte b, before the text s
abbrev pub piece_of : Edition → ℕ → List ℕ → Begun
piece_of e b s =
    cond (is_alpha_lem b) (piece NamePiece (span in_name s))
    (cond (is_wsp_lem b) (piece BlankPiece (span is_wsp_lem s))
    (cond (eqb b 61) (mark s)
    (cond (eqb b 47) (piece SlashPiece 0)
    (cond (eqb b 59) (piece CommentPiece (span in_comment s))
    (cond (eqb b 13) (line_end s)
    (cond (eqb b 34) (quoted 0 s)
    (cond (eqb b 37) (percent e s) neither)))))))

-- a piece and its bytes
pub record Piece : Type 0 where
  pub kind : PieceKind
  pub bytes : List ℕ

-- the pieces of a text whose first k bytes belong to a piece that began before
unfoldable pub pieces_from : Edition → ℕ → List ℕ → List Piece
pieces_from e k [] = []
pieces_from e zero (b ∷ s) =
    record { kind = (piece_of e b s).kind; bytes = b ∷ take (piece_of e b s).more s } ∷ pieces_from e (piece_of e b s).more s
pieces_from e (suc k) (b ∷ s) = pieces_from e k s

-- The text of ABNF: the pieces of a text
abbrev pub pieces_of : Edition → List ℕ → List Piece
pieces_of e text = pieces_from e 0 text
