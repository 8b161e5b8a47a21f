-- A piece lexes the same before any text that does not begin with a byte that would go on with it. Assumes nothing.
use Rattle.grammar.proofs.Basics.{ℕ, suc, ◌+◌, List, [], ◌∷◌, ◌++◌, ◌≡◌, refl, ◌∙◌, ap, Bool, true, false, ◌||◌}
use Rattle.grammar.proofs.Basics.{⊎_elim, length, take, eqb, arith, zero-add, length-append, append_assoc, or_left}
use Rattle.grammar.proofs.Basics.{or_right, or_split, false≢true}
use lib.Seq.{take-append_seam}
use Rattle.abnf.specs.declared.Edition.{Edition}
use Rattle.abnf.specs.declared.Edition.TheVariants.{Rfc7405}
use Rattle.abnf.specs.declared.Begun.{Begun}
use Rattle.abnf.specs.declared.Character.{Character}
use Rattle.abnf.specs.declared.PieceKind.{PieceKind}
use Rattle.abnf.specs.declared.PieceKind.TheVariants.{NamePiece, MarkPiece, SlashPiece, BlankPiece}
use Rattle.abnf.specs.declared.PieceKind.TheVariants.{LiteralPiece, CommentPiece, EndPiece, NoPiece}
use Rattle.abnf.specs.Bytes.{is_hexdig, is_wsp_lem, in_name, in_string, in_comment, is_x, is_s, is_i}
use Rattle.abnf.specs.Text.{Many, at_least_one, rulename, equals, equals_slash, comment, quoted_string, HexVal}
use Rattle.abnf.specs.Text.{Literal, char_val, num_val, sensitive, insensitive}
use Rattle.abnf.specs.Pieces.{Piece, pieces_of, pieces_from, piece_of, piece, quoted, value, begins, fit}
use Rattle.abnf.proofs.Spans.{span_front, drop_span, blank_byte}
use Rattle.abnf.proofs.Values.{hex_numbers, hex_says, hex_fits, numbers_begin, numbers_dotted, dotted_front}
use Rattle.abnf.proofs.Values.{range_front, in_literal}
use Rattle.abnf.proofs.Literals.{another_letter}
use Rattle.abnf.proofs.Walks.{PieceText, name_text, mark_text, slash_text, blank_text, literal_text}
use Rattle.abnf.proofs.Walks.{comment_text, end_text}

-- the bytes that would go on with a piece of a kind
abbrev pub continues : PieceKind → ℕ → Bool
continues NamePiece b = in_name b
continues MarkPiece b = eqb 47 b
continues SlashPiece b = false
continues BlankPiece b = is_wsp_lem b
continues LiteralPiece b = in_literal b
continues CommentPiece b = in_comment b
continues EndPiece b = false
continues NoPiece b = false

-- bytes of a text that belong to a piece that began before are passed over
passed_over : (e : Edition) (s rest : List ℕ) → pieces_from e (length s) (s ++ rest) ≡ pieces_of e rest
unfolding pieces_from
passed_over e [] rest = refl
passed_over e (b ∷ s) rest = passed_over e s rest

-- a text is a piece and the pieces of the rest, where its first byte begins such a piece
one_piece : (e : Edition) (k : PieceKind) (b : ℕ) (s rest : List ℕ) → piece_of e b (s ++ rest) ≡ piece k (length s) →
    pieces_of e (b ∷ (s ++ rest)) ≡ record { kind = k; bytes = b ∷ s } ∷ pieces_of e rest
unfolding pieces_from
one_piece e k b s rest h =
    ap {B = List Piece}
    (λ (q : Begun).
    record { kind = q.kind; bytes = b ∷ take q.more (s ++ rest) } ∷ pieces_from e q.more (s ++ rest)) h
    ∙ rw (take-append_seam s rest, passed_over e s rest)

-- what stands between quotes, n bytes after the first
pub quoted_again : (n : ℕ) (s rest : List ℕ) → Many in_string s →
    quoted n ((s ++ (34 ∷ [])) ++ rest) ≡ piece LiteralPiece (n + length (s ++ (34 ∷ [])))
unfolding begins
quoted_again n s rest m =
    let size : suc (length s) ≡ length (s ++ (34 ∷ [])) = omega (arith, length-append s (34 ∷ [])) in
    rw (append_assoc s (34 ∷ []) rest)
    (rw (drop_span in_string s (34 ∷ rest) m refl, span_front in_string s (34 ∷ rest) m refl)
    (ap (λ k. piece LiteralPiece (n + k)) size))

-- a longer text begins as before
pub begins_longer : (p : ℕ → Bool) (s rest : List ℕ) → begins p s ≡ true → begins p (s ++ rest) ≡ true
unfolding begins
begins_longer p [] rest h = absurd (false≢true h)
begins_longer p (b ∷ s) rest h = h

-- a value, a string after %s or %i, any literal
value_again : {vs : List ℕ} (s rest : List ℕ) → HexVal s vs → begins in_literal rest ≡ false →
    value (s ++ rest) ≡ piece LiteralPiece (suc (length s))
value_again s rest v f =
    let n = hex_numbers v in
    rw (begins_longer is_hexdig s rest (numbers_begin n), range_front s rest (numbers_dotted n) f)
    (rw (dotted_front s rest (numbers_dotted n) f)
    (rw (take-append_seam s rest) (rw (ap fit (hex_says v) ∙ hex_fits v) refl)))

pub string_again : (x : ℕ) (s rest : List ℕ) → Many in_string s → (is_s x || is_i x) ≡ true →
    piece_of Rfc7405 37 (x ∷ 34 ∷ ((s ++ (34 ∷ [])) ++ rest)) ≡ piece LiteralPiece (suc (suc (length (s ++ (34 ∷ [])))))
string_again x s rest m l =
    let n : is_x x ≡ false =
    ⊎_elim (λ h. another_letter x 115 120 h refl) (λ h. another_letter x 105 120 h refl)
    (or_split (is_s x) (is_i x) l) in
    let size : 2 + length (s ++ (34 ∷ [])) ≡ suc (suc (length (s ++ (34 ∷ [])))) = omega arith in
    rw (n, l) (quoted_again 2 s rest m ∙ ap (piece LiteralPiece) size)

literal_again : {e : Edition} {cs : List Character} (s rest : List ℕ) → Literal e s cs →
    begins in_literal rest ≡ false →
    pieces_of e (s ++ rest) ≡ record { kind = LiteralPiece; bytes = s } ∷ pieces_of e rest
literal_again {e} s rest (char_val (quoted_string {s = t} m)) f =
    one_piece e LiteralPiece 34 (t ++ (34 ∷ [])) rest
    (quoted_again 0 t rest m ∙ ap (piece LiteralPiece) (zero-add (length (t ++ (34 ∷ [])))))
literal_again {e} s rest (num_val {x = x} {s = t} h v) f =
    one_piece e LiteralPiece 37 (x ∷ t) rest (rw h (value_again t rest v f))
literal_again s rest (sensitive {x = x} h (quoted_string {s = t} m)) f =
    one_piece Rfc7405 LiteralPiece 37 (x ∷ 34 ∷ (t ++ (34 ∷ []))) rest
    (string_again x t rest m (or_left (is_s x) (is_i x) h))
literal_again s rest (insensitive {x = x} h (quoted_string {s = t} m)) f =
    one_piece Rfc7405 LiteralPiece 37 (x ∷ 34 ∷ (t ++ (34 ∷ []))) rest
    (string_again x t rest m (or_right (is_s x) (is_i x) h))

-- any piece
pub piece_again : {e : Edition} (k : PieceKind) (s rest : List ℕ) → PieceText e k s →
    begins (continues k) rest ≡ false →
    pieces_of e (s ++ rest) ≡ record { kind = k; bytes = s } ∷ pieces_of e rest
unfolding begins
piece_again {e} k s rest (name_text (rulename {b = b} {s = t} h m)) f =
    one_piece e NamePiece b t rest (rw h (ap (piece NamePiece) (span_front in_name t rest m f)))
piece_again {e} k s rest (mark_text equals) f = one_piece e MarkPiece 61 [] rest (rw f)
piece_again {e} k s rest (mark_text equals_slash) f = one_piece e MarkPiece 61 (47 ∷ []) rest refl
piece_again {e} k s rest slash_text f = one_piece e SlashPiece 47 [] rest refl
piece_again {e} k s rest (blank_text (at_least_one {b = b} {s = t} h m)) f =
    let size = ap (piece BlankPiece) (span_front is_wsp_lem t rest m f) in
    one_piece e BlankPiece b t rest (⊎_elim (λ c. rw c size) (λ c. rw c size) (blank_byte b h))
piece_again k s rest (literal_text l) f = literal_again s rest l f
piece_again {e} k s rest (comment_text (comment {s = t} m)) f =
    one_piece e CommentPiece 59 t rest (ap (piece CommentPiece) (span_front in_comment t rest m f))
piece_again {e} k s rest end_text f = one_piece e EndPiece 13 (10 ∷ []) rest refl
