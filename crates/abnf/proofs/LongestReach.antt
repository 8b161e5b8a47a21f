-- A text that begins with a piece of the part begins, as it is read, with one of its kind that is at least as long;
-- for a value this depends on what follows it. Assumes nothing.
use Rattle.grammar.proofs.Basics.{ℕ, suc, ◌≤◌, List, [], ◌∷◌, ◌++◌, ◌≡◌, refl, ap, true, ⊎_elim, length, arith}
use Rattle.grammar.proofs.Basics.{suc-le-suc, le_refl, or_left, or_right}
use Rattle.abnf.specs.declared.Edition.{Edition}
use Rattle.abnf.specs.declared.Edition.TheVariants.{Rfc7405}
use Rattle.abnf.specs.declared.Begun.{Begun}
use Rattle.abnf.specs.declared.Character.{Character}
use Rattle.abnf.specs.declared.PieceKind.{PieceKind}
use Rattle.abnf.specs.declared.PieceKind.TheVariants.{NamePiece, MarkPiece, SlashPiece, BlankPiece}
use Rattle.abnf.specs.declared.PieceKind.TheVariants.{LiteralPiece, CommentPiece, EndPiece}
use Rattle.abnf.specs.Bytes.{is_wsp_lem, in_name, in_comment, is_x, is_s, is_i}
use Rattle.abnf.specs.Text.{at_least_one, rulename, equals, equals_slash, comment, quoted_string, HexVal}
use Rattle.abnf.specs.Text.{Literal, char_val, num_val, sensitive, insensitive}
use Rattle.abnf.specs.Pieces.{piece_of, piece, neither, span, begins}
use Rattle.abnf.proofs.Spans.{blank_byte}
use Rattle.abnf.proofs.PieceAgain.{quoted_again, string_again}
use Rattle.abnf.proofs.Walks.{PieceText, name_text, mark_text, slash_text, blank_text, literal_text}
use Rattle.abnf.proofs.Walks.{comment_text, end_text}
use Rattle.abnf.proofs.LongestFronts.{span_reaches}

-- what a text begins with as it is read; no piece where it is empty
abbrev pub begun : Edition → List ℕ → Begun
begun e [] = neither
begun e (b ∷ s) = piece_of e b s

-- these bytes and a rest begin with a piece of the kind that is at least as long as the bytes
pub record Reaches (e : Edition) (k : PieceKind) (s rest : List ℕ) : Type 0 where
  pub same_kind : (begun e (s ++ rest)).kind ≡ k
  pub as_long : length s ≤ suc (begun e (s ++ rest)).more

-- a piece of the part does so whatever the rest is, or is a value
pub data ReadAs (e : Edition) : PieceKind → List ℕ → Type 0 where
  anywhere : {k : PieceKind} {s : List ℕ} → ((rest : List ℕ) → Reaches e k s rest) → ReadAs e k s
  a_value : {x : ℕ} {s vs : List ℕ} → is_x x ≡ true → HexVal s vs → ReadAs e LiteralPiece (37 ∷ x ∷ s)

-- so it is where a piece of the kind, with so many bytes after its first, is what the text begins with
reaching : (e : Edition) (k : PieceKind) (s rest : List ℕ) (n : ℕ) → begun e (s ++ rest) ≡ piece k n →
    length s ≤ suc n → Reaches e k s rest
reaching e k s rest n h l =
    record { same_kind = ap (λ (q : Begun). q.kind) h; as_long = rw (ap (λ (q : Begun). q.more) h) l }

-- literals
literal_read : {e : Edition} {s : List ℕ} {cs : List Character} → Literal e s cs → ReadAs e LiteralPiece s
literal_read {e} (char_val (quoted_string {s = t} m)) =
    anywhere (λ rest. reaching e LiteralPiece (34 ∷ (t ++ (34 ∷ []))) rest _ (quoted_again 0 t rest m) (omega arith))
literal_read (num_val h v) = a_value h v
literal_read (sensitive {x = x} h (quoted_string {s = t} m)) =
    anywhere (λ rest. reaching Rfc7405 LiteralPiece (37 ∷ x ∷ 34 ∷ (t ++ (34 ∷ []))) rest _
    (string_again x t rest m (or_left (is_s x) (is_i x) h)) (le_refl _))
literal_read (insensitive {x = x} h (quoted_string {s = t} m)) =
    anywhere (λ rest. reaching Rfc7405 LiteralPiece (37 ∷ x ∷ 34 ∷ (t ++ (34 ∷ []))) rest _
    (string_again x t rest m (or_right (is_s x) (is_i x) h)) (le_refl _))

-- any piece
pub piece_read_lem : {e : Edition} {k : PieceKind} {s : List ℕ} → PieceText e k s → ReadAs e k s
unfolding begins
piece_read_lem {e} (name_text (rulename {b = b} {s = t} h m)) =
    anywhere (λ rest. reaching e NamePiece (b ∷ t) rest (span in_name (t ++ rest)) (rw h)
    (suc-le-suc (span_reaches in_name t rest m)))
piece_read_lem {e} (mark_text equals) =
    anywhere (λ rest. reaching e MarkPiece (61 ∷ []) rest _ refl (omega arith))
piece_read_lem {e} (mark_text equals_slash) =
    anywhere (λ rest. reaching e MarkPiece (61 ∷ 47 ∷ []) rest 1 refl (omega arith))
piece_read_lem {e} slash_text = anywhere (λ rest. reaching e SlashPiece (47 ∷ []) rest 0 refl (omega arith))
piece_read_lem {e} (blank_text (at_least_one {b = b} {s = t} h m)) =
    anywhere (λ rest. reaching e BlankPiece (b ∷ t) rest (span is_wsp_lem (t ++ rest))
    (⊎_elim (λ c. rw c refl) (λ c. rw c refl) (blank_byte b h)) (suc-le-suc (span_reaches is_wsp_lem t rest m)))
piece_read_lem (literal_text l) = literal_read l
piece_read_lem {e} (comment_text (comment {s = t} m)) =
    anywhere (λ rest. reaching e CommentPiece (59 ∷ t) rest (span in_comment (t ++ rest)) refl
    (suc-le-suc (span_reaches in_comment t rest m)))
piece_read_lem {e} end_text = anywhere (λ rest. reaching e EndPiece (13 ∷ 10 ∷ []) rest 1 refl (omega arith))
