-- A text begins with a piece just where that is the longest that its RFC lets begin there, and is one of the part.
-- Assumes nothing.
use Rattle.grammar.proofs.Basics.{ℕ, suc, ◌≤◌, ◌<◌, List, [], ◌∷◌, ◌++◌, ◌≡◌, refl, ◌∙◌, sym, ap, ap₂, subst, true}
use Rattle.grammar.proofs.Basics.{◌⊎◌, inl, inr, ⊎_elim, length, take, drop, suc-le-suc, arith}
use lib.ListN.{take-append-drop}
use native.Mathlib.Nat.{le_of_suc-le-suc}
use Rattle.abnf.specs.declared.Edition.{Edition}
use Rattle.abnf.specs.declared.PieceKind.{PieceKind}
use Rattle.abnf.specs.declared.PieceKind.TheVariants.{NoPiece}
use Rattle.abnf.specs.Bytes.{is_x}
use Rattle.abnf.specs.Pieces.{Piece}
use Rattle.abnf.specs.Reading.{column}
use Rattle.abnf.specs.Theorems.Pieces.{PieceText, name_text, mark_text, slash_text, blank_text, literal_text}
use Rattle.abnf.specs.Theorems.Pieces.{comment_text, end_text, RfcPiece, in_the_part, any_value, AnyHexVal}
use Rattle.abnf.specs.Theorems.Pieces.{numbers, Longest, LongestPieces}
use Rattle.abnf.proofs.Values.{hex_numbers}
use Rattle.abnf.proofs.FirstPiece.{lexed_piece}
use Rattle.abnf.proofs.LongestFronts.{front_taken, same_front}
use Rattle.abnf.proofs.LongestValues.{value_reaches, value_read}
use Rattle.abnf.proofs.LongestReach.{begun, ReadAs, anywhere, a_value, piece_read_lem}

-- a piece of the part is one
kind_below : {e : Edition} {k : PieceKind} {s : List ℕ} → PieceText e k s → column k < 7
kind_below (name_text n) = omega arith
kind_below (mark_text g) = omega arith
kind_below slash_text = omega arith
kind_below (blank_text o) = omega arith
kind_below (literal_text l) = omega arith
kind_below (comment_text c) = omega arith
kind_below end_text = omega arith

some_piece : {e : Edition} {k : PieceKind} {s : List ℕ} → PieceText e k s → k ≡ NoPiece → ⊥
some_piece t h = omega (arith, kind_below t, ap column h)

module _ (e : Edition) where
  -- the first piece of a text that is not empty, in terms of the whole text
  abbrev bytes_read : List ℕ → List ℕ
  bytes_read text = take (suc (begun e text).more) text

  abbrev piece_read : List ℕ → Piece
  piece_read text = record { kind = (begun e text).kind; bytes = bytes_read text }

  -- a piece by its RFC that begins a text: what is read is none, or at least as long
  abbrev AsLong : List ℕ → List ℕ → Type 0
  AsLong s rest = ((begun e (s ++ rest)).kind ≡ NoPiece) ⊎ (length s ≤ suc (begun e (s ++ rest)).more)

  value_as_long : (x : ℕ) (s rest : List ℕ) → is_x x ≡ true → AnyHexVal s → AsLong (37 ∷ x ∷ s) rest
  value_as_long x s rest h v = rw h (⊎_elim inl (λ l. inr (suc-le-suc l)) (value_reaches s rest v))

  part_as_long : {k : PieceKind} (s rest : List ℕ) → ReadAs e k s → AsLong s rest
  part_as_long s rest (anywhere r) = inr (r rest).as_long
  part_as_long s rest (a_value {x = x} {s = t} h v) = value_as_long x t rest h (numbers (hex_numbers v))

  as_long : (s rest : List ℕ) → RfcPiece e s → AsLong s rest
  as_long s rest (in_the_part t) = part_as_long s rest (piece_read_lem t)
  as_long s rest (any_value {x = x} {s = t} h v) = value_as_long x t rest h v

  -- where a piece is read, none that begins the text is longer, and it is one of the part
  none_longer : (text other after : List ℕ) → ((begun e text).kind ≡ NoPiece → ⊥) → RfcPiece e other →
      other ++ after ≡ text → length other ≤ length (bytes_read text)
  none_longer text other after some p h =
      subst (λ u. ((begun e u).kind ≡ NoPiece → ⊥) → length other ≤ length (bytes_read u)) h
      (λ f. ⊎_elim (λ n. absurd (f n)) (front_taken _ other after) (as_long other after p)) some

  read_text_lem : (text : List ℕ) → ((begun e text).kind ≡ NoPiece → ⊥) → PieceText e (begun e text).kind (bytes_read text)
  read_text_lem [] some = absurd (some refl)
  read_text_lem (b ∷ s) some = ⊎_elim (λ n. absurd (some n)) (λ t. t) (lexed_piece e b s)

  -- where none that begins the text is longer than a piece of the part, its kind is read, and its bytes
  abbrev NoLonger : List ℕ → List ℕ → Type 0
  NoLonger text s = (other after : List ℕ) → RfcPiece e other → other ++ after ≡ text → length other ≤ length s

  kind_read : {k : PieceKind} (s rest : List ℕ) → ReadAs e k s → NoLonger (s ++ rest) s →
      (begun e (s ++ rest)).kind ≡ k
  kind_read s rest (anywhere r) longest = (r rest).same_kind
  kind_read s rest (a_value {x = x} {s = t} h v) longest =
      rw h (value_read t rest v (λ other after w same.
      le_of_suc-le-suc (le_of_suc-le-suc
      (longest (37 ∷ x ∷ other) after (any_value h w) (ap (λ u. 37 ∷ x ∷ u) same)))))

  longest_read : {k : PieceKind} (s rest : List ℕ) → PieceText e k s → NoLonger (s ++ rest) s →
      piece_read (s ++ rest) ≡ record { kind = k; bytes = s }
  longest_read {k} s rest t longest =
      let text = s ++ rest in
      let same_kind : (begun e text).kind ≡ k = kind_read s rest (piece_read_lem t) longest in
      let some : ((begun e text).kind ≡ NoPiece → ⊥) = λ n. some_piece t (sym same_kind ∙ n) in
      let size = suc (begun e text).more in
      let same_bytes : bytes_read text ≡ s =
      same_front size s rest (⊎_elim (λ n. absurd (some n)) (λ l. l) (as_long s rest (in_the_part t)))
      (longest (bytes_read text) (drop size text) (in_the_part (read_text_lem text some)) (take-append-drop size text)) in
      ap₂ (λ k b. record { kind = k; bytes = b }) same_kind same_bytes

-- the first piece that is read is the longest of its RFC and one of the part, and one that is so is read
pub longest_pieces_lem : LongestPieces
longest_pieces_lem e b s k bytes = (
  λ h.
      subst
      (λ (q : Piece). (q.kind ≡ NoPiece → ⊥) → PieceText e q.kind q.bytes × Longest e (b ∷ s) q.bytes) h.0
      (λ some. (
        read_text_lem e (b ∷ s) some,
        record {
          rest = drop (begun e (b ∷ s)).more s;
          begins = take-append-drop (suc (begun e (b ∷ s)).more) (b ∷ s);
          longest = λ other after p same. none_longer e (b ∷ s) other after some p same;
        },
      ))
      h.1,
  λ h. (
    subst (λ text. NoLonger e text bytes → piece_read e text ≡ record { kind = k; bytes = bytes }) h.1.begins
        (longest_read e bytes h.1.rest h.0) h.1.longest,
    some_piece h.0,
  ),
)
