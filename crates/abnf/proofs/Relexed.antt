-- Pieces that walk are the pieces of their bytes: by the table none begins with a byte that would go on with the one
-- before it. Assumes nothing.
use Rattle.grammar.proofs.Basics.{ℕ, List, ◌∷◌, ◌++◌, ◌≡◌, refl, ◌∙◌, sym, ap, Bool, true, false, not, ◌&&◌, ◌||◌, eqb}
use Rattle.grammar.proofs.Basics.{or_second, not-true, not_true_false, true_and_false, true≢false, eqb-true, and_split}
use Rattle.abnf.specs.declared.Edition.{Edition}
use Rattle.abnf.specs.declared.PieceKind.{PieceKind}
use Rattle.abnf.specs.declared.PieceKind.TheVariants.{NamePiece, MarkPiece, SlashPiece, BlankPiece}
use Rattle.abnf.specs.declared.PieceKind.TheVariants.{LiteralPiece, CommentPiece, EndPiece, NoPiece}
use Rattle.abnf.specs.declared.Stage.{Stage}
use Rattle.abnf.specs.declared.Stage.TheVariants.{LineStart, Named, NamedSpaced, Open, OpenSpaced, Filled}
use Rattle.abnf.specs.declared.Stage.TheVariants.{FilledSpaced, Noted, Outside}
use Rattle.abnf.specs.Bytes.{is_alpha_lem, is_wsp_lem}
use Rattle.abnf.specs.Text.{at_least_one, rulename, equals, equals_slash, comment, quoted_string, char_val}
use Rattle.abnf.specs.Text.{num_val, sensitive, insensitive}
use Rattle.abnf.specs.Pieces.{Piece, pieces_of, pieces_from, begins}
use Rattle.abnf.specs.Reading.{follows, is_outside_lem}
use Rattle.abnf.specs.Theorems.Reading.{joined}
use Rattle.abnf.proofs.Spans.{neither_of, blank_fails}
use Rattle.abnf.proofs.PieceAgain.{continues, piece_again}
use Rattle.abnf.proofs.Walks.{PieceText, name_text, mark_text, slash_text, blank_text, literal_text}
use Rattle.abnf.proofs.Walks.{comment_text, end_text, Walks, no_piece, next_piece}

-- one of the bytes with which a piece of a kind begins passes a test; of the letters only A is tried
abbrev starts : PieceKind → (ℕ → Bool) → Bool
starts NamePiece p = p 65
starts MarkPiece p = p 61
starts SlashPiece p = p 47
starts BlankPiece p = p 32 || p 9
starts LiteralPiece p = p 34 || p 37
starts CommentPiece p = p 59
starts EndPiece p = p 13
starts NoPiece p = false

-- a letter goes on with a piece only where A does
letters_alike : (k : PieceKind) (b : ℕ) → is_alpha_lem b ≡ true → continues k 65 ≡ false → continues k b ≡ false
letters_alike NamePiece b h f = absurd (true≢false f)
letters_alike MarkPiece b h f =
    not_true_false (eqb 47 b) (λ e. true_and_false h (sym (ap is_alpha_lem (eqb-true 47 b e))))
letters_alike SlashPiece b h f = refl
letters_alike BlankPiece b h f =
    not_true_false (is_wsp_lem b) (λ w. true_and_false h (blank_fails is_alpha_lem b w refl refl))
letters_alike LiteralPiece b h f = absurd (true≢false f)
letters_alike CommentPiece b h f = absurd (true≢false f)
letters_alike EndPiece b h f = refl
letters_alike NoPiece b h f = refl

-- where no first byte of a kind goes on with another piece, no piece of the kind does
starts_apart : {e : Edition} (k k' : PieceKind) (s rest : List ℕ) → PieceText e k' s →
    starts k' (continues k) ≡ false → begins (continues k) (s ++ rest) ≡ false
unfolding begins
starts_apart k k' s rest (name_text (rulename {b = b} h m)) f = letters_alike k b h f
starts_apart k k' s rest (mark_text equals) f = f
starts_apart k k' s rest (mark_text equals_slash) f = f
starts_apart k k' s rest slash_text f = f
starts_apart k k' s rest (blank_text (at_least_one {b = b} h m)) f =
    let both = neither_of (continues k 32) (continues k 9) f in
    blank_fails (continues k) b h both.0 both.1
starts_apart k k' s rest (literal_text (char_val (quoted_string m))) f =
    (neither_of (continues k 34) (continues k 37) f).0
starts_apart k k' s rest (literal_text (num_val h v)) f = (neither_of (continues k 34) (continues k 37) f).1
starts_apart k k' s rest (literal_text (sensitive h q)) f = (neither_of (continues k 34) (continues k 37) f).1
starts_apart k k' s rest (literal_text (insensitive h q)) f = (neither_of (continues k 34) (continues k 37) f).1
starts_apart k k' s rest (comment_text (comment m)) f = f
starts_apart k k' s rest end_text f = f

-- a test that all kinds pass
abbrev all_kinds : (PieceKind → Bool) → Bool
all_kinds f =
    f NamePiece && (f MarkPiece && (f SlashPiece && (f BlankPiece && (f LiteralPiece && (f CommentPiece && (f EndPiece
    && f NoPiece))))))

each_kind : (f : PieceKind → Bool) → all_kinds f ≡ true → (k : PieceKind) → f k ≡ true
each_kind f h NamePiece = (simp and_split at h).0
each_kind f h MarkPiece = (simp and_split at h).1.0
each_kind f h SlashPiece = (simp and_split at h).1.1.0
each_kind f h BlankPiece = (simp and_split at h).1.1.1.0
each_kind f h LiteralPiece = (simp and_split at h).1.1.1.1.0
each_kind f h CommentPiece = (simp and_split at h).1.1.1.1.1.0
each_kind f h EndPiece = (simp and_split at h).1.1.1.1.1.1.0
each_kind f h NoPiece = (simp and_split at h).1.1.1.1.1.1.1

-- the table: of two pieces in a row one is outside, or the second does not go on with the first
abbrev Apart : Stage → PieceKind → PieceKind → Bool
Apart σ k k' = is_outside_lem (follows (follows σ k) k') || not (starts k' (continues k))

table_apart : (σ : Stage) → all_kinds (λ k. all_kinds (Apart σ k)) ≡ true
table_apart LineStart = refl
table_apart Named = refl
table_apart NamedSpaced = refl
table_apart Open = refl
table_apart OpenSpaced = refl
table_apart Filled = refl
table_apart FilledSpaced = refl
table_apart Noted = refl
table_apart Outside = refl

-- so where neither is outside, the second does not go on with the first
apart : (σ : Stage) (k k' : PieceKind) → is_outside_lem (follows (follows σ k) k') ≡ false → starts k' (continues k) ≡ false
apart σ k k' o =
    let so = each_kind (Apart σ k) (each_kind (λ k. all_kinds (Apart σ k)) (table_apart σ) k) k' in
    not-true (starts k' (continues k)) (sym (or_second (is_outside_lem (follows (follows σ k) k')) _ o) ∙ so)

-- what follows a piece in a walk does not go on with it
rest_apart : {e : Edition} {ρ τ : Stage} (σ : Stage) (k : PieceKind) (ps : List Piece) → follows σ k ≡ ρ →
    Walks e ρ ps τ → begins (continues k) (joined ps) ≡ false
unfolding begins joined
rest_apart σ k ps h no_piece = refl
rest_apart σ k ps h (next_piece {k = k'} {b = b} {ps = qs} t o w) =
    starts_apart k k' b (joined qs) t (apart σ k k' (ap (λ ρ. is_outside_lem (follows ρ k')) h ∙ o))

-- pieces that walk are the pieces of their bytes
pub relex : {e : Edition} {σ τ : Stage} {ps : List Piece} → Walks e σ ps τ → pieces_of e (joined ps) ≡ ps
unfolding joined pieces_from
relex no_piece = refl
relex {σ = σ} (next_piece {k = k} {b = b} {ps = ps} t o w) =
    piece_again k b (joined ps) t (rest_apart σ k ps refl w)
    ∙ ap (λ qs. record { kind = k; bytes = b } ∷ qs) (relex w)
