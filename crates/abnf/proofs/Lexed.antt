-- The pieces of a text: each is what its kind says or none, together they are the text, and they walk up to where the
-- text leaves the part. Assumes nothing.
use Rattle.grammar.proofs.Basics.{ℕ, zero, suc, ◌+◌, List, [], ◌∷◌, ◌++◌, ◌≡◌, refl, ◌∙◌, sym, ap, subst, Bool, true}
use Rattle.grammar.proofs.Basics.{false, cond, ◌⊎◌, inl, inr, cases, length, take, drop, arith, true_and_false}
use Rattle.grammar.proofs.Basics.{true≢false, length-append}
use lib.ListN.{take-append-drop}
use lib.Seq.{drop-nil}
use Rattle.abnf.specs.declared.Edition.{Edition}
use Rattle.abnf.specs.declared.Fault.{Fault}
use Rattle.abnf.specs.declared.Fault.TheVariants.{Nothing, At}
use Rattle.abnf.specs.declared.PieceKind.{PieceKind}
use Rattle.abnf.specs.declared.PieceKind.TheVariants.{NoPiece}
use Rattle.abnf.specs.declared.Stage.{Stage}
use Rattle.abnf.specs.declared.Stage.TheVariants.{LineStart, Named, NamedSpaced, Open, OpenSpaced, Filled}
use Rattle.abnf.specs.declared.Stage.TheVariants.{FilledSpaced, Noted, Outside}
use Rattle.abnf.specs.Pieces.{Piece, pieces_of, pieces_from, piece_of}
use Rattle.abnf.specs.Reading.{follows, is_outside_lem, is_line_start_lem, fault_from}
use Rattle.abnf.specs.Theorems.Reading.{joined}
use Rattle.abnf.proofs.Walks.{PieceText, Walks, no_piece, next_piece}
pub use Rattle.abnf.proofs.FirstPiece.{lexed_piece}

-- the pieces of a text whose first bytes belong to a piece before are those of the rest
pub skipped : (e : Edition) (k : ℕ) (s : List ℕ) → pieces_from e k s ≡ pieces_of e (drop k s)
unfolding pieces_from
skipped e zero s = refl
skipped e (suc k) [] = refl
skipped e (suc k) (b ∷ s) = skipped e k s

-- the pieces of what stands behind k bytes are its bytes
joined_from : (e : Edition) (k : ℕ) (text : List ℕ) → joined (pieces_from e k text) ≡ drop k text
unfolding joined pieces_from
joined_from e k [] = sym (drop-nil k)
joined_from e zero (b ∷ s) =
    let n = (piece_of e b s).more in
    ap (λ r. b ∷ r) (ap (λ r. take n s ++ r) (joined_from e n s) ∙ take-append-drop n s)
joined_from e (suc k) (b ∷ s) = joined_from e k s

-- the pieces of a text are its bytes
pub lex_joined : (e : Edition) (text : List ℕ) → joined (pieces_of e text) ≡ text
lex_joined e text = joined_from e 0 text

-- pieces each of which is none or what its kind says, as those of a text are
pub data Lexed (e : Edition) : List Piece → Type 0 where
  all_lexed : Lexed e []
  next_lexed :
      {k : PieceKind} {b : List ℕ} {ps : List Piece} → (k ≡ NoPiece) ⊎ PieceText e k b → Lexed e ps →
      Lexed e (record { kind = k; bytes = b } ∷ ps)

-- the pieces of what stands behind k bytes, and of a text, are such
lexed_from : (e : Edition) (k : ℕ) (text : List ℕ) → Lexed e (pieces_from e k text)
unfolding pieces_from
lexed_from e k [] = all_lexed
lexed_from e zero (b ∷ s) = next_lexed (lexed_piece e b s) (lexed_from e (piece_of e b s).more s)
lexed_from e (suc k) (b ∷ s) = lexed_from e k s

pub lexed : (e : Edition) (text : List ℕ) → Lexed e (pieces_of e text)
lexed e text = lexed_from e 0 text

-- what is no piece may stand nowhere
none_outside : (σ : Stage) → is_outside_lem (follows σ NoPiece) ≡ true
none_outside LineStart = refl
none_outside Named = refl
none_outside NamedSpaced = refl
none_outside Open = refl
none_outside OpenSpaced = refl
none_outside Filled = refl
none_outside FilledSpaced = refl
none_outside Noted = refl
none_outside Outside = refl

-- a piece that may stand where it does is what its kind says
standing : {e : Edition} {k : PieceKind} {b : List ℕ} (σ : Stage) → is_outside_lem (follows σ k) ≡ false →
    (k ≡ NoPiece) ⊎ PieceText e k b → PieceText e k b
standing σ o (inl n) = true_and_false (ap (λ k. is_outside_lem (follows σ k)) n ∙ none_outside σ) o
standing σ o (inr t) = t

-- whether something is refused, and where
abbrev is_fault : Fault → Bool
is_fault Nothing = false
is_fault (At k) = true

abbrev offset_of : Fault → ℕ
offset_of Nothing = 0
offset_of (At k) = k

-- only the start of a line passes for one
line_start : (σ : Stage) → cond (is_line_start_lem σ) LineStart σ ≡ σ
line_start LineStart = refl
line_start Named = refl
line_start NamedSpaced = refl
line_start Open = refl
line_start OpenSpaced = refl
line_start Filled = refl
line_start FilledSpaced = refl
line_start Noted = refl
line_start Outside = refl

-- where no piece is left at the start of a line, the walk is done
ended : {e : Edition} (σ : Stage) → is_line_start_lem σ ≡ true → Walks e σ [] LineStart
ended {e} σ h =
    let same : LineStart ≡ σ = sym (ap (λ t. cond t LineStart σ) h) ∙ line_start σ in
    subst (λ τ. Walks e τ [] LineStart) same no_piece

-- pieces in which nothing is refused walk to the start of a line
walks : {e : Edition} {ps : List Piece} (σ : Stage) (at : ℕ) → Lexed e ps → fault_from σ at ps ≡ Nothing →
    Walks e σ ps LineStart
unfolding fault_from
walks σ at all_lexed h =
    cases (is_line_start_lem σ) (λ t. ended σ t) (λ f. absurd (true≢false (ap is_fault (rw f at h))))
walks σ at (next_lexed {k = k} {b = b} fine r) h =
    cases (is_outside_lem (follows σ k))
    (λ o. absurd (true≢false (ap is_fault (rw o at h))))
    (λ i. next_piece (standing σ i fine) i (walks (follows σ k) (at + length b) r (rw i at h)))

-- a text in which nothing is refused walks to the start of a line
pub lex_walks : (e : Edition) (σ : Stage) (at : ℕ) (text : List ℕ) → fault_from σ at (pieces_of e text) ≡ Nothing →
    Walks e σ (pieces_of e text) LineStart
lex_walks e σ at text h = walks σ at (lexed e text) h

-- how a walk stops short: no piece is left in the middle of a line, or the next may not stand there
pub data Stops : Stage → List Piece → Type 0 where
  piece_missing : {τ : Stage} → is_line_start_lem τ ≡ false → Stops τ []
  piece_outside : {τ : Stage} {p : Piece} {qs : List Piece} → is_outside_lem (follows τ p.kind) ≡ true → Stops τ (p ∷ qs)

-- pieces of which those before an offset walk, and no more
pub record Split (e : Edition) (σ : Stage) (at k : ℕ) (ps : List Piece) : Type 0 where
  pub before : List Piece
  pub after : List Piece
  pub τ : Stage
  pub split : ps ≡ before ++ after
  pub walked : Walks e σ before τ
  pub offset : at + length (joined before) ≡ k
  pub stops : Stops τ after

-- where the first piece stops the walk, none is before it
at_once : {e : Edition} {at k : ℕ} {ps : List Piece} (σ : Stage) → at ≡ k → Stops σ ps → Split e σ at k ps
unfolding joined
at_once {ps = ps} σ here stops =
    record { before = []; after = ps; τ = σ; split = refl; walked = no_piece; offset = omega arith; stops = stops }

-- pieces in which something is refused walk up to its offset, and stop there
pub lex_splits : (e : Edition) (σ : Stage) (at k : ℕ) (ps : List Piece) → Lexed e ps → fault_from σ at ps ≡ At k →
    Split e σ at k ps
unfolding fault_from joined
lex_splits e σ at k ps all_lexed h =
    cases (is_line_start_lem σ)
    (λ t. absurd (true≢false (sym (ap is_fault (rw t at h)))))
    (λ f. at_once σ (ap offset_of (rw f at h)) (piece_missing f))
lex_splits e σ at k ps (next_lexed {k = kind} {b = b} {ps = qs} fine r) h =
    cases (is_outside_lem (follows σ kind))
    (λ o. at_once σ (ap offset_of (rw o at h)) (piece_outside o))
    (λ i.
    let rest = lex_splits e (follows σ kind) (at + length b) k qs r (rw i at h) in
    let p : Piece = record { kind = kind; bytes = b } in
    record {
      before = p ∷ rest.before;
      after = rest.after;
      τ = rest.τ;
      split = ap (λ ps. p ∷ ps) rest.split;
      walked = next_piece (standing σ i fine) i rest.walked;
      offset = omega (arith, length-append b (joined rest.before), rest.offset);
      stops = rest.stops;
    })
