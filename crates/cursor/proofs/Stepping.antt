-- One piece read at an offset: what may stand there, what is said and used, and what is left. Assumes nothing.
use Rattle.grammar.proofs.Basics.{ℕ, suc, ◌+◌, ◌-◌, ◌<◌, List, [], ◌∷◌, ◌++◌, ◌≡◌, refl, ◌∙◌, ap, Bool, true}
use Rattle.grammar.proofs.Basics.{false, cond, cases, length, take, drop, get_or, drop_of_length-le, length-drop}
use Rattle.grammar.proofs.Basics.{arith, false≢true, ltb, ltb-true, ltb-false, eqb, eqb-true, ◌&&◌, ◌||◌, not}
use Rattle.grammar.proofs.Basics.{length-take-le}
use lib.Seq.{drop-drop}
use Rattle.abnf.specs.declared.Edition.{Edition}
use Rattle.abnf.specs.declared.Begun.{Begun}
use Rattle.abnf.specs.declared.PieceKind.{PieceKind}
use Rattle.abnf.specs.declared.PieceKind.TheVariants.{NamePiece, MarkPiece, SlashPiece, BlankPiece, LiteralPiece}
use Rattle.abnf.specs.declared.PieceKind.TheVariants.{CommentPiece, EndPiece, NoPiece}
use Rattle.abnf.specs.declared.Stage.{Stage}
use Rattle.abnf.specs.declared.Fault.{Fault}
use Rattle.abnf.specs.declared.Fault.TheVariants.{Nothing, At}
use Rattle.abnf.specs.Bytes.{is_alpha_lem, is_wsp_lem, in_name, in_string, in_comment, is_hexdig, is_x, is_s, is_i}
use Rattle.abnf.specs.Pieces.{Piece, pieces_of, pieces_from, piece_of, piece, neither, span, begins, prefixed, percent}
use Rattle.abnf.specs.Pieces.{has_prefixes_lem, quoted, value, dotted, values_from, fit, is_range_lem}
use Rattle.abnf.specs.Reading.{follows, is_outside_lem, is_line_start_lem, fault_from, says_from, says, Said}
use Rattle.abnf.specs.Uses.{Use, used_by, uses_from}
use Rattle.scanner.specs.Parts.{part_of_lem}
use Rattle.cursor.specs.Cursor.{FineAt}
use Rattle.abnf.proofs.Lexed.{skipped}
use Rattle.scanner.proofs.Offsets.{here}
use Rattle.scanner.proofs.PieceSizes.{piece_within}

-- the bytes of a piece
pub part_begins : (text : List ℕ) (at n : ℕ) → at < length text →
    part_of_lem text at (at + 1 + n) ≡ get_or text at 0 ∷ take n (drop (at + 1) text)
part_begins text at n l =
    let size : at + 1 + n - at ≡ suc n = omega arith in
    rw size (ap (take (suc n)) (here text at l))

-- the piece that begins at an offset
abbrev pub begun_at : Edition → List ℕ → ℕ → Begun
begun_at e text at = piece_of e (get_or text at 0) (drop (at + 1) text)

abbrev piece_at : Edition → List ℕ → ℕ → Piece
piece_at e text at =
    record {
      kind = (begun_at e text at).kind;
      bytes = get_or text at 0 ∷ take (begun_at e text at).more (drop (at + 1) text);
    }

pieces_at : (e : Edition) (text : List ℕ) (at : ℕ) → at < length text →
    pieces_of e (drop at text) ≡ piece_at e text at ∷ pieces_of e (drop (at + 1 + (begun_at e text at).more) text)
unfolding pieces_from
pieces_at e text at l =
    let n = (begun_at e text at).more in
    ap (pieces_of e) (here text at l)
    ∙ ap (λ ps. piece_at e text at ∷ ps)
    (skipped e n (drop (at + 1) text) ∙ ap (pieces_of e) (drop-drop n (at + 1) text))

-- its bytes end where the next piece begins
piece_length : (e : Edition) (text : List ℕ) (at : ℕ) → at < length text →
    at + length (piece_at e text at).bytes ≡ at + 1 + (begun_at e text at).more
piece_length e text at l =
    let n = (begun_at e text at).more in
    let within = piece_within e text at l (begun_at e text at) refl in
    rw (length-take-le n (drop (at + 1) text) (rw length-drop (omega arith))) (omega arith)

-- what pieces say, and the uses of names among them, the first piece at an offset
pub record Found : Type 0 where
  pub said : Said
  pub uses : List Use

abbrev found_from : Stage → ℕ → List Piece → Found
found_from σ at ps = record { said = says_from σ ps; uses = uses_from σ at ps }

abbrev pub found_at : Edition → Stage → List ℕ → ℕ → Found
found_at e σ text at = found_from σ at (pieces_of e (drop at text))

-- a piece at an offset before what is found behind it
abbrev pub finds : Stage → ℕ → PieceKind → List ℕ → Found → Found
finds σ at k b f = record { said = says σ k b f.said; uses = used_by σ at k b f.said.mark ++ f.uses }

-- a fault is not none
is_nothing : Fault → Bool
is_nothing Nothing = true
is_nothing (At k) = false

no_fault : (k : ℕ) → At k ≡ Nothing → ⊥
unfolding is_nothing
no_fault k h = false≢true (ap is_nothing h)

-- a piece of a kind with n bytes after its first stands at an offset and may stand there; the text goes on after it
pub record Step (e : Edition) (σ : Stage) (text : List ℕ) (at : ℕ) (k : PieceKind) (n : ℕ) : Type 0 where
  pub allowed : is_outside_lem (follows σ k) ≡ false
  pub fine : FineAt e (follows σ k) text (at + 1 + n)
  pub found :
      found_at e σ text at
      ≡ finds σ at k (get_or text at 0 ∷ take n (drop (at + 1) text)) (found_at e (follows σ k) text (at + 1 + n))

pub step : (e : Edition) (σ : Stage) (text : List ℕ) (at : ℕ) → at < length text → FineAt e σ text at →
    Step e σ text at (begun_at e text at).kind (begun_at e text at).more
unfolding fault_from says_from uses_from
step e σ text at l h =
    let k = (begun_at e text at).kind in
    let rest = pieces_of e (drop (at + 1 + (begun_at e text at).more) text) in
    let size = piece_length e text at l in
    let g = rw (pieces_at e text at l) at h in
    cases (is_outside_lem (follows σ k))
    (λ o. absurd (no_fault at (rw o at g)))
    (λ i. record {
      allowed = i;
      fine = rw (i, size) at g;
      found =
          ap (found_from σ at) (pieces_at e text at l)
          ∙ ap (λ j. finds σ at k (piece_at e text at).bytes (found_from (follows σ k) j rest)) size;
    })

-- past the text only a line that is not begun is fine
pub within_text : (e : Edition) (σ : Stage) (text : List ℕ) (at : ℕ) → is_line_start_lem σ ≡ false → FineAt e σ text at →
    at < length text
unfolding fault_from pieces_from
within_text e σ text at f h =
    cases (ltb at (length text))
    (λ t. ltb-true at (length text) t)
    (λ g. absurd (no_fault at (rw (drop_of_length-le text (ltb-false at (length text) g), f) at h)))

-- what is found at a piece depends on the stage only where a line begins
finds_alike : (σ τ : Stage) (at : ℕ) (k : PieceKind) (b : List ℕ) (f : Found) → is_line_start_lem σ ≡ is_line_start_lem τ →
    finds σ at k b f ≡ finds τ at k b f
finds_alike σ τ at NamePiece b f h = rw h
finds_alike σ τ at MarkPiece b f h = refl
finds_alike σ τ at SlashPiece b f h = refl
finds_alike σ τ at BlankPiece b f h = refl
finds_alike σ τ at LiteralPiece b f h = refl
finds_alike σ τ at CommentPiece b f h = refl
finds_alike σ τ at EndPiece b f h = refl
finds_alike σ τ at NoPiece b f h = refl

-- a stage at an offset is fine, and there is found what is found at another
pub record Same (e : Edition) (text : List ℕ) (σ : Stage) (at : ℕ) (τ : Stage) (next : ℕ) : Type 0 where
  pub fine : FineAt e τ text next
  pub found : found_at e σ text at ≡ found_at e τ text next

pub onward : {e : Edition} {text : List ℕ} {σ τ υ : Stage} {at next last : ℕ} → Same e text σ at τ next →
    Same e text τ next υ last → Same e text σ at υ last
onward s t = record { fine = t.fine; found = s.found ∙ t.found }

-- two stages that the next piece leads to one
pub alike : (e : Edition) (σ τ : Stage) (text : List ℕ) (at : ℕ) → at < length text → is_line_start_lem σ ≡ is_line_start_lem τ →
    follows σ (begun_at e text at).kind ≡ follows τ (begun_at e text at).kind → FineAt e σ text at →
    Same e text σ at τ at
unfolding fault_from says_from uses_from
alike e σ τ text at l line same h =
    let k = (begun_at e text at).kind in
    let rest = pieces_of e (drop (at + 1 + (begun_at e text at).more) text) in
    let b = (piece_at e text at).bytes in
    record {
      fine = rw (pieces_at e text at l, ← same) (rw (pieces_at e text at l) at h);
      found =
          rw (pieces_at e text at l)
          (finds_alike σ τ at k b (found_from (follows σ k) (at + length b) rest) line
          ∙ ap (λ υ. finds τ at k b (found_from υ (at + length b) rest)) same);
    }

-- what a piece that begins with the byte b, before the text s, is by that byte
pub data Begins (e : Edition) (b : ℕ) (s : List ℕ) : Begun → Type 0 where
  a_name : is_alpha_lem b ≡ true → Begins e b s (piece NamePiece (span in_name s))
  a_blank : is_wsp_lem b ≡ true → Begins e b s (piece BlankPiece (span is_wsp_lem s))
  a_mark : b ≡ 61 → Begins e b s (piece MarkPiece (cond (begins (eqb 47) s) 1 0))
  a_slash : b ≡ 47 → Begins e b s (piece SlashPiece 0)
  a_comment : b ≡ 59 → Begins e b s (piece CommentPiece (span in_comment s))
  an_end : b ≡ 13 → begins (eqb 10) s ≡ true → Begins e b s (piece EndPiece 1)
  a_literal : {n : ℕ} → is_alpha_lem b ≡ false → Begins e b s (piece LiteralPiece n)
  none : Begins e b s neither

module _ (e : Edition) (b : ℕ) (s : List ℕ) where
  by_test : (t : Bool) (x y : Begun) → (t ≡ true → Begins e b s x) → (t ≡ false → Begins e b s y) →
      Begins e b s (cond t x y)
  by_test true x y f g = f refl
  by_test false x y f g = g refl

  literal_if : (t : Bool) (n : ℕ) → is_alpha_lem b ≡ false → Begins e b s (cond t (piece LiteralPiece n) neither)
  literal_if t n a = by_test t (piece LiteralPiece n) neither (λ h. a_literal a) (λ h. none)

  strings : (n : ℕ) (r : List ℕ) → is_alpha_lem b ≡ false → Begins e b s (quoted n r)
  strings n r = literal_if (begins (eqb 34) (drop (span in_string r) r)) (n + suc (span in_string r))

  values : (r : List ℕ) → is_alpha_lem b ≡ false → Begins e b s (value r)
  values r =
      literal_if (begins is_hexdig r && not (is_range_lem r) && fit (values_from 0 (take (dotted r) r))) (suc (dotted r))

  prefixes : (r : List ℕ) → is_alpha_lem b ≡ false → Begins e b s (prefixed r)
  prefixes [] a = none
  prefixes (c ∷ r) a = by_test (eqb 34 c) _ neither (λ h. strings 2 r a) (λ h. none)

  percents : (r : List ℕ) → is_alpha_lem b ≡ false → Begins e b s (percent e r)
  percents [] a = none
  percents (x ∷ r) a =
      by_test (is_x x) _ _ (λ h. values r a)
      (λ h. by_test (has_prefixes_lem e && (is_s x || is_i x)) _ neither (λ h. prefixes r a) (λ h. none))

  pub begun : Begins e b s (piece_of e b s)
  begun =
      by_test (is_alpha_lem b) _ _ a_name
      (λ a. by_test (is_wsp_lem b) _ _ a_blank
      (λ n. by_test (eqb b 61) _ _ (λ h. a_mark (eqb-true b 61 h))
      (λ n. by_test (eqb b 47) _ _ (λ h. a_slash (eqb-true b 47 h))
      (λ n. by_test (eqb b 59) _ _ (λ h. a_comment (eqb-true b 59 h))
      (λ n. by_test (eqb b 13) _ _
      (λ h. by_test (begins (eqb 10) s) _ neither (an_end (eqb-true b 13 h)) (λ h. none))
      (λ n. by_test (eqb b 34) _ _ (λ h. strings 0 s a)
      (λ n. by_test (eqb b 37) _ neither (λ h. percents s a) (λ n. none))))))))
