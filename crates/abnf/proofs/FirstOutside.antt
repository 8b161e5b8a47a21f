-- Where a text is refused, its pieces before the offset begin a text of the part, and each text of the part that begins
-- with them goes on with another piece, or where this one does not. Assumes nothing.
use Rattle.grammar.proofs.Basics.{ℕ, List, [], ◌∷◌, ◌++◌, ◌≡◌, refl, sym, ◌∙◌, ap, subst, true, false}
use Rattle.grammar.proofs.Basics.{length, arith}
use Rattle.abnf.specs.declared.Edition.{Edition}
use Rattle.abnf.specs.declared.Stage.{Stage}
use Rattle.abnf.specs.declared.Stage.TheVariants.{LineStart}
use Rattle.abnf.specs.declared.Fault.{Fault}
use Rattle.abnf.specs.declared.Fault.TheVariants.{Nothing, At}
use Rattle.abnf.specs.Text.{Line, Rulelist}
use Rattle.abnf.specs.Pieces.{Piece, pieces_of, pieces_from}
use Rattle.abnf.specs.Reading.{fault_from, fault_of, follows, is_outside_lem, says_from}
use Rattle.abnf.specs.Theorems.Reading.{OutsideAt, FirstOutside, Differs, missing, too_many, another, joined}
use Rattle.abnf.proofs.Walks.{Walks, no_piece, next_piece}
use Rattle.abnf.proofs.WalkLaws.{walks_append, completion}
use Rattle.abnf.proofs.Lexed.{lex_joined, lexed, lex_splits, Split, Stops, piece_missing, piece_outside}
use Rattle.abnf.proofs.Relexed.{relex}
use Rattle.abnf.proofs.Sound.{walks_sound}
use Rattle.abnf.proofs.OfThePart.{of_the_part_lem, at_nothing}

-- a walk ends inside
walks_inside :
    {e : Edition} {σ τ : Stage} {ps : List Piece} → is_outside_lem σ ≡ false → Walks e σ ps τ → is_outside_lem τ ≡ false
walks_inside h no_piece = h
walks_inside h (next_piece text inside w) = walks_inside inside w

-- where pieces are not refused, those after a walk are not refused from where it ends
fault_after_lem :
    {e : Edition} {σ τ : Stage} {ps : List Piece} (at : ℕ) (qs : List Piece) → Walks e σ ps τ →
    fault_from σ at (ps ++ qs) ≡ Nothing → (k : ℕ) × (fault_from τ k qs ≡ Nothing)
unfolding fault_from
fault_after_lem at qs no_piece h = (at, h)
fault_after_lem at qs (next_piece text inside w) h = fault_after_lem _ qs w (rw inside at h)

-- a walk of one piece at least is a text of the part
walk_text :
    (e : Edition) (ps : List Piece) (p : Piece) (qs : List Piece) → Walks e LineStart (ps ++ (p ∷ qs)) LineStart →
    Rulelist e (joined (ps ++ (p ∷ qs))) (says_from LineStart (ps ++ (p ∷ qs))).lines
walk_text e [] p qs w = walks_sound e p qs w
walk_text e (q ∷ ps) p qs w = walks_sound e q (ps ++ (p ∷ qs)) w

-- a text of the part has a piece
some_piece : (e : Edition) (t : List ℕ) (lines : List Line) → Rulelist e t lines → Differs [] (pieces_of e t)
unfolding fault_of pieces_from
some_piece e [] lines d = at_nothing 0 ((of_the_part_lem e [] lines).0 d).0
some_piece e (b ∷ s) lines d = missing

-- the pieces of a text of the part are walked to the end
fine_pieces :
    (e : Edition) (t : List ℕ) (lines : List Line) → Rulelist e t lines → fault_from LineStart 0 (pieces_of e t) ≡ Nothing
unfolding fault_of fault_from pieces_from
fine_pieces e [] lines d = refl
fine_pieces e (b ∷ s) lines d = ((of_the_part_lem e (b ∷ s) lines).0 d).0

-- where pieces stop short, those that do not go on otherwise
stops_differ :
    (τ : Stage) (k : ℕ) (after more : List Piece) → Stops τ after → fault_from τ k more ≡ Nothing → Differs after more
unfolding fault_from
stops_differ τ k after [] (piece_missing h) fine = at_nothing k (rw h at fine)
stops_differ τ k after (q ∷ qs) (piece_missing h) fine = missing
stops_differ τ k after [] (piece_outside o) fine = too_many
stops_differ τ k after (q ∷ qs) (piece_outside {p = p} o) fine =
    another (λ same.
    let out : is_outside_lem (follows τ q.kind) ≡ true = ap (λ r. is_outside_lem (follows τ r.kind)) (sym same) ∙ o in
    at_nothing k (rw out at fine))

module _ (e : Edition) (text : List ℕ) where
  -- what holds of an offset, from pieces that walk up to it and a stage from which a line can be ended
  outside_at :
      (at : ℕ) (before after : List Piece) (τ : Stage) → pieces_of e text ≡ before ++ after → Walks e LineStart before τ →
      length (joined before) ≡ at →
      ((t : List ℕ) (lines : List Line) (more : List Piece) → Rulelist e t lines → pieces_of e t ≡ before ++ more →
      Differs after more) →
      OutsideAt e text at
  outside_at at before after τ split walked offset differs =
      let end = completion e τ (walks_inside refl walked) in
      let rest = end.first ∷ end.others in
      let whole = walks_append walked end.walks in
      record {
        before = before;
        after = after;
        pieces = split;
        whole = ap joined (sym split) ∙ lex_joined e text;
        offset = offset;
        other = joined (before ++ rest);
        said = (says_from LineStart (before ++ rest)).lines;
        of_the_part_lem = walk_text e before end.first end.others whole;
        rest = rest;
        shared = relex whole;
        differs = differs;
      }

  by_split : (at : ℕ) → Split e LineStart 0 at (pieces_of e text) → OutsideAt e text at
  by_split at s =
      outside_at at s.before s.after s.τ s.split s.walked
      (omega (arith, s.offset))
      (λ t lines more d same.
      let fine = fault_after_lem 0 more s.walked (ap (λ l. fault_from LineStart 0 l) (sym same) ∙ fine_pieces e t lines d) in
      stops_differ s.τ fine.0 s.after more s.stops fine.1)

-- the offset of a refusal
abbrev offset_of : Fault → ℕ
offset_of Nothing = 0
offset_of (At k) = k

pub first_outside_lem : FirstOutside
unfolding fault_of pieces_from joined
first_outside_lem e [] at refused =
    outside_at e [] at [] [] LineStart refl no_piece (ap offset_of refused)
    (λ t lines more d same. subst (λ l. Differs [] l) same (some_piece e t lines d))
first_outside_lem e (b ∷ s) at refused =
    by_split e (b ∷ s) at (lex_splits e LineStart 0 at (pieces_of e (b ∷ s)) (lexed e (b ∷ s)) refused)
