-- A text is of the part just where nothing is refused, and then it says one list of rules. Assumes nothing.
use Rattle.grammar.proofs.Basics.{ℕ, List, [], ◌∷◌, ◌≡◌, sym, ◌∙◌, ap, subst, Bool, true, false, true≢false}
use Rattle.abnf.specs.declared.Edition.{Edition}
use Rattle.abnf.specs.declared.Stage.TheVariants.{LineStart}
use Rattle.abnf.specs.declared.Fault.{Fault}
use Rattle.abnf.specs.declared.Fault.TheVariants.{Nothing, At}
use Rattle.abnf.specs.Text.{Line, Rulelist}
use Rattle.abnf.specs.Pieces.{Piece, pieces_of, pieces_from}
use Rattle.abnf.specs.Reading.{fault_from, fault_of, says_from, lines_of}
use Rattle.abnf.specs.Theorems.Reading.{OfThePart}
use Rattle.abnf.proofs.Walks.{Walks}
use Rattle.abnf.proofs.WalkLaws.{walks_fine}
use Rattle.abnf.proofs.Lexed.{lex_joined, lex_walks}
use Rattle.abnf.proofs.Relexed.{relex}
use Rattle.abnf.proofs.Sound.{walks_sound}
use Rattle.abnf.proofs.Complete.{rulelist_walks, RulePieces}

-- whether something is refused
abbrev refused : Fault → Bool
refused Nothing = false
refused (At k) = true

pub at_nothing : {P : Type 0} (k : ℕ) → At k ≡ Nothing → P
at_nothing k e = absurd (true≢false (ap refused e))

abbrev some_piece : List Piece → Bool
some_piece [] = false
some_piece (p ∷ ps) = true

pub no_pieces : {P : Type 0} (p : Piece) (ps : List Piece) → [] ≡ p ∷ ps → P
no_pieces p ps e = absurd (true≢false (sym (ap some_piece e)))

-- a text is not refused where its pieces, of which there is one at least, are walked to the end
pub not_refused :
    (e : Edition) (text : List ℕ) (p : Piece) (ps : List Piece) → pieces_of e text ≡ p ∷ ps →
    Walks e LineStart (p ∷ ps) LineStart → fault_of e text ≡ Nothing
unfolding fault_of pieces_from
not_refused e [] p ps same walked = no_pieces p ps same
not_refused e (b ∷ s) p ps same walked =
    ap (λ l. fault_from LineStart 0 l) same ∙ walks_fine e LineStart 0 (p ∷ ps) walked

-- the pieces of a text of the part are those by which its families are read
pub pieces_read :
    (e : Edition) (text : List ℕ) (lines : List Line) (r : RulePieces e text lines) →
    pieces_of e text ≡ r.first ∷ r.others
pieces_read e text lines r =
    ap (λ t. pieces_of e t) (sym r.bytes) ∙ relex r.walks

complete :
    (e : Edition) (text : List ℕ) (lines : List Line) → Rulelist e text lines →
    (fault_of e text ≡ Nothing) × (lines_of e text ≡ lines)
unfolding lines_of
complete e text lines d =
    let r = rulelist_walks e text lines d in
    let same = pieces_read e text lines r in (
      not_refused e text r.first r.others same r.walks,
      ap (λ l. (says_from LineStart l).lines) same ∙ r.says_lines,
    )

sound :
    (e : Edition) (text : List ℕ) → fault_of e text ≡ Nothing → Rulelist e text (lines_of e text)
unfolding fault_of lines_of pieces_from
sound e [] fine = at_nothing 0 fine
sound e (b ∷ s) fine =
    subst (λ t. Rulelist e t (says_from LineStart (pieces_of e (b ∷ s))).lines) (lex_joined e (b ∷ s))
    (walks_sound e _ _ (lex_walks e LineStart 0 (b ∷ s) fine))

pub of_the_part_lem : OfThePart
of_the_part_lem e text lines =
    (complete e text lines, λ h. subst (λ ls. Rulelist e text ls) h.1 (sound e text h.0))
