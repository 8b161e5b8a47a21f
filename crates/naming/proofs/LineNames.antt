-- The names of a text line by line: from its start on, over one line, at its end. Assumes nothing.
use Rattle.grammar.proofs.Basics.{ℕ, ◌≤◌, List, [], ◌∷◌, ◌++◌, ◌≡◌, refl, ◌∙◌, sym, ap, cases, arith}
use Rattle.grammar.proofs.Basics.{length, take, length-append, append-nil, append_assoc, drop_of_length-le}
use lib.Seq.{take-append_seam}
use Rattle.abnf.specs.declared.Edition.{Edition}
use Rattle.abnf.specs.declared.Stage.TheVariants.{LineStart, Open}
use Rattle.abnf.specs.declared.Fault.TheVariants.{Nothing}
use Rattle.abnf.specs.Text.{Line}
use Rattle.abnf.specs.Pieces.{pieces_from}
use Rattle.abnf.specs.Reading.{Said, says_from, fault_from, fault_of, lines_of}
use Rattle.abnf.specs.Meaning.{is_among_lem, names_from}
use Rattle.abnf.specs.Uses.{uses_from, uses_of}
use Rattle.scanner.specs.Parts.{part_of_lem}
use Rattle.cursor.specs.declared.Head.{Head}
use Rattle.cursor.specs.Cursor.{said_at, uses_at, FineAt, HeadRead}
use Rattle.naming.specs.Named.{entered}
use Rattle.naming.specs.Walk.{RuleEnds}

-- a text of the part begins with a line, and what it says is what it says from there on
pub fine_start : (e : Edition) (text : List ℕ) → fault_of e text ≡ Nothing → FineAt e LineStart text 0
unfolding fault_of fault_from pieces_from
fine_start e [] h = refl
fine_start e (b ∷ s) h = h

pub lines_start : (e : Edition) (text : List ℕ) → (said_at e LineStart text 0).lines ≡ lines_of e text
unfolding lines_of
lines_start e text = refl

pub uses_start : (e : Edition) (text : List ℕ) → uses_at e LineStart text 0 ≡ uses_of e text
unfolding uses_of
uses_start e text = refl

-- past its end there is nothing
module _ (e : Edition) (text : List ℕ) (at : ℕ) (h : length text ≤ at) where
  pub no_more_lines : (said_at e LineStart text at).lines ≡ []
  unfolding says_from pieces_from
  no_more_lines = rw (drop_of_length-le text h)

  pub no_more_uses : uses_at e LineStart text at ≡ []
  unfolding uses_from pieces_from
  no_more_uses = rw (drop_of_length-le text h)

-- names only come behind those before
names_behind : (before : List (List ℕ)) (ls : List Line) →
    (more : List (List ℕ)) × (names_from before ls ≡ before ++ more)
unfolding names_from
names_behind before [] = ([], sym (append-nil before))
names_behind before (l ∷ ls) =
    cases (is_among_lem before l.name)
    (λ t. rw t (names_behind before ls))
    (λ f.
    let r = names_behind (before ++ (l.name ∷ [])) ls in
    rw f (l.name ∷ r.0, r.1 ∙ append_assoc before (l.name ∷ []) r.0))

pub names_kept : (before : List (List ℕ)) (ls : List Line) →
    (length before ≤ length (names_from before ls)) × (take (length before) (names_from before ls) ≡ before)
names_kept before ls =
    let r = names_behind before ls in
    rw r.1 (rw length-append (omega arith), take-append_seam before r.0)

-- over the head of a line, whose name is inside the text, and over the line
module _ (e : Edition) (text : List ℕ) (at : ℕ) (h : Head) (r : HeadRead e text at h) where
  module _ (before : List (List ℕ)) where
    pub head_enters :
        names_from before (said_at e LineStart text at).lines
        ≡ names_from (entered before (part_of_lem text at h.end)) (said_at e Open text h.body).lines
    unfolding names_from
    head_enters = ap (λ (s : Said). names_from before s.lines) r.says

    pub line_enters : (next : ℕ) → RuleEnds e text h.body next →
        names_from before (said_at e LineStart text at).lines
        ≡ names_from (entered before (part_of_lem text at h.end)) (said_at e LineStart text next).lines
    line_enters next ends = head_enters ∙ ap (names_from (entered before (part_of_lem text at h.end))) ends.lines
