-- From pieces to the grammar: a walk from the start of a line to the start of a line is rules. Assumes nothing.
use Rattle.grammar.proofs.Basics.{ℕ, List, [], ◌∷◌, ◌++◌, append_assoc, append-nil}
use Rattle.abnf.specs.declared.Edition.{Edition}
use Rattle.abnf.specs.declared.Mark.{Mark}
use Rattle.abnf.specs.declared.Character.{Character}
use Rattle.abnf.specs.declared.PieceKind.{PieceKind}
use Rattle.abnf.specs.declared.Stage.{Stage}
use Rattle.abnf.specs.declared.Stage.TheVariants.{LineStart, Named, NamedSpaced, Open, OpenSpaced, Filled}
use Rattle.abnf.specs.declared.Stage.TheVariants.{FilledSpaced, Noted, Outside}
use Rattle.abnf.specs.Bytes.{is_wsp_lem}
use Rattle.abnf.specs.Text.{Many, Element, characters, Line, no_more, Sign, defined_as, Literal, ElementText}
use Rattle.abnf.specs.Text.{by_name, by_literal, Comment, at_once, after_comment, Rulelist}
use Rattle.abnf.specs.Pieces.{Piece}
use Rattle.abnf.specs.Reading.{follows, characters_of_lem, mark_of, Said, nothing_said_lem, element_said, slash_said, says}
use Rattle.abnf.specs.Reading.{says_from}
use Rattle.abnf.specs.Theorems.Reading.{joined}
use Rattle.abnf.proofs.Literals.{literal_says, sign_says}
use Rattle.abnf.proofs.Walks.{PieceText, name_text, mark_text, slash_text, blank_text, literal_text}
use Rattle.abnf.proofs.Walks.{comment_text, end_text, Walks, no_piece, next_piece}
use Rattle.abnf.proofs.Rests.{Rules, no_rule, rules, Tail, tail, before_lines, Rest, start_rest, named_rest}
use Rattle.abnf.proofs.Rests.{named_spaced_rest, open_rest, open_spaced_rest, filled_rest, filled_spaced_rest}
use Rattle.abnf.proofs.Spans.{many}
use Rattle.abnf.proofs.Rests.{noted_rest, element_before, slash_before, element_last, rule_before}

-- a sign is one of the mark that its bytes say
sign_of : {s : List ℕ} {m : Mark} → Sign s m → Sign s (mark_of s)
sign_of g = rw (sign_says g) g

-- a comment before the end of a line
comment_tail :
    {e : Edition} {c t : List ℕ} {ls : List Line} → Comment c → Rules e t ls → Tail e (c ++ (13 ∷ 10 ∷ t)) ls
comment_tail {e} {c} {t} {ls} d r =
    let it : Tail e ((c ++ (13 ∷ 10 ∷ [])) ++ t) ls = tail (after_comment d) r in
    rw (append_assoc c) at it

-- an element, blanks, a slash or the end of a line before what is left of it
module _ {e : Edition} where
  element_open : {s t : List ℕ} {x : Element} {said : Said} →
      ElementText e s x → Rest e Filled t said → Rest e OpenSpaced (s ++ t) (element_said x said)
  element_open {s} {x} {said} w (filled_rest {r = r} {t = t} f l) =
      let it : Rest e OpenSpaced ((s ++ r) ++ t) (element_said x said) = open_spaced_rest (f s x w) l in
      rw (append_assoc s) at it

  element_filled : {s t : List ℕ} {x : Element} {said : Said} →
      ElementText e s x → Rest e Filled t said → Rest e FilledSpaced (s ++ t) (element_said x said)
  element_filled {s} {x} {said} w (filled_rest {r = r} {t = t} f l) =
      let it : Rest e FilledSpaced ((s ++ r) ++ t) (element_said x said) =
      filled_spaced_rest (λ u b y v o. element_before v o (f s x w)) l in
      rw (append_assoc s) at it

  blanks_before : {a b : List ℕ} {said : Said} → Many is_wsp_lem a → Rest e OpenSpaced b said → Rest e Open (a ++ b) said
  blanks_before m (open_spaced_rest r l) = open_rest m r l

  slash_filled : {s : List ℕ} {said : Said} → Rest e Open s said → Rest e Filled (47 ∷ s) (slash_said said)
  slash_filled {said} (open_rest {a = a} {s = s} {t = t} m r l) =
      let it : Rest e Filled ((47 ∷ (a ++ s)) ++ t) (slash_said said) =
      filled_rest (λ u x w. slash_before w no_more m r) l in
      rw (append_assoc a) at it

  slash_spaced : {s : List ℕ} {said : Said} → Rest e Open s said → Rest e FilledSpaced (47 ∷ s) (slash_said said)
  slash_spaced {said} (open_rest {a = a} {s = s} {t = t} m r l) =
      let it : Rest e FilledSpaced ((47 ∷ (a ++ s)) ++ t) (slash_said said) =
      filled_spaced_rest (λ u b x w o. slash_before w (many o) m r) l in
      rw (append_assoc a) at it

  end_filled : {t : List ℕ} {ls : List Line} → Tail e t ls → Rest e Filled t (before_lines ls)
  end_filled l = filled_rest {r = []} (λ u x w. element_last w no_more) l

  end_spaced : {t : List ℕ} {ls : List Line} → Tail e t ls → Rest e FilledSpaced t (before_lines ls)
  end_spaced {ls} l =
      filled_spaced_rest {r = []} {said = before_lines ls}
      (λ u b x w o. rw (append-nil b) (element_last w (many o))) l

-- a literal is an element of the characters that its bytes say
literal_of : {e : Edition} {s : List ℕ} {cs : List Character} →
    Literal e s cs → ElementText e s (characters (characters_of_lem s))
literal_of l = rw (literal_says l) (by_literal l)

-- a piece before what is left after it
step : {e : Edition} {k : PieceKind} {b s : List ℕ} {said : Said} (σ : Stage) →
    PieceText e k b → Rest e (follows σ k) s said → Rest e σ (b ++ s) (says σ k b said)
step LineStart (name_text n) (named_rest d r l) = start_rest (rules (rule_before n d r l))
step {b} Named (mark_text g) (open_rest {a = a} m r l) =
    rw (← append_assoc b a) (named_rest {d = b ++ a} (defined_as no_more (sign_of g) m) r l)
step {b} Named (blank_text o) (named_spaced_rest {g = g} {c = c} s m r l) =
    rw (← append_assoc g c, ← append_assoc b) (named_rest {d = b ++ (g ++ c)} (defined_as (many o) s m) r l)
step NamedSpaced (mark_text g) (open_rest m r l) = named_spaced_rest (sign_of g) m r l
step Open (name_text n) r = blanks_before no_more (element_open (by_name n) r)
step Open (blank_text o) r = blanks_before (many o) r
step Open (literal_text l) r = blanks_before no_more (element_open (literal_of l) r)
step OpenSpaced (name_text n) r = element_open (by_name n) r
step OpenSpaced (literal_text l) r = element_open (literal_of l) r
step Filled slash_text r = slash_filled r
step {b} Filled (blank_text o) (filled_spaced_rest {r = r} f l) =
    rw (← append_assoc b r) (filled_rest {r = b ++ r} (λ u x w. f u b x w o) l)
step Filled (comment_text c) (noted_rest r) = end_filled (comment_tail c r)
step Filled end_text (start_rest r) = end_filled (tail at_once r)
step FilledSpaced (name_text n) r = element_filled (by_name n) r
step FilledSpaced slash_text r = slash_spaced r
step FilledSpaced (literal_text l) r = element_filled (literal_of l) r
step FilledSpaced (comment_text c) (noted_rest r) = end_spaced (comment_tail c r)
step FilledSpaced end_text (start_rest r) = end_spaced (tail at_once r)
step Noted end_text (start_rest r) = noted_rest r
step LineStart (mark_text g) r = elim r [ ]
step LineStart slash_text r = elim r [ ]
step LineStart (blank_text o) r = elim r [ ]
step LineStart (literal_text l) r = elim r [ ]
step LineStart (comment_text c) r = elim r [ ]
step LineStart end_text r = elim r [ ]
step Named (name_text n) r = elim r [ ]
step Named slash_text r = elim r [ ]
step Named (literal_text l) r = elim r [ ]
step Named (comment_text c) r = elim r [ ]
step Named end_text r = elim r [ ]
step NamedSpaced (name_text n) r = elim r [ ]
step NamedSpaced slash_text r = elim r [ ]
step NamedSpaced (blank_text o) r = elim r [ ]
step NamedSpaced (literal_text l) r = elim r [ ]
step NamedSpaced (comment_text c) r = elim r [ ]
step NamedSpaced end_text r = elim r [ ]
step Open (mark_text g) r = elim r [ ]
step Open slash_text r = elim r [ ]
step Open (comment_text c) r = elim r [ ]
step Open end_text r = elim r [ ]
step OpenSpaced (mark_text g) r = elim r [ ]
step OpenSpaced slash_text r = elim r [ ]
step OpenSpaced (blank_text o) r = elim r [ ]
step OpenSpaced (comment_text c) r = elim r [ ]
step OpenSpaced end_text r = elim r [ ]
step Filled (name_text n) r = elim r [ ]
step Filled (mark_text g) r = elim r [ ]
step Filled (literal_text l) r = elim r [ ]
step FilledSpaced (mark_text g) r = elim r [ ]
step FilledSpaced (blank_text o) r = elim r [ ]
step Noted (name_text n) r = elim r [ ]
step Noted (mark_text g) r = elim r [ ]
step Noted slash_text r = elim r [ ]
step Noted (blank_text o) r = elim r [ ]
step Noted (literal_text l) r = elim r [ ]
step Noted (comment_text c) r = elim r [ ]
step Outside _ r = elim r [ ]

-- the pieces of a walk to the start of a line are such a rest
walks_rest : (e : Edition) (σ τ : Stage) (ps : List Piece) → Walks e σ ps τ → Rest e τ [] nothing_said_lem →
    Rest e σ (joined ps) (says_from σ ps)
unfolding joined says_from
walks_rest e σ τ ps no_piece r = r
walks_rest e σ τ ps (next_piece {k = k} {ps = qs} t o w) r = step σ t (walks_rest e (follows σ k) τ qs w r)

-- and from the start of a line on, the first piece begins a rule
rules_from_lem : {e : Edition} {k : PieceKind} {b s : List ℕ} {said : Said} →
    PieceText e k b → Rest e (follows LineStart k) s said → Rulelist e (b ++ s) (says LineStart k b said).lines
rules_from_lem (name_text n) (named_rest d r l) = rule_before n d r l
rules_from_lem (mark_text _) x9 = elim x9 [ ]
rules_from_lem slash_text x6 = elim x6 [ ]
rules_from_lem (blank_text _) x11 = elim x11 [ ]
rules_from_lem (literal_text _) x12 = elim x12 [ ]
rules_from_lem (comment_text _) x13 = elim x13 [ ]
rules_from_lem end_text x10 = elim x10 [ ]

-- pieces that walk from the start of a line to the start of a line are rules, and say them
pub walks_sound : (e : Edition) (p : Piece) (ps : List Piece) → Walks e LineStart (p ∷ ps) LineStart →
    Rulelist e (joined (p ∷ ps)) (says_from LineStart (p ∷ ps)).lines
unfolding joined says_from
walks_sound e p ps (next_piece {k = k} t o w) =
    rules_from_lem t (walks_rest e (follows LineStart k) LineStart ps w (start_rest no_rule))
