-- Where no name is at fault, every name in a body begins a line, and so has a number below those of the names.
-- Assumes nothing.
use Rattle.grammar.proofs.Basics.{or_assoc, or-true, ◌||◌, ◌≡◌, refl, ◌∙◌, sym, ap, subst, cases, true, true_and_false}
use Rattle.grammar.proofs.Basics.{and_both, List, [], ◌∷◌, ◌++◌, List·Memᴰ, List·Memᴰ·head, List·Memᴰ·tail}
use Rattle.grammar.proofs.Basics.{List·Memᴰ·not-nil, Memᴰ·append-left, Memᴰ·append-right, ℕ, ◌<◌, ◌+◌, arith, length}
use Rattle.grammar.proofs.Basics.{cond, eq-eqb, false≢true}
use Rattle.abnf.specs.declared.Edition.{Edition}
use Rattle.abnf.specs.declared.Mark.{Mark}
use Rattle.abnf.specs.declared.Mark.TheVariants.{Defines, Adds}
use Rattle.abnf.specs.declared.Stage.{Stage}
use Rattle.abnf.specs.declared.Stage.TheVariants.{LineStart}
use Rattle.abnf.specs.declared.PieceKind.{PieceKind}
use Rattle.abnf.specs.declared.PieceKind.TheVariants.{NamePiece, MarkPiece, SlashPiece, BlankPiece, LiteralPiece}
use Rattle.abnf.specs.declared.PieceKind.TheVariants.{CommentPiece, EndPiece, NoPiece}
use Rattle.abnf.specs.declared.Fault.TheVariants.{Nothing}
use Rattle.abnf.specs.Bytes.{lower}
use Rattle.abnf.specs.Text.{Element, name, characters, Line}
use Rattle.abnf.specs.Pieces.{Piece, pieces_of}
use Rattle.abnf.specs.Reading.{is_line_start_lem, follows, Said, element_said, characters_of_lem, says, says_from, fault_of, lines_of}
use Rattle.abnf.specs.Meaning.{same_name, number_of, is_among_lem, names_from, names_of}
use Rattle.abnf.specs.Uses.{Use, heads, mentioned, used_by, uses_from, uses_of}
use Rattle.abnf.proofs.OfThePart.{at_nothing}
use Rattle.abnf_jobs.specs.Names.{name_fault_lem, name_fault_of}
use Rattle.abnf_jobs.specs.Bodies.{Item, named, letter, character, Body}
use Rattle.abnf_jobs.proofs.EveryMember.{Every, every_none, every_more}
use Rattle.abnf_jobs.proofs.BodyItems.{is_named_lem, character_not_named, ItemFrom, of_name, of_character, item_from}
use Rattle.abnf_jobs.proofs.BodyItems.{body_from}
use Rattle.abnf_jobs.proofs.Premises.{Known}

-- a name among others has a number below theirs
pub number_below : (names : List (List ℕ)) (n : List ℕ) → is_among_lem names n ≡ true →
    number_of names n < length names
unfolding is_among_lem number_of
number_below [] n h = absurd (false≢true h)
number_below (m ∷ ms) n h =
    cases (same_name m n)
    (λ t. rw t (omega arith))
    (λ t. rw t (omega (arith, number_below ms n (rw t at h))))

-- a name is the same as itself
pub same_self : (n : List ℕ) → same_name n n ≡ true
unfolding same_name
same_self [] = refl
same_self (b ∷ s) = and_both _ (same_name s s) (eq-eqb (lower b) (lower b) refl) (same_self s)

-- among names and others behind them
among_apart : (ms ns : List (List ℕ)) (n : List ℕ) → is_among_lem (ms ++ ns) n ≡ is_among_lem ms n || is_among_lem ns n
unfolding is_among_lem
among_apart [] ns n = refl
among_apart (m ∷ ms) ns n =
    rw (among_apart ms ns n) (sym (or_assoc (same_name m n) (is_among_lem ms n) (is_among_lem ns n)))

among_behind : (ms : List (List ℕ)) (m n : List ℕ) → is_among_lem ms n ≡ true → is_among_lem (ms ++ (m ∷ [])) n ≡ true
among_behind ms m n h = rw (among_apart ms (m ∷ []) n, h)

among_last : (ms : List (List ℕ)) (n : List ℕ) → is_among_lem (ms ++ (n ∷ [])) n ≡ true
unfolding is_among_lem
among_last ms n = rw (among_apart ms (n ∷ []) n, same_self n, or-true)

-- a name stays among the names where lines add theirs
among_kept : (before : List (List ℕ)) (lines : List Line) (n : List ℕ) → is_among_lem before n ≡ true →
    is_among_lem (names_from before lines) n ≡ true
unfolding names_from
among_kept before [] n h = h
among_kept before (l ∷ ls) n h =
    cases (is_among_lem before l.name)
    (λ t. rw t (among_kept before ls n h))
    (λ t. rw t (among_kept (before ++ (l.name ∷ [])) ls n (among_behind before l.name n h)))

-- the name of each line is among the names
pub line_among : (before : List (List ℕ)) (lines : List Line) (l : Line) → List·Memᴰ l lines →
    is_among_lem (names_from before lines) l.name ≡ true
unfolding names_from
line_among before [] l m = absurd (List·Memᴰ·not-nil m)
line_among before (k ∷ ks) l (List·Memᴰ·head e) =
    cases (is_among_lem before l.name)
    (λ t. rw (← e, t) (among_kept before ks l.name t))
    (λ t. rw (← e, t) (among_kept (before ++ (l.name ∷ [])) ks l.name (among_last before l.name)))
line_among before (k ∷ ks) l (List·Memᴰ·tail m) =
    line_among (cond (is_among_lem before k.name) before (before ++ (k.name ∷ []))) ks l m

pub line_numbered : (lines : List Line) (l : Line) → List·Memᴰ l lines →
    number_of (names_of lines) l.name < length (names_of lines)
line_numbered lines l m = number_below (names_of lines) l.name (line_among [] lines l m)

-- a name that is mentioned is among the names
abbrev Fine : List (List ℕ) → Use → Type 0
Fine names (heads at n m) = Unit {0}
Fine names (mentioned at n) = is_among_lem names n ≡ true

uses_fine : (names defined : List (List ℕ)) (us : List Use) → name_fault_lem names defined us ≡ Nothing →
    Every (Fine names) us
unfolding name_fault_lem
uses_fine names defined [] f = every_none (Fine names)
uses_fine names defined (mentioned at n ∷ us) f =
    cases (is_among_lem names n)
    (λ t. every_more (Fine names) t (uses_fine names defined us (rw t at f)))
    (λ t. at_nothing at (rw t at f))
uses_fine names defined (heads at n Defines ∷ us) f =
    cases (is_among_lem defined n)
    (λ t. at_nothing at (rw t at f))
    (λ t. every_more (Fine names) tt (uses_fine names (defined ++ (n ∷ [])) us (rw t at f)))
uses_fine names defined (heads at n Adds ∷ us) f =
    cases (is_among_lem defined n)
    (λ t. every_more (Fine names) tt (uses_fine names defined us (rw t at f)))
    (λ t. at_nothing at (rw t at f))

-- the names that are said, each of which is mentioned, are among the names
module _ (names : List (List ℕ)) where
  abbrev ElementKnown : Element → Type 0
  ElementKnown (name n) = is_among_lem names n ≡ true
  ElementKnown (characters cs) = Unit {0}

  abbrev AlternativeKnown : List Element → Type 0
  AlternativeKnown xs = Every ElementKnown xs

  abbrev LineKnown : Line → Type 0
  LineKnown l = Every AlternativeKnown l.alternatives

  record SaidKnown (said : Said) : Type 0 where
    pub here : AlternativeKnown said.here
    pub others : Every AlternativeKnown said.others
    pub lines : Every LineKnown said.lines

  element_known : (x : Element) (said : Said) → ElementKnown x → SaidKnown said → SaidKnown (element_said x said)
  element_known x said k it =
      record { here = every_more ElementKnown k it.here; others = it.others; lines = it.lines }

  piece_known : (stage : Stage) (at : ℕ) (k : PieceKind) (bytes : List ℕ) (mark : Mark) (said : Said) →
      Every (Fine names) (used_by stage at k bytes mark) → SaidKnown said → SaidKnown (says stage k bytes said)
  piece_known stage at NamePiece bytes mark said fine it =
      cases (is_line_start_lem stage)
      (λ t. rw t (record {
        here = every_none ElementKnown;
        others = every_none AlternativeKnown;
        lines = every_more LineKnown (every_more AlternativeKnown it.here it.others) it.lines;
      }))
      (λ t. rw t (element_known (name bytes) said (fine (mentioned at bytes) (rw t (List·Memᴰ·head refl))) it))
  piece_known stage at MarkPiece bytes mark said fine it =
      record { here = it.here; others = it.others; lines = it.lines }
  piece_known stage at SlashPiece bytes mark said fine it =
      record {
        here = every_none ElementKnown;
        others = every_more AlternativeKnown it.here it.others;
        lines = it.lines;
      }
  piece_known stage at BlankPiece bytes mark said fine it = it
  piece_known stage at LiteralPiece bytes mark said fine it =
      element_known (characters (characters_of_lem bytes)) said tt it
  piece_known stage at CommentPiece bytes mark said fine it = it
  piece_known stage at EndPiece bytes mark said fine it = it
  piece_known stage at NoPiece bytes mark said fine it = it

  said_known : (stage : Stage) (at : ℕ) (ps : List Piece) → Every (Fine names) (uses_from stage at ps) →
      SaidKnown (says_from stage ps)
  unfolding uses_from says_from
  said_known stage at [] fine =
      record {
        here = every_none ElementKnown;
        others = every_none AlternativeKnown;
        lines = every_none LineKnown;
      }
  said_known stage at (p ∷ ps) fine =
      let next = follows stage p.kind in
      let mark = (says_from next ps).mark in
      piece_known stage at p.kind p.bytes mark (says_from next ps)
      (λ u m. fine u (Memᴰ·append-left (uses_from next (at + length p.bytes) ps) m))
      (said_known next (at + length p.bytes) ps
      (λ u m. fine u (Memᴰ·append-right (used_by stage at p.kind p.bytes mark) m)))

-- the number of an item that is a name
abbrev named_by : Item → ℕ
named_by (named n) = n
named_by (letter l) = 0
named_by (character b) = 0

item_known : (names : List (List ℕ)) (xs : List Element) (n : ℕ) → Every (ElementKnown names) xs →
    ItemFrom names xs (named n) → n < length names
item_known names xs n known (of_name m k e) = rw (ap named_by e) (number_below names m (known (name m) k))
item_known names xs n known (of_character cs c k j e) =
    true_and_false refl (sym (ap is_named_lem e) ∙ character_not_named c)

pub names_known : (e : Edition) (text : List ℕ) → fault_of e text ≡ Nothing → name_fault_of e text ≡ Nothing →
    Known (lines_of e text)
unfolding name_fault_of uses_of lines_of
names_known e text fine f =
    let names = names_of (lines_of e text) in
    let said = said_known names LineStart 0 (pieces_of e text) (uses_fine names [] (uses_of e text) f) in
    record {
      known = λ b m n k.
          let from = body_from names (lines_of e text) b m in
          item_known names from.alternative n
          (said.lines from.line from.line_is_one from.alternative from.alternative_is_one)
          (item_from names from.alternative (named n)
          (subst (λ (y : Body). List·Memᴰ (named n) y.items) (sym from.is) k));
    }
