-- Blanks before a sign or an element, and the start of a rule: its name, its mark, its first element. Assumes nothing.
use Rattle.grammar.proofs.Basics.{ℕ, ◌+◌, ◌≤◌, ◌<◌, List, ◌∷◌, ◌≡◌, refl, ◌∙◌, sym, ap, ap₂, Bool, true, false, cond}
use Rattle.grammar.proofs.Basics.{cases, ◌⊎◌, inl, inr, ⊎_elim, length, take, drop, get_or, arith, true≢false, ◌||◌}
use Rattle.grammar.proofs.Basics.{true_and_false, eqb, add-zero, le_of_lt, or_left}
use lib.Seq.{drop-drop}
use Rattle.abnf.specs.declared.Edition.{Edition}
use Rattle.abnf.specs.declared.Begun.{Begun}
use Rattle.abnf.specs.declared.Mark.{Mark}
use Rattle.abnf.specs.declared.Mark.TheVariants.{Defines, Adds}
use Rattle.abnf.specs.declared.PieceKind.{PieceKind}
use Rattle.abnf.specs.declared.PieceKind.TheVariants.{NamePiece, MarkPiece, SlashPiece, BlankPiece, LiteralPiece}
use Rattle.abnf.specs.declared.PieceKind.TheVariants.{CommentPiece, EndPiece, NoPiece}
use Rattle.abnf.specs.declared.Stage.{Stage}
use Rattle.abnf.specs.declared.Stage.TheVariants.{LineStart, Named, NamedSpaced, Open, OpenSpaced}
use Rattle.abnf.specs.Bytes.{is_alpha_lem, is_digit_lem, is_wsp_lem, in_name}
use Rattle.abnf.specs.Text.{Rulename, rulename}
use Rattle.abnf.specs.Pieces.{piece_of, piece, span, begins}
use Rattle.abnf.specs.Reading.{follows, is_outside_lem, is_line_start_lem, line_said, mark_said, mark_of}
use Rattle.abnf.specs.Uses.{heads}
use Rattle.abnf.proofs.Spans.{blank_fails, behind_counted, begins_with, counted}
use Rattle.scanner.specs.Parts.{part_of_lem}
use Rattle.cursor.specs.Cursor.{FineAt, ElementBegins, HeadRead}
use Rattle.cursor.proofs.Stepping.{Found, found_at, finds, Step, step, Same, onward, alike, begun_at, begun}
use Rattle.cursor.proofs.Stepping.{Begins, a_name, a_blank, a_mark, a_slash, a_comment, an_end, a_literal}
use Rattle.cursor.proofs.Stepping.{none, within_text, part_begins}
use Rattle.scanner.proofs.Offsets.{here, begins_inside}

-- where the bytes that pass a test end, one after the other from an offset on
abbrev pub past_run : (ℕ → Bool) → List ℕ → ℕ → ℕ
past_run p text at = at + span p (drop at text)

run_on : (p : ℕ → Bool) (text : List ℕ) (at : ℕ) → at < length text → p (get_or text at 0) ≡ true →
    past_run p text at ≡ at + 1 + span p (drop (at + 1) text)
unfolding span
run_on p text at l h = rw (here text at l, h) (omega arith)

run_off : (p : ℕ → Bool) (text : List ℕ) (at : ℕ) → at < length text → p (get_or text at 0) ≡ false →
    past_run p text at ≡ at
unfolding span
run_off p text at l h = rw (here text at l, h) (omega arith)

pub behind_run : (p : ℕ → Bool) (text : List ℕ) (at : ℕ) → begins p (drop (past_run p text at) text) ≡ false
behind_run p text at =
    ap (begins p) (sym (drop-drop (span p (drop at text)) at text)) ∙ behind_counted p (drop at text)

-- blanks lead a stage on, no blanks leave it
blank_begins : (e : Edition) (b : ℕ) (s : List ℕ) → is_wsp_lem b ≡ true → piece_of e b s ≡ piece BlankPiece (span is_wsp_lem s)
blank_begins e b s w = rw (blank_fails is_alpha_lem b w refl refl, w)

past_blanks : (e : Edition) (σ : Stage) (text : List ℕ) (at : ℕ) → at < length text → FineAt e σ text at →
    Same e text σ at (follows σ BlankPiece) (past_run is_wsp_lem text at) ⊎ Same e text σ at σ (past_run is_wsp_lem text at)
past_blanks e σ text at l h =
    cases (is_wsp_lem (get_or text at 0))
    (λ w.
    let st = rw (blank_begins e (get_or text at 0) (drop (at + 1) text) w) at (step e σ text at l h) in
    inl (rw (run_on is_wsp_lem text at l w) (record { fine = st.fine; found = st.found })))
    (λ n. inr (rw (run_off is_wsp_lem text at l n) (record { fine = h; found = refl })))

-- a stage whose pieces other than blanks lead it where they lead after blanks: with or without them it goes on alike
pub spaced : (e : Edition) (σ : Stage) (text : List ℕ) (at : ℕ) → is_line_start_lem σ ≡ false →
    is_line_start_lem (follows σ BlankPiece) ≡ false →
    ((b : ℕ) (s : List ℕ) (q : Begun) → Begins e b s q → is_wsp_lem b ≡ false → is_outside_lem (follows σ q.kind) ≡ false →
    follows σ q.kind ≡ follows (follows σ BlankPiece) q.kind) →
    FineAt e σ text at → Same e text σ at (follows σ BlankPiece) (past_run is_wsp_lem text at)
unfolding begins
spaced e σ text at f g agree h =
    let next = past_run is_wsp_lem text at in
    ⊎_elim
    (λ s. s)
    (λ s.
    let l = within_text e σ text next f s.fine in
    let b = get_or text next 0 in
    let rest = drop (next + 1) text in
    let dark : is_wsp_lem b ≡ false = rw (here text next l) at (behind_run is_wsp_lem text at) in
    let same = agree b rest (begun_at e text next) (begun e b rest) dark (step e σ text next l s.fine).allowed in
    onward s (alike e σ (follows σ BlankPiece) text next l (f ∙ sym g) same s.fine))
    (past_blanks e σ text at (within_text e σ text at f h) h)

-- where an element must follow, blanks change nothing
open_alike : (k : PieceKind) → is_outside_lem (follows OpenSpaced k) ≡ false → follows OpenSpaced k ≡ follows Open k
open_alike NamePiece a = refl
open_alike MarkPiece a = refl
open_alike SlashPiece a = refl
open_alike BlankPiece a = absurd (true≢false a)
open_alike LiteralPiece a = refl
open_alike CommentPiece a = refl
open_alike EndPiece a = refl
open_alike NoPiece a = refl

pub record Opened (e : Edition) (text : List ℕ) (at next : ℕ) : Type 0 where
  pub within : next ≤ length text
  pub found : found_at e Open text at ≡ found_at e Open text next
  pub element : ElementBegins e text next

pub opened : (e : Edition) (text : List ℕ) (at : ℕ) → FineAt e Open text at → Opened e text at (past_run is_wsp_lem text at)
opened e text at h =
    let next = past_run is_wsp_lem text at in
    let s : Same e text Open at Open next =
    ⊎_elim
    (λ s.
    let l = within_text e OpenSpaced text next refl s.fine in
    let same = open_alike (begun_at e text next).kind (step e OpenSpaced text next l s.fine).allowed in
    onward s (alike e OpenSpaced Open text next l refl same s.fine))
    (λ s. s)
    (past_blanks e Open text at (within_text e Open text at refl h) h) in
    let l = within_text e Open text next refl s.fine in
    record {
      within = le_of_lt l;
      found = s.found;
      element = record { inside = l; fine = s.fine; no_blank = behind_run is_wsp_lem text at };
    }

-- a line begins with a name
named : (e : Edition) (text : List ℕ) (at : ℕ) {q : Begun} → Begins e (get_or text at 0) (drop (at + 1) text) q →
    Step e LineStart text at q.kind q.more →
    (is_alpha_lem (get_or text at 0) ≡ true) × Step e LineStart text at NamePiece (span in_name (drop (at + 1) text))
named e text at (a_name h) st = (h, st)
named e text at (a_blank h) st = absurd (true≢false st.allowed)
named e text at (a_mark h) st = absurd (true≢false st.allowed)
named e text at (a_slash h) st = absurd (true≢false st.allowed)
named e text at (a_comment h) st = absurd (true≢false st.allowed)
named e text at (an_end h n) st = absurd (true≢false st.allowed)
named e text at (a_literal h) st = absurd (true≢false st.allowed)
named e text at none st = absurd (true≢false st.allowed)

-- after the name and blanks stands the mark
marked : (e : Edition) (text : List ℕ) (at : ℕ) {q : Begun} → Begins e (get_or text at 0) (drop (at + 1) text) q →
    Step e NamedSpaced text at q.kind q.more →
    Step e NamedSpaced text at MarkPiece (cond (begins (eqb 47) (drop (at + 1) text)) 1 0)
marked e text at (a_name h) st = absurd (true≢false st.allowed)
marked e text at (a_blank h) st = absurd (true≢false st.allowed)
marked e text at (a_mark h) st = st
marked e text at (a_slash h) st = absurd (true≢false st.allowed)
marked e text at (a_comment h) st = absurd (true≢false st.allowed)
marked e text at (an_end h n) st = absurd (true≢false st.allowed)
marked e text at (a_literal h) st = absurd (true≢false st.allowed)
marked e text at none st = absurd (true≢false st.allowed)

named_alike : (e : Edition) (b : ℕ) (s : List ℕ) (q : Begun) → Begins e b s q → is_wsp_lem b ≡ false →
    is_outside_lem (follows Named q.kind) ≡ false → follows Named q.kind ≡ follows NamedSpaced q.kind
named_alike e b s q (a_name h) d a = refl
named_alike e b s q (a_blank h) d a = true_and_false h d
named_alike e b s q (a_mark h) d a = refl
named_alike e b s q (a_slash h) d a = refl
named_alike e b s q (a_comment h) d a = refl
named_alike e b s q (an_end h n) d a = refl
named_alike e b s q (a_literal h) d a = refl
named_alike e b s q none d a = refl

-- a rule's name and mark before what is found behind them
abbrev head_found : ℕ → List ℕ → Mark → Found → Found
head_found at n m f = record { said = line_said n (mark_said m f.said); uses = heads at n m ∷ f.uses }

-- the start of a rule up to where its elements begin, after a mark with m bytes after its first
record Begun-rule (e : Edition) (text : List ℕ) (at end sign m : ℕ) : Type 0 where
  past : at < end
  order : end ≤ sign
  stands : sign < length text
  name : Rulename (part_of_lem text at end)
  fine : FineAt e Open text (sign + 1 + m)
  found :
      found_at e LineStart text at
      ≡ head_found at (part_of_lem text at end) (mark_of (get_or text sign 0 ∷ take m (drop (sign + 1) text)))
      (found_at e Open text (sign + 1 + m))

module _ (e : Edition) (text : List ℕ) (at end sign : ℕ) (l : at < length text) (h : FineAt e LineStart text at)
    (ends : end ≡ past_run in_name text at) (signs : sign ≡ past_run is_wsp_lem text end) where
  rule_begins : Begun-rule e text at end sign (cond (begins (eqb 47) (drop (sign + 1) text)) 1 0)
  rule_begins =
      let b = get_or text at 0 in
      let rest = drop (at + 1) text in
      let first = named e text at (begun e b rest) (step e LineStart text at l h) in
      let in_name_lem : in_name b ≡ true =
      or_left (is_alpha_lem b || is_digit_lem b) (eqb b 45) (or_left (is_alpha_lem b) (is_digit_lem b) first.0) in
      let size : end ≡ at + 1 + span in_name rest = ends ∙ run_on in_name text at l in_name_lem in
      let part : part_of_lem text at end ≡ b ∷ take (span in_name rest) rest =
      rw size (part_begins text at (span in_name rest) l) in
      let s = spaced e Named text end refl refl (named_alike e) (rw size first.1.fine) in
      let fine : FineAt e NamedSpaced text sign = rw signs s.fine in
      let stands = within_text e NamedSpaced text sign refl fine in
      let m = marked e text sign (begun e (get_or text sign 0) (drop (sign + 1) text))
      (step e NamedSpaced text sign stands fine) in
      record {
        past = omega arith;
        order = omega arith;
        stands = stands;
        name = rw part (rulename first.0 (counted in_name rest));
        fine = m.fine;
        found =
            rw part
            (first.1.found
            ∙ ap (finds LineStart at NamePiece (b ∷ take (span in_name rest) rest))
            (ap (found_at e Named text) (sym size) ∙ s.found ∙ ap (found_at e NamedSpaced text) (sym signs)
            ∙ m.found));
      }

  pub past_mark : sign + 1 ≤ length text
  past_mark = omega (arith, rule_begins.stands)

  -- the whole start, with a mark of m bytes after its first
  head_read : (m : ℕ) (mark : Mark) (body : ℕ) → cond (begins (eqb 47) (drop (sign + 1) text)) 1 0 ≡ m →
      mark_of (get_or text sign 0 ∷ take m (drop (sign + 1) text)) ≡ mark → body ≡ past_run is_wsp_lem text (sign + 1 + m) →
      HeadRead e text at (record { end = end; mark = mark; body = body })
  head_read m mark body size marks bodies =
      let r = rw size at rule_begins in
      let o = rw (← bodies) at (opened e text (sign + 1 + m) r.fine) in
      let found = r.found ∙ ap₂ (head_found at (part_of_lem text at end)) marks o.found in
      record {
        past = r.past;
        order = omega (arith, r.order);
        within = o.within;
        name = r.name;
        says = ap (λ (f : Found). f.said) found;
        uses = ap (λ (f : Found). f.uses) found;
        element = o.element;
      }

  -- it adds or defines as a test for the slash says
  module _ (slash : Bool) (slashes : slash ≡ begins (eqb 47) (drop (sign + 1) text)) where
    pub past_slash : slash ≡ true → sign + 1 + 1 ≤ length text
    past_slash t = omega (arith, begins_inside (eqb 47) text (sign + 1) (sym slashes ∙ t))

    pub adds_read : (body : ℕ) → slash ≡ true → body ≡ past_run is_wsp_lem text (sign + 1 + 1) →
        HeadRead e text at (record { end = end; mark = Adds; body = body })
    adds_read body t =
        head_read 1 Adds body (rw (sym slashes ∙ t))
        (ap (λ s. mark_of (get_or text sign 0 ∷ s)) (begins_with 47 (drop (sign + 1) text) (sym slashes ∙ t)))

    pub defines_read : (body : ℕ) → slash ≡ false → body ≡ past_run is_wsp_lem text (sign + 1) →
        HeadRead e text at (record { end = end; mark = Defines; body = body })
    defines_read body f bodies = head_read 0 Defines body (rw (sym slashes ∙ f)) refl (rw (add-zero (sign + 1)) bodies)
