-- An element and what stands after it: another element, another alternative, or the end of the rule. Assumes nothing.
use Rattle.grammar.proofs.Basics.{ℕ, ◌+◌, ◌≤◌, ◌<◌, List, [], ◌∷◌, ◌++◌, ◌≡◌, refl, ◌∙◌, sym, ap, Bool, true, false}
use Rattle.grammar.proofs.Basics.{cases, ◌⊎◌, inl, inr, length, take, drop, get_or, arith, true≢false, true_and_false}
use Rattle.grammar.proofs.Basics.{not, eqb, add-zero, le_of_lt}
use Rattle.abnf.specs.declared.Edition.{Edition}
use Rattle.abnf.specs.declared.Begun.{Begun}
use Rattle.abnf.specs.declared.PieceKind.{PieceKind}
use Rattle.abnf.specs.declared.PieceKind.TheVariants.{NamePiece, MarkPiece, SlashPiece, BlankPiece, LiteralPiece}
use Rattle.abnf.specs.declared.PieceKind.TheVariants.{CommentPiece, EndPiece, NoPiece}
use Rattle.abnf.specs.declared.Stage.{Stage}
use Rattle.abnf.specs.declared.Stage.TheVariants.{Open, Filled, FilledSpaced, Noted}
use Rattle.abnf.specs.Bytes.{is_alpha_lem, is_wsp_lem, in_name, in_comment}
use Rattle.abnf.specs.Text.{rulename}
use Rattle.abnf.specs.Pieces.{span, begins}
use Rattle.abnf.specs.Reading.{follows, is_outside_lem, element_said}
use Rattle.abnf.proofs.Spans.{counted}
use Rattle.abnf.proofs.Lexed.{lexed_piece}
use Rattle.abnf.proofs.Walks.{PieceText, name_text, mark_text, slash_text, blank_text, literal_text, comment_text}
use Rattle.abnf.proofs.Walks.{end_text}
use Rattle.cursor.specs.declared.After.{After}
use Rattle.cursor.specs.declared.After.TheVariants.{ElementAfter, AlternativeAfter, RuleAfter}
use Rattle.scanner.specs.Parts.{part_of_lem}
use Rattle.cursor.specs.Cursor.{said_after, uses_after, FineAt, FineAfter, ElementBegins, IsLiteral, is_literal}
use Rattle.cursor.specs.Cursor.{IsElement, element_of, uses_in, ElementRead, AfterRead}
use Rattle.cursor.proofs.Stepping.{Found, found_at, finds, Step, step, Same, alike, begun_at, begun, Begins}
use Rattle.cursor.proofs.Stepping.{a_name, a_blank, a_mark, a_slash, a_comment, an_end, a_literal, none}
use Rattle.cursor.proofs.Stepping.{within_text, part_begins}
use Rattle.scanner.proofs.Offsets.{here, begins_inside}
use Rattle.cursor.proofs.HeadLaws.{past_run, behind_run, spaced, opened}

-- after an element, blanks change nothing but that an element may follow them
filled_alike : (e : Edition) (b : ℕ) (s : List ℕ) (q : Begun) → Begins e b s q → is_wsp_lem b ≡ false →
    is_outside_lem (follows Filled q.kind) ≡ false → follows Filled q.kind ≡ follows FilledSpaced q.kind
filled_alike e b s q (a_name h) d a = absurd (true≢false a)
filled_alike e b s q (a_blank h) d a = true_and_false h d
filled_alike e b s q (a_mark h) d a = refl
filled_alike e b s q (a_slash h) d a = refl
filled_alike e b s q (a_comment h) d a = refl
filled_alike e b s q (an_end h n) d a = refl
filled_alike e b s q (a_literal h) d a = absurd (true≢false a)
filled_alike e b s q none d a = refl

-- an element after blanks stands as where one must follow
element_alike : (e : Edition) (b : ℕ) (s : List ℕ) (q : Begun) → Begins e b s q → (b ≡ 47 → ⊥) → (b ≡ 59 → ⊥) →
    (b ≡ 13 → ⊥) → is_outside_lem (follows FilledSpaced q.kind) ≡ false →
    follows FilledSpaced q.kind ≡ follows Open q.kind
element_alike e b s q (a_name h) n47 n59 n13 a = refl
element_alike e b s q (a_blank h) n47 n59 n13 a = absurd (true≢false a)
element_alike e b s q (a_mark h) n47 n59 n13 a = refl
element_alike e b s q (a_slash h) n47 n59 n13 a = absurd (n47 h)
element_alike e b s q (a_comment h) n47 n59 n13 a = absurd (n59 h)
element_alike e b s q (an_end h n) n47 n59 n13 a = absurd (n13 h)
element_alike e b s q (a_literal h) n47 n59 n13 a = refl
element_alike e b s q none n47 n59 n13 a = refl

-- the end of a line: it stands in the text, and after it a line begins
line_end_lem : (e : Edition) (σ : Stage) (text : List ℕ) (at : ℕ) → is_outside_lem (follows σ NoPiece) ≡ true →
    at < length text → get_or text at 0 ≡ 13 → FineAt e σ text at →
    (at + 2 ≤ length text) × Same e text σ at (follows σ EndPiece) (at + 2)
line_end_lem e σ text at o l byte h =
    let st = rw byte at (step e σ text at l h) in
    let size : at + 2 ≡ at + 1 + 1 = omega arith in
    cases (begins (eqb 10) (drop (at + 1) text))
    (λ t.
    let ended = rw t at st in
    let stands = begins_inside (eqb 10) text (at + 1) t in
    (omega arith, rw size (record { fine = ended.fine; found = ended.found })))
    (λ f. true_and_false o (rw f at st).allowed)

noted : (e : Edition) (text : List ℕ) (at : ℕ) {q : Begun} → Begins e (get_or text at 0) (drop (at + 1) text) q →
    is_outside_lem (follows Noted q.kind) ≡ false → get_or text at 0 ≡ 13
noted e text at (a_name h) a = absurd (true≢false a)
noted e text at (a_blank h) a = absurd (true≢false a)
noted e text at (a_mark h) a = absurd (true≢false a)
noted e text at (a_slash h) a = absurd (true≢false a)
noted e text at (a_comment h) a = absurd (true≢false a)
noted e text at (an_end h n) a = h
noted e text at (a_literal h) a = absurd (true≢false a)
noted e text at none a = absurd (true≢false a)

-- what stands after an element that ends at an offset, by the byte after the blanks
abbrev found_after : Edition → After → List ℕ → ℕ → Found
found_after e after text next = record { said = said_after e after text next; uses = uses_after e after text next }

module _ (e : Edition) (text : List ℕ) (end sign : ℕ) (signs : sign ≡ past_run is_wsp_lem text end)
    (h : FineAt e Filled text end) where
  sign_fine : Same e text Filled end FilledSpaced sign
  sign_fine = rw signs (spaced e Filled text end refl refl (filled_alike e) h)

  pub sign_stands : sign < length text
  sign_stands = within_text e FilledSpaced text sign refl sign_fine.fine

  sign_step : Step e FilledSpaced text sign (begun_at e text sign).kind (begun_at e text sign).more
  sign_step = step e FilledSpaced text sign sign_stands sign_fine.fine

  read_after : (a : After) (next : ℕ) → sign ≤ next → next ≤ length text →
      found_at e FilledSpaced text sign ≡ found_after e a text next → FineAfter e a text next → AfterRead e text end a next
  read_after a next order within found fine =
      record {
        order = omega arith;
        within = within;
        says = ap (λ (f : Found). f.said) (sign_fine.found ∙ found);
        uses = ap (λ (f : Found). f.uses) (sign_fine.found ∙ found);
        after = fine;
      }

  pub alternative_after : (next : ℕ) → get_or text sign 0 ≡ 47 → next ≡ past_run is_wsp_lem text (sign + 1) →
      AfterRead e text end AlternativeAfter next
  alternative_after next byte nexts =
      let st : Step e FilledSpaced text sign SlashPiece 0 = rw byte at sign_step in
      let o = rw (← nexts) at (opened e text (sign + 1) (rw (add-zero (sign + 1)) at st.fine)) in
      read_after AlternativeAfter next (omega arith) o.within
      (st.found
      ∙ ap (finds FilledSpaced sign SlashPiece []) (ap (found_at e Open text) (add-zero (sign + 1)) ∙ o.found))
      o.element

  pub comment_after : (note : ℕ) → get_or text sign 0 ≡ 59 → note ≡ past_run in_comment text (sign + 1) →
      AfterRead e text end RuleAfter (note + 2)
  comment_after note byte notes =
      let n = span in_comment (drop (sign + 1) text) in
      let st : Step e FilledSpaced text sign CommentPiece n = rw byte at sign_step in
      let fine : FineAt e Noted text note = rw notes st.fine in
      let l = within_text e Noted text note refl fine in
      let first = begun e (get_or text note 0) (drop (note + 1) text) in
      let cr = noted e text note first (step e Noted text note l fine).allowed in
      let ended = line_end_lem e Noted text note refl l cr fine in
      read_after RuleAfter (note + 2) (omega arith) ended.0
      (st.found ∙ ap (found_at e Noted text) (sym notes) ∙ ended.1.found) ended.1.fine

  pub rule_after : get_or text sign 0 ≡ 13 → AfterRead e text end RuleAfter (sign + 2)
  rule_after byte =
      let ended = line_end_lem e FilledSpaced text sign refl sign_stands byte sign_fine.fine in
      read_after RuleAfter (sign + 2) (omega arith) ended.0 ended.1.found ended.1.fine

  pub element_after : (get_or text sign 0 ≡ 47 → ⊥) → (get_or text sign 0 ≡ 59 → ⊥) → (get_or text sign 0 ≡ 13 → ⊥) →
      AfterRead e text end ElementAfter sign
  element_after n47 n59 n13 =
      let b = get_or text sign 0 in
      let s = drop (sign + 1) text in
      let same = element_alike e b s (begun_at e text sign) (begun e b s) n47 n59 n13 sign_step.allowed in
      let o = alike e FilledSpaced Open text sign sign_stands refl same sign_fine.fine in
      read_after ElementAfter sign (omega arith) (le_of_lt sign_stands) o.found
      (record { inside = sign_stands; fine = o.fine; no_blank = rw signs (behind_run is_wsp_lem text end) })

-- the bytes of a literal, if a piece is one
WhenLiteral : PieceKind → List ℕ → Type 0
WhenLiteral NamePiece s = Unit {0}
WhenLiteral MarkPiece s = Unit {0}
WhenLiteral SlashPiece s = Unit {0}
WhenLiteral BlankPiece s = Unit {0}
WhenLiteral LiteralPiece s = IsLiteral s
WhenLiteral CommentPiece s = Unit {0}
WhenLiteral EndPiece s = Unit {0}
WhenLiteral NoPiece s = Unit {0}

when_literal : {e : Edition} {k : PieceKind} {s : List ℕ} → (k ≡ NoPiece) ⊎ PieceText e k s → WhenLiteral k s
unfolding WhenLiteral
when_literal (inl n) = rw n tt
when_literal (inr (name_text r)) = tt
when_literal (inr (mark_text r)) = tt
when_literal (inr slash_text) = tt
when_literal (inr (blank_text r)) = tt
when_literal (inr (literal_text r)) = is_literal r
when_literal (inr (comment_text r)) = tt
when_literal (inr end_text) = tt

-- an element at an offset before what is found behind it
abbrev element_found : ℕ → Bool → List ℕ → Found → Found
element_found at literal s f =
    record { said = element_said (element_of literal s) f.said; uses = uses_in at literal s ++ f.uses }

-- an element stands at an offset, with n bytes after its first
record ElementStep (e : Edition) (text : List ℕ) (at n : ℕ) : Type 0 where
  bytes : IsElement (not (is_alpha_lem (get_or text at 0))) (get_or text at 0 ∷ take n (drop (at + 1) text))
  fine : FineAt e Filled text (at + 1 + n)
  found :
      found_at e Open text at
      ≡ element_found at (not (is_alpha_lem (get_or text at 0))) (get_or text at 0 ∷ take n (drop (at + 1) text))
      (found_at e Filled text (at + 1 + n))

element_step : (e : Edition) (text : List ℕ) (at : ℕ) {q : Begun} → Begins e (get_or text at 0) (drop (at + 1) text) q →
    WhenLiteral q.kind (get_or text at 0 ∷ take q.more (drop (at + 1) text)) → is_wsp_lem (get_or text at 0) ≡ false →
    Step e Open text at q.kind q.more → ElementStep e text at q.more
unfolding WhenLiteral
element_step e text at (a_name h) w d st =
    record {
      bytes = rw h (rulename h (counted in_name (drop (at + 1) text)));
      fine = st.fine;
      found = rw h st.found;
    }
element_step e text at (a_blank h) w d st = true_and_false h d
element_step e text at (a_mark h) w d st = absurd (true≢false st.allowed)
element_step e text at (a_slash h) w d st = absurd (true≢false st.allowed)
element_step e text at (a_comment h) w d st = absurd (true≢false st.allowed)
element_step e text at (an_end h n) w d st = absurd (true≢false st.allowed)
element_step e text at (a_literal h) w d st = record { bytes = rw h w; fine = st.fine; found = rw h st.found }
element_step e text at none w d st = absurd (true≢false st.allowed)

module _ (e : Edition) (text : List ℕ) (at : ℕ) (h : ElementBegins e text at) where
  stepped : ElementStep e text at (begun_at e text at).more
  unfolding begins
  stepped =
      let b = get_or text at 0 in
      let s = drop (at + 1) text in
      element_step e text at (begun e b s) (when_literal (lexed_piece e b s))
      (rw (here text at h.inside) at h.no_blank) (step e Open text at h.inside h.fine)

  read : (a : After) (next : ℕ) → AfterRead e text (at + 1 + (begun_at e text at).more) a next →
      ElementRead e text at
      (record {
        literal = not (is_alpha_lem (get_or text at 0));
        end = at + 1 + (begun_at e text at).more;
        after = a;
        next = next;
      })
  read a next r =
      let n = (begun_at e text at).more in
      let literal = not (is_alpha_lem (get_or text at 0)) in
      let part = part_begins text at n h.inside in
      let s = part_of_lem text at (at + 1 + n) in
      let first : found_at e Open text at ≡ element_found at literal s (found_at e Filled text (at + 1 + n)) =
      rw part stepped.found in
      record {
        past = omega arith;
        order = r.order;
        within = r.within;
        bytes = rw part stepped.bytes;
        says = ap (λ (f : Found). f.said) first ∙ ap (element_said (element_of literal s)) r.says;
        uses = ap (λ (f : Found). f.uses) first ∙ ap (λ us. uses_in at literal s ++ us) r.uses;
        after = r.after;
      }

  -- by what is known of its first byte and its piece: after it an element has ended; the element itself
  module _ (q : Begun) (is : q ≡ begun_at e text at) where
    pub element_ends : FineAt e Filled text (at + 1 + q.more)
    element_ends = rw is stepped.fine

    pub element_read : (alpha : Bool) (a : After) (next : ℕ) → alpha ≡ is_alpha_lem (get_or text at 0) →
        AfterRead e text (at + 1 + q.more) a next →
        ElementRead e text at (record { literal = not alpha; end = at + 1 + q.more; after = a; next = next })
    element_read alpha a next first r = rw (first, is) (read a next (rw is at r))
