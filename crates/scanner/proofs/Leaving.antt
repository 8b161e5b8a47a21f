-- Where a text leaves the part, piece by piece from an offset on. Assumes nothing.
use Rattle.grammar.proofs.Basics.{◌≡◌, refl, ◌∙◌, sym, true, false, Bool, true_and_false, eqb-true, cond, List, [], ◌∷◌, ℕ, ◌<◌, ◌≤◌}
use Rattle.grammar.proofs.Basics.{◌+◌, arith, length, get_or, take, drop, length-drop, length-take-le, drop_of_length-le}
use Rattle.std.specs.Bool.{◌==◌}
use lib.Seq.{drop-drop}
use Rattle.abnf.specs.declared.Edition.{Edition}
use Rattle.abnf.specs.declared.Begun.{Begun}
use Rattle.abnf.specs.declared.Stage.{Stage}
use Rattle.abnf.specs.declared.Stage.TheVariants.{LineStart}
use Rattle.abnf.specs.declared.Fault.{Fault}
use Rattle.abnf.specs.declared.Fault.TheVariants.{Nothing, At}
use Rattle.abnf.specs.Pieces.{piece_of, pieces_from, pieces_of}
use Rattle.abnf.specs.Reading.{follows, is_line_start_lem, is_outside_lem, fault_from, fault_of}
use Rattle.abnf.proofs.Lexed.{skipped}
use Rattle.scanner.proofs.Offsets.{here}

-- the fault of the text from an offset on
unfoldable pub fault_at : Edition → Stage → List ℕ → ℕ → Fault
fault_at e stage text at = fault_from stage at (pieces_of e (drop at text))

module _ (e : Edition) where
  pub no_text : (text : List ℕ) (none : Bool) → none ≡ (length text == 0) → none ≡ true → At 0 ≡ fault_of e text
  unfolding fault_of
  no_text [] none is t = refl
  no_text (b ∷ s) none is t =
      let n = eqb-true (length (b ∷ s)) 0 (sym is ∙ t) in
      absurd (omega arith)

  pub from_the_start : (text : List ℕ) (none : Bool) → none ≡ (length text == 0) → none ≡ false
      → fault_at e LineStart text 0 ≡ fault_of e text
  unfolding fault_at fault_of
  from_the_start [] none is f = true_and_false is f
  from_the_start (b ∷ s) none is f = refl

module _ (e : Edition) (text : List ℕ) (at : ℕ) (stage : Stage) (same : fault_at e stage text at ≡ fault_of e text) where
  module _ (h : at < length text) (r : Begun) (is : r ≡ piece_of e (get_or text at 0) (drop (at + 1) text))
      (within : at + 1 + r.more ≤ length text) where
    one_piece : fault_at e stage text at
        ≡ cond (is_outside_lem (follows stage r.kind)) (At at)
        (fault_at e (follows stage r.kind) text (at + (1 + r.more)))
    unfolding fault_at fault_from pieces_from
    one_piece =
        let n : at + length (get_or text at 0 ∷ take r.more (drop (at + 1) text)) ≡ at + (1 + r.more) =
        rw (length-take-le r.more (drop (at + 1) text) (rw length-drop (omega arith))) (omega arith) in
        let m : at + 1 + r.more ≡ at + (1 + r.more) = omega arith in
        rw (here text at h, ← is, n, skipped e r.more (drop (at + 1) text), drop-drop r.more (at + 1) text, m)

    module _ (next : Stage) (f : next ≡ follows stage r.kind) (outside : Bool) (o : outside ≡ is_outside_lem next) where
      pub leaves_here : outside ≡ true → At at ≡ fault_of e text
      leaves_here t = sym (one_piece ∙ rw (← f, ← o, t)) ∙ same

      pub goes_on : outside ≡ false → fault_at e next text (at + (1 + r.more)) ≡ fault_of e text
      goes_on t = sym (one_piece ∙ rw (← f, ← o, t)) ∙ same

  module _ (h : length text ≤ at) (done : Bool) (d : done ≡ is_line_start_lem stage) where
    at_the_end : fault_at e stage text at ≡ cond done Nothing (At at)
    unfolding fault_at fault_from pieces_from
    at_the_end = rw (drop_of_length-le text h, d)

    pub in_the_part : done ≡ true → Nothing ≡ fault_of e text
    in_the_part t = sym (at_the_end ∙ rw t) ∙ same

    pub breaks_off : done ≡ false → At at ≡ fault_of e text
    breaks_off t = sym (at_the_end ∙ rw t) ∙ same
