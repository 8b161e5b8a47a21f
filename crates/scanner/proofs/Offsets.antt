-- What begins at an offset of a text, and the bytes between two offsets. Assumes nothing.
use Rattle.grammar.proofs.Basics.{◌≡◌, sym, ◌∙◌, true, false, Bool, List, [], ◌∷◌, ℕ, ◌<◌, ◌≤◌, ◌+◌, ◌-◌, suc, add-one}
use Rattle.grammar.proofs.Basics.{arith, eqb, length, get_or, drop, drop-cons, drop_of_length-le, eqb-true, eqb-false}
use Rattle.grammar.proofs.Basics.{eq-eqb, ne_eqb, cases, true≢false, length-drop}
use Rattle.abnf.specs.Pieces.{begins}
use Rattle.scanner.specs.Parts.{part_of_lem}

-- the order of the two numbers does not matter
pub eqb_swap : (a b : ℕ) → eqb a b ≡ eqb b a
eqb_swap a b =
    cases (eqb a b) (λ e. e ∙ sym (eq-eqb b a (sym (eqb-true a b e))))
    (λ e. e ∙ sym (ne_eqb b a (λ h. eqb-false a b e (sym h))))

module _ (text : List ℕ) (at : ℕ) where
  module _ (h : at < length text) where
    pub here : drop at text ≡ get_or text at 0 ∷ drop (at + 1) text
    here = rw add-one (drop-cons text at 0 h)

    pub begins_here : (p : ℕ → Bool) → p (get_or text at 0) ≡ begins p (drop at text)
    unfolding begins
    begins_here p = rw here

    pub decides_here : (p : ℕ → Bool) (r : Bool) → r ≡ p (get_or text at 0) → r ≡ begins p (drop at text)
    decides_here p r e = e ∙ begins_here p

  pub none_past : (p : ℕ → Bool) → length text ≤ at → false ≡ begins p (drop at text)
  unfolding begins
  none_past p h = rw (drop_of_length-le text h)

  module _ (to : ℕ) (h : at < to) (w : to ≤ length text) where
    pub part_here : part_of_lem text at to ≡ get_or text at 0 ∷ part_of_lem text (at + 1) to
    part_here =
        let l : at < length text = omega arith in
        let n : to - at ≡ suc (to - (at + 1)) = omega arith in
        rw (here l, n)

  pub part_past : (to : ℕ) → to ≤ at → part_of_lem text at to ≡ []
  part_past to h =
      let n : to - at ≡ 0 = omega arith in
      rw n

  pub part_empty : part_of_lem text at at ≡ []
  part_empty = part_past at (omega arith)

-- a text that begins with a byte has one
pub begins_long : (p : ℕ → Bool) (s : List ℕ) → begins p s ≡ true → 1 ≤ length s
unfolding begins
begins_long p [] e = absurd (true≢false (sym e))
begins_long p (b ∷ s) e = omega arith

pub begins_inside : (p : ℕ → Bool) (text : List ℕ) (at : ℕ) → begins p (drop at text) ≡ true → at < length text
begins_inside p text at e = omega (arith, rw length-drop at (begins_long p (drop at text) e))
