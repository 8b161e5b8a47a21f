-- Counting from an offset on while a test of what is left holds: the bytes of a class, the digits and dots of a value.
-- Assumes nothing.
use Rattle.grammar.proofs.Basics.{◌≡◌, refl, ◌∙◌, true, false, Bool, cond, List, [], ◌∷◌, ℕ, ◌<◌, ◌≤◌, ◌+◌, suc, arith}
use Rattle.grammar.proofs.Basics.{length, ◌-◌, take, drop, drop_of_length-le, cases, not, not-true, not-false}
use Rattle.std.specs.List.{prefix_len}
use Rattle.std.proofs.lemmas.List.{take_rest}
use Rattle.abnf.specs.Pieces.{span, begins, dotted}
use Rattle.scanner.specs.Parts.{dotted_at}
use Rattle.scanner.proofs.Offsets.{here}

-- a count of the bytes at which a test of the text from there on holds, up to the first at which it does not
pub record Counts (test : List ℕ → Bool) (count : List ℕ → ℕ) : Type 0 where
  pub none : count [] ≡ 0
  pub one : (b : ℕ) (s : List ℕ) → count (b ∷ s) ≡ cond (test (b ∷ s)) (suc (count s)) 0

pub span_counts : (p : ℕ → Bool) → Counts (begins p) (span p)
unfolding begins span
span_counts p = record { none = refl; one = λ b s. refl }

pub dotted_counts : Counts dotted_at dotted
unfolding dotted
dotted_counts = record { none = refl; one = λ b s. refl }

module _ {test : List ℕ → Bool} {count : List ℕ → ℕ} (counts : Counts test count) where
  pub count_within : (s : List ℕ) → count s ≤ length s
  count_within [] = omega (arith, counts.none)
  count_within (b ∷ s) =
      cases (test (b ∷ s)) (λ e. rw (counts.one b s, e) (omega (arith, count_within s)))
      (λ e. rw (counts.one b s, e) (omega arith))

  -- a walk that has come to an offset, and what is left to count comes to the whole
  module _ (text : List ℕ) (at : ℕ) (same : at + count (drop at text) ≡ count text) where
    pub at_the_end : length text ≤ at → at ≡ count text
    at_the_end h =
        let n : count (drop at text) ≡ 0 = rw (drop_of_length-le text h) counts.none in
        omega arith

    module _ (h : at < length text) (goes : Bool) (is : goes ≡ test (drop at text)) where
      unfolded : count (drop at text) ≡ cond goes (suc (count (drop (at + 1) text))) 0
      unfolded = rw (is, here text at h) (counts.one _ _)

      pub stops : not goes ≡ true → at ≡ count text
      stops e =
          let n : count (drop at text) ≡ 0 = unfolded ∙ rw (not-true goes e) in
          omega arith

      pub goes_on : not goes ≡ false → at + 1 + count (drop (at + 1) text) ≡ count text
      goes_on e =
          let n : count (drop at text) ≡ suc (count (drop (at + 1) text)) = unfolded ∙ rw (not-false goes e) in
          omega arith

-- the library counts a stretch by another name
pub span_prefix : (p : ℕ → Bool) (s : List ℕ) → span p s ≡ prefix_len p s
unfolding span
span_prefix p [] = refl
span_prefix p (b ∷ s) = cases (p b) (λ e. rw e (omega (arith, span_prefix p s))) (λ e. rw e)

pub stretch_from : (p : ℕ → Bool) (text : List ℕ) (from n : ℕ) → n ≡ prefix_len p (take (length text - from) (drop from text))
    → from + n ≡ from + span p (drop from text)
stretch_from p text from n e = rw (span_prefix, e, take_rest)
