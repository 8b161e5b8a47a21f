-- The numbers of a value: digits and dots at an offset, and a number that is above FF stays so. Assumes nothing.
use Rattle.grammar.proofs.Basics.{◌≡◌, refl, ◌∙◌, sym, true, false, ◌&&◌, ◌||◌, cond, true_and_false, cases}
use Rattle.grammar.proofs.Basics.{List, [], ◌∷◌, ℕ, ◌<◌, ◌≤◌, ◌+◌, ◌*◌, arith, eqb, leb, length, get_or, drop}
use Rattle.grammar.proofs.Basics.{le-leb, lt-leb, eq-eqb, ne_eqb, leb-true, leb-false, drop_of_length-le}
use lib.Seq.{drop-drop}
use Rattle.abnf.specs.Bytes.{is_hexdig, digit_value_lem}
use Rattle.abnf.specs.Pieces.{begins, range_after, is_range_lem, fit, values_from}
use Rattle.scanner.specs.Parts.{part_of_lem, dotted_at}
use Rattle.std.specs.List.{prefix_len}
use Rattle.scanner.proofs.Stretches.{span_prefix}
use Rattle.scanner.proofs.Offsets.{eqb_swap, here, part_here, part_past}

-- the value so far after one byte more
abbrev pub pushed_by : ℕ → ℕ → ℕ
pushed_by b v = cond (eqb b 46) 0 (16 * v + digit_value_lem b)

-- a byte and the one after it, and a dash where digits end
dotted_first : (s : List ℕ) → (begins is_hexdig s || (begins (eqb 46) s && begins is_hexdig (drop 1 s))) ≡ dotted_at s
unfolding begins
dotted_first [] = refl
dotted_first (b ∷ s) = rw (eqb_swap 46 b)

range_first : (s : List ℕ) → (begins (eqb 45) s && begins is_hexdig (drop 1 s)) ≡ range_after s
unfolding begins
range_first [] = refl
range_first (b ∷ s) = rw (eqb_swap 45 b)

pub dotted_here : (text : List ℕ) (at : ℕ) → dotted_at (drop at text)
    ≡ (begins is_hexdig (drop at text) || (begins (eqb 46) (drop at text) && begins is_hexdig (drop (at + 1) text)))
dotted_here text at = sym (rw (← drop-drop 1 at text) (dotted_first (drop at text)))

pub range_here : (text : List ℕ) (end : ℕ) → end ≡ prefix_len is_hexdig text
    → is_range_lem text ≡ (begins (eqb 45) (drop end text) && begins is_hexdig (drop (end + 1) text))
range_here text end n = sym (rw (← drop-drop 1 end text, n, span_prefix) (range_first _))

-- a value above FF stays so
unfit : (v : ℕ) (s : List ℕ) → 255 < v → fit (values_from v s) ≡ false
unfolding fit values_from
unfit v [] h = rw (lt-leb v 255 h)
unfit v (b ∷ s) h =
    cases (eqb b 46) (λ e. rw (e, lt-leb v 255 h)) (λ e. rw e (unfit (16 * v + digit_value_lem b) s (omega arith)))

pub fit_small : (v : ℕ) (s : List ℕ) → fit (values_from v s) ≡ true → v ≤ 255
fit_small v s e = cases (leb v 255) (leb-true v 255) (λ n. true_and_false e (unfit v s (leb-false v 255 n)))

-- the numbers between two offsets, one byte after the other
module _ (text : List ℕ) (at to : ℕ) where
  module _ (h : at < to) (w : to ≤ length text) (v : ℕ) where
    pub dot_here : get_or text at 0 ≡ 46 → values_from v (part_of_lem text at to) ≡ v ∷ values_from 0 (part_of_lem text (at + 1) to)
    unfolding values_from
    dot_here e = rw (part_here text at to h w, eq-eqb _ _ e)

    pub digit_here : (get_or text at 0 ≡ 46 → ⊥) → (d : ℕ) → d ≡ digit_value_lem (get_or text at 0)
        → values_from v (part_of_lem text at to) ≡ values_from (16 * v + d) (part_of_lem text (at + 1) to)
    unfolding values_from
    digit_here n d e = rw (part_here text at to h w, ne_eqb _ _ n, e)

-- a walk over the bytes of numbers that has come to `at` with the value v: what is left fits just if all do
module _ (s : List ℕ) (at v : ℕ) (small : v ≤ 255) (same : fit (values_from v (drop at s)) ≡ fit (values_from 0 s)) where
  module _ (h : at < length s) (u : ℕ) (is : u ≡ pushed_by (get_or s at 0) v) where
    fit_here : fit (values_from v (drop at s)) ≡ fit (values_from u (drop (at + 1) s))
    unfolding fit values_from
    fit_here =
        cases (eqb (get_or s at 0) 46) (λ d. rw (here s at h, is, d, le-leb v 255 small)) (λ d. rw (here s at h, is, d))

    pub fits_on : fit (values_from u (drop (at + 1) s)) ≡ fit (values_from 0 s)
    fits_on = sym fit_here ∙ same

    pub too_large : 255 < u → false ≡ fit (values_from 0 s)
    too_large l = sym (unfit u _ l) ∙ fits_on

  pub all_fit : length s ≤ at → true ≡ fit (values_from 0 s)
  unfolding fit values_from
  all_fit l = sym (rw (drop_of_length-le s l, le-leb v 255 small)) ∙ same

-- a walk over the numbers between two offsets that has come to `at` with the value v
module _ (text : List ℕ) (from to at : ℕ) (w : to ≤ length text) (v : ℕ) where
  module _ (same : values_from 0 (part_of_lem text from to) ≡ values_from v (part_of_lem text at to)) where
    module _ (h : at < to) where
      pub first_ends : get_or text at 0 ≡ 46
          → values_from 0 (part_of_lem text from to) ≡ v ∷ values_from 0 (part_of_lem text (at + 1) to)
      first_ends e = same ∙ dot_here text at to h w v e

      pub first_on : (get_or text at 0 ≡ 46 → ⊥) → (d : ℕ) → d ≡ digit_value_lem (get_or text at 0)
          → values_from 0 (part_of_lem text from to) ≡ values_from (16 * v + d) (part_of_lem text (at + 1) to)
      first_on n d e = same ∙ digit_here text at to h w v n d e

      pub first_small : fit (values_from 0 (part_of_lem text from to)) ≡ true → (get_or text at 0 ≡ 46 → ⊥) → (d : ℕ)
          → d ≡ digit_value_lem (get_or text at 0) → 16 * v + d ≤ 255
      first_small f n d e = fit_small _ _ (rw (first_on n d e) at f)

    pub first_alone : to ≤ at → values_from 0 (part_of_lem text from to) ≡ v ∷ []
    unfolding values_from
    first_alone h = same ∙ rw (part_past text at to h)
