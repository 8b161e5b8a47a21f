-- Pieces written one after the other are their sum. Assumes nothing.
use mathlib.Core.Path.{◌≡◌, refl, sym, ap, ◌∙◌}
use Prim.Native.Nat.{ℕ, suc, ◌+◌, ◌≤◌, ◌<◌}
use native.Mathlib.Nat.{add-zero, add-suc, suc-add}
use native.Mathlib.Numerals.{add-one}
use native.Mathlib.Omega.{arith}
use mathlib.Core.List.{List, [], ◌∷◌, ◌++◌}
use lib.ListN.{length, get_or, take, set, length-append}
use lib.Seq.{sets, take-suc}
use Rattle.spelling.specs.declared.page.Page.{Page}
use Rattle.spelling.specs.Lines.{lines}
use Rattle.spelling.specs.Inside.Placed.{Placed}

sets_append : (s t o : List ℕ) (at : ℕ) → sets o at (s ++ t) ≡ sets (sets o at s) (at + length s) t
sets_append [] t o at = ap (λ k. sets o k t) (sym (add-zero at))
sets_append (b ∷ s) t o at =
    sets_append s t (set o at b) (suc at)
    ∙ ap (λ k. sets (sets (set o at b) (suc at) s) k t) (suc-add at (length s) ∙ sym (add-suc at (length s)))

module _ {s : List ℕ} {m : ℕ} {before between : Page} (a : Placed s m before between) where
  -- a piece, then another
  pub then : {t : List ℕ} {n : ℕ} {after : Page} → Placed t n between after → Placed (s ++ t) (m + n) before after
  then {t} b =
      record {
        same = b.same ∙ a.same;
        moved = omega (arith, a.moved, b.moved, length-append s t);
        short = omega (arith, a.short, b.short, length-append s t);
        written = b.written ∙ ap (λ o. sets o between.at t) a.written
            ∙ ap (λ k. sets (sets before.out.now before.at s) k t) a.moved
            ∙ sym (sets_append s t before.out.now before.at);
      }

  -- a piece under a larger bound
  pub within : {n : ℕ} → m ≤ n → Placed s n before between
  within l = record { same = a.same; moved = a.moved; short = omega (arith, a.short); written = a.written }

  -- a piece under its own length
  pub exact : Placed s (length s) before between
  exact = record { same = a.same; moved = a.moved; short = omega arith; written = a.written }

-- nothing
pub nothing : {page : Page} → Placed [] 0 page page
nothing {page} = record { same = refl; moved = sym (add-zero page.at); short = omega arith; written = refl }

-- one byte more of a word
pub byte_more : (word : List ℕ) (i : ℕ) {before between after : Page}
    → i < length word
    → Placed (take i word) i before between
    → Placed (get_or word i 0 ∷ []) 1 between after
    → Placed (take (i + 1) word) (i + 1) before after
byte_more word i l a b = rw (add-one, take-suc word i 0) (rw add-one at (then a b))

-- one line more
pub line_more : (line : ℕ → List ℕ) (x : ℕ) {m n : ℕ} (k : ℕ) {before between after : Page}
    → Placed (lines line x) m before between
    → Placed (line x) n between after
    → m + n ≤ k
    → Placed (lines line (x + 1)) k before after
unfolding lines
line_more line x k a b l = rw add-one (within (then a b) l)
