-- A certificate of the symbols that are reached from the start, over a test of the generating ones: each symbol of the
-- list comes in by a rule and one before it, and no rule adds to the list. Sound by induction on the list, complete by
-- induction on the derivation. Assumes nothing.
use Rattle.grammar.proofs.Basics.{◌≡◌, ⊎_elim, ◌↔◌, true, false, Bool, ◌&&◌, ◌||◌, false≢true, List, []}
use Rattle.grammar.proofs.Basics.{List·Memᴰ, ℕ, eqb, eqb-true, and_split, or_exact, decided}
use Rattle.grammar.specs.Rule.{Rule, Among, empty, unit, pair}
use Rattle.grammar.specs.Theorems.Inductive.{Generating, Reached}
use Rattle.grammar.proofs.CertificateTests.{every, every_member, some, some_member, implies, implies_exact}
use Rattle.grammar.proofs.CertificateTests.{has_symbol, has_symbol_exact, grounded, grounded_sound}

-- the rule has a head of the list and X in its body, beside a symbol that generates by the test g
abbrev pub brings : (g : ℕ → Bool) → List ℕ → ℕ → Rule → Bool
brings g l X (empty A) = false
brings g l X (unit A Y) = has_symbol l A && eqb X Y
brings g l X (pair A Y Z) = has_symbol l A && (eqb X Y && g Z || eqb X Z && g Y)

-- the symbol is the start, or brought by one before it
abbrev pub brought_by : (rs : List Rule) (S : ℕ) (g : ℕ → Bool) (before : List ℕ) → ℕ → Bool
brought_by rs S g before X = eqb X S || some (brings g before X) rs

-- what a rule brings is there
abbrev pub holds : (g : ℕ → Bool) → List ℕ → Rule → Bool
holds g l (empty A) = true
holds g l (unit A X) = implies (has_symbol l A) (has_symbol l X)
holds g l (pair A X Y) =
    implies (has_symbol l A && g Y) (has_symbol l X) && implies (has_symbol l A && g X) (has_symbol l Y)

-- the whole test
unfoldable pub certified_reached : (rs : List Rule) (S : ℕ) (g : ℕ → Bool) → List ℕ → Bool
unfolding every some has_symbol grounded
certified_reached rs S g l = grounded (brought_by rs S g) [] l && (has_symbol l S && every (holds g l) rs)

module _ (rs : List Rule) (S : ℕ) (g : ℕ → Bool) (exact : (X : ℕ) → (g X ≡ true) ↔ Generating (Among rs) X) where
  brings_sound :
      (l : List ℕ) → ((X : ℕ) → List·Memᴰ X l → Reached (Among rs) S X) → (X : ℕ) (ρ : Rule) → List·Memᴰ ρ rs →
      brings g l X ρ ≡ true →
      Reached (Among rs) S X
  brings_sound l known X (empty A) m h = absurd (false≢true h)
  brings_sound l known X (unit A Y) m h =
      let (above, same) = simp (decided, has_symbol_exact) at h in
      rw same (Reached.by_unit m (known A above))
  brings_sound l known X (pair A Y Z) m h =
      let (above, sides) = simp (and_split, has_symbol_exact, or_exact) at h in
      ⊎_elim
      (λ e. let (same, z) = simp (decided, exact) at e in rw same (Reached.by_left m z (known A above)))
      (λ e. let (same, y) = simp (decided, exact) at e in rw same (Reached.by_right m y (known A above))) sides

  held_complete :
      (l : List ℕ) → has_symbol l S ≡ true → every (holds g l) rs ≡ true → {X : ℕ} → Reached (Among rs) S X →
      has_symbol l X ≡ true
  held_complete l s h Reached.start = s
  held_complete l s h (Reached.by_unit m c) =
      (simp implies_exact at (every_member (holds g l) h m)) (held_complete l s h c)
  held_complete l s h (Reached.by_left m y c) =
      (simp (implies_exact, and_split, exact) at (every_member (holds g l) h m)).0 (held_complete l s h c, y)
  held_complete l s h (Reached.by_right m x c) =
      (simp (implies_exact, and_split, exact) at (every_member (holds g l) h m)).1 (held_complete l s h c, x)

  -- the symbols of a certified list are exactly those reached
  pub certified_reached_lem :
      (l : List ℕ) → certified_reached rs S g l ≡ true → (X : ℕ) → (has_symbol l X ≡ true) ↔ Reached (Among rs) S X
  unfolding certified_reached
  certified_reached_lem l h X =
      let (brought, (start, held)) = simp and_split at h in (
        λ e. grounded_sound (Reached (Among rs) S) (brought_by rs S g)
            (λ before known X e. ⊎_elim
            (λ s. rw (eqb-true X S s) Reached.start)
            (λ b. let (ρ, m, p) = some_member _ rs b in brings_sound before known X ρ m p) (simp or_exact at e))
            l brought X (simp has_symbol_exact at e),
        held_complete l start held,
      )
