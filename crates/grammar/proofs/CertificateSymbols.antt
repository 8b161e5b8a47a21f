-- Certificates of the generating symbols: a list in which each symbol comes in by a rule and those before it, and to
-- which no rule adds. Sound by induction on the list, complete by induction on the derivation. Assumes nothing.
use Rattle.grammar.proofs.Basics.{◌≡◌, refl, ⊎_elim, ◌↔◌, inl, true, Bool, ◌&&◌, ◌||◌, List, [], List·Memᴰ, ℕ}
use Rattle.grammar.proofs.Basics.{eqb, and_split, or_exact, decided}
use Rattle.grammar.specs.Symbol.{is_terminal_lem}
use Rattle.grammar.specs.Rule.{Rule, Among, head, body}
use Rattle.grammar.specs.Theorems.Inductive.{Generating}
use Rattle.grammar.proofs.Productive.{generating_rule}
use Rattle.grammar.proofs.CertificateTests.{every, every_member, every_all, some, some_member, implies}
use Rattle.grammar.proofs.CertificateTests.{implies_exact, has_symbol, has_symbol_exact, grounded}
use Rattle.grammar.proofs.CertificateTests.{grounded_sound}

-- a terminal, or a symbol of the list
unfoldable pub generates : List ℕ → ℕ → Bool
unfolding has_symbol
generates l X = let listed : Bool = has_symbol l X in is_terminal_lem X || listed

-- the rule has the head A and a body of symbols that generate
abbrev pub makes : List ℕ → ℕ → Rule → Bool
makes l A ρ = eqb A (head ρ) && every (generates l) (body ρ)

-- a rule whose body generates has a head that does
abbrev pub keeps : List ℕ → Rule → Bool
keeps l ρ = implies (every (generates l) (body ρ)) (generates l (head ρ))

-- the whole test
unfoldable pub certified_generating : (rs : List Rule) → List ℕ → Bool
unfolding every some generates grounded
certified_generating rs l = grounded (λ before X. some (makes before X) rs) [] l && every (keeps l) rs

module _ (rs : List Rule) where
  -- what generates, where the listed symbols do
  listed_generates :
      (l : List ℕ) → ((X : ℕ) → List·Memᴰ X l → Generating (Among rs) X) → (X : ℕ) → generates l X ≡ true →
      Generating (Among rs) X
  unfolding generates
  listed_generates l known X h =
      ⊎_elim
      (λ t. Generating.terminal (simp decided at t))
      (λ m. known X (simp has_symbol_exact at m)) (simp or_exact at h)

  kept_complete : (l : List ℕ) → every (keeps l) rs ≡ true → {X : ℕ} → Generating (Among rs) X → generates l X ≡ true
  unfolding generates every
  kept_complete l h (Generating.terminal t) = simp or_exact (inl (simp decided t))
  kept_complete l h (Generating.by_empty m) = every_member (keeps l) h m
  kept_complete l h (Generating.by_unit m c) =
      (simp (implies_exact, and_split) at (every_member (keeps l) h m)) (kept_complete l h c, refl)
  kept_complete l h (Generating.by_pair m c d) =
      (simp (implies_exact, and_split) at (every_member (keeps l) h m))
      (kept_complete l h c, (kept_complete l h d, refl))

  -- the terminals and the symbols of a certified list are exactly those that generate
  pub certified_generating_lem :
      (l : List ℕ) → certified_generating rs l ≡ true → (X : ℕ) → (generates l X ≡ true) ↔ Generating (Among rs) X
  unfolding certified_generating
  certified_generating_lem l h X =
      let (made, kept) = simp and_split at h in (
        listed_generates l
            (grounded_sound (Generating (Among rs)) (λ before X. some (makes before X) rs)
            (λ before known X e.
            let (ρ, m, both) = some_member _ rs e in
            let (same, generate) = simp decided at both in
            rw same (generating_rule ρ m (every_all _ (listed_generates before known) (body ρ) generate)))
            l made) X,
        kept_complete l kept,
      )
