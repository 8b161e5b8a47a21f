-- A derivation keeps what every symbol of its form has, where the symbols of each production's body have it.
-- Assumes nothing.
use Rattle.grammar.proofs.Basics.{List, ◌∷◌, [], ◌++◌, ℕ}
use Rattle.grammar.specs.Rule.{Productions}
use Rattle.grammar.specs.Derivation.{by_production, Derives, none, more}
use Rattle.grammar.proofs.Strings.{All, nil, cons}

module _ {P : ℕ → Type 0} where
  all_both : {α β : List ℕ} → All P α → All P β → All P (α ++ β)
  all_both nil b = b
  all_both (cons p a) b = cons p (all_both a b)

  replaced : (α : List ℕ) (A : ℕ) {β : List ℕ} (γ : List ℕ) → All P β → All P (α ++ (A ∷ γ)) → All P (α ++ (β ++ γ))
  replaced [] A γ b (cons p c) = all_both b c
  replaced (X ∷ α) A γ b (cons p c) = cons p (replaced α A γ b c)

  pub all_after : {G : Productions} → ((A : ℕ) (β : List ℕ) → G A β → All P β) → {α β : List ℕ} → Derives G α β →
      All P α → All P β
  all_after each none a = a
  all_after each (more (by_production {A = A} {β = β} α γ p) d) a =
      all_after each d (replaced α A γ (each A β p) a)
