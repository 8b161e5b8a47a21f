-- What the productions carry from body to head, a derivation carries backwards: from the form that it ends in to the
-- form that it starts from. So no equation between two joined strings is ever solved. Assumes nothing.
use Rattle.grammar.proofs.Basics.{⊎_elim, List, ◌∷◌, [], ◌++◌, ℕ}
use Rattle.grammar.specs.Rule.{Productions}
use Rattle.grammar.specs.Derivation.{by_production, Derives, none, more}
use Rattle.grammar.proofs.Strings.{All, cons, all_left, all_right}
use Rattle.grammar.proofs.Strings.{Focus, on, past, focus_append}

-- each production gives its head what its body has
abbrev pub Up : Productions → (List ℕ → Type 0) → (ℕ → Type 0) → Type 0
Up G F P = (A : ℕ) (β : List ℕ) → G A β → F β → P A

-- each production, wherever it is used, carries a property of forms backwards
abbrev pub Carried : Productions → (List ℕ → Type 0) → Type 0
Carried G F = (α : List ℕ) (A : ℕ) (β γ : List ℕ) → G A β → F (α ++ (β ++ γ)) → F (α ++ (A ∷ γ))

-- so does a derivation
pub before_derivation :
    {G : Productions} (F : List ℕ → Type 0) {α β : List ℕ} → Carried G F → Derives G α β → F β → F α
before_derivation F back none f = f
before_derivation F back (more (by_production {A = A} {β = β} α γ p) d) f =
    back α A β γ p (before_derivation F back d f)

module _ {G : Productions} {Q : ℕ → Type 0} (up : Up G (All Q) Q) where
  pub all_before : Carried G (All Q)
  all_before [] A β γ p qs = cons (up A β p (all_left β γ qs)) (all_right β qs)
  all_before (X ∷ α) A β γ p (cons q qs) = cons q (all_before α A β γ p qs)

  pub focus_before : {P : ℕ → Type 0} → Up G (Focus P Q) P → Carried G (Focus P Q)
  focus_before up-focus [] A β γ p f =
      ⊎_elim (λ e. on (up-focus A β p e.0) e.1) (λ e. past (up A β p e.0) e.1) (focus_append β γ f)
  focus_before up-focus (X ∷ α) A β γ p (on x qs) = on x (all_before α A β γ p qs)
  focus_before up-focus (X ∷ α) A β γ p (past q f) = past q (focus_before up-focus α A β γ p f)
