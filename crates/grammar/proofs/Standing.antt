-- Two sets of productions, P and Q. If each production of P is a derivation by Q, then so is each derivation by P. The
-- other way: let each symbol stand for a string. If for each production A → β of Q what A stands for derives by P what
-- β stands for, then so it is for derivations by Q; proved backwards over a step with the whole form. Assumes nothing.
use Rattle.grammar.proofs.Basics.{◌≡◌, refl, ◌∙◌, sym, ap, List, ◌∷◌, [], ◌++◌, append_assoc, ℕ}
use Rattle.grammar.specs.Rule.{Productions}
use Rattle.grammar.specs.Derivation.{by_production, Derives, none, more}
use Rattle.grammar.proofs.Derivations.{derives_trans, derives_context}
use Rattle.grammar.proofs.Backwards.{Carried, before_derivation}

module _ {P Q : Productions} where
  pub each_derives : ((A : ℕ) (β : List ℕ) → P A β → Derives Q (A ∷ []) β) →
      {α β : List ℕ} → Derives P α β → Derives Q α β
  each_derives f none = none
  each_derives f (more (by_production {A = A} {β = β} α γ p) d) =
      derives_trans (derives_context α γ (f A β p)) (each_derives f d)

-- what a form stands for
unfoldable pub string_of : (ℕ → List ℕ) → List ℕ → List ℕ
string_of σ [] = []
string_of σ (X ∷ α) = σ X ++ string_of σ α

module _ (σ : ℕ → List ℕ) where
  string_append : (α β : List ℕ) → string_of σ (α ++ β) ≡ string_of σ α ++ string_of σ β
  unfolding string_of
  string_append [] β = refl
  string_append (X ∷ α) β = ap (λ γ. σ X ++ γ) (string_append α β) ∙ sym (append_assoc (σ X) (string_of σ α) _)

  string_around : (α : List ℕ) (X : ℕ) (γ : List ℕ) →
      string_of σ (α ++ (X ∷ γ)) ≡ string_of σ α ++ (σ X ++ string_of σ γ)
  unfolding string_of
  string_around α X γ = string_append α (X ∷ γ)

  string_between : (α β γ : List ℕ) →
      string_of σ (α ++ (β ++ γ)) ≡ string_of σ α ++ (string_of σ β ++ string_of σ γ)
  string_between α β γ = string_append α (β ++ γ) ∙ ap (λ δ. string_of σ α ++ δ) (string_append β γ)

  module _ {P Q : Productions} (stands : (A : ℕ) (β : List ℕ) → Q A β → Derives P (σ A) (string_of σ β)) where
    carried : (ω : List ℕ) → Carried Q (λ α. Derives P (string_of σ α) ω)
    carried ω α A β γ q d =
        rw (string_around α A γ)
        (derives_trans (derives_context (string_of σ α) (string_of σ γ) (stands A β q)) (rw (string_between α β γ) at d))

    pub standing_derives : {α ω : List ℕ} → Derives Q α ω → Derives P (string_of σ α) (string_of σ ω)
    standing_derives {ω = ω} d =
        before_derivation (λ α. Derives P (string_of σ α) (string_of σ ω)) (carried (string_of σ ω)) d none
