-- Laws of derivation: it is transitive, and goes on inside any context. Assumes nothing.
use Rattle.grammar.proofs.Basics.{List, ◌∷◌, [], ◌++◌, append-nil, append_assoc, ℕ}
use Rattle.grammar.specs.Rule.{Rule, Rules, head, body, pair, Productions, ProductionsOf, of_rule}
use Rattle.grammar.specs.Derivation.{Step, by_production, Derives, none, more}

module _ {P : Productions} where
  pub derives_trans : {α β γ : List ℕ} → Derives P α β → Derives P β γ → Derives P α γ
  derives_trans none e = e
  derives_trans (more s d) e = more s (derives_trans d e)

  step_context : (γ δ : List ℕ) {α β : List ℕ} → Step P α β → Step P (γ ++ (α ++ δ)) (γ ++ (β ++ δ))
  step_context γ δ (by_production {A = A} {β = β} α ω p) =
      let s : Step P ((γ ++ α) ++ (A ∷ (ω ++ δ))) ((γ ++ α) ++ (β ++ (ω ++ δ))) = by_production (γ ++ α) (ω ++ δ) p in
      simp append_assoc (simp append_assoc at s)

  -- α ⇒* β gives γ α δ ⇒* γ β δ
  pub derives_context : (γ δ : List ℕ) {α β : List ℕ} → Derives P α β → Derives P (γ ++ (α ++ δ)) (γ ++ (β ++ δ))
  derives_context γ δ none = none
  derives_context γ δ (more s d) = more (step_context γ δ s) (derives_context γ δ d)

  -- α ⇒* β and γ ⇒* δ give α γ ⇒* β δ
  pub derives_append : {α β γ δ : List ℕ} → Derives P α β → Derives P γ δ → Derives P (α ++ γ) (β ++ δ)
  derives_append {α} {β} {γ} {δ} d e =
      let f : Derives P (β ++ (γ ++ [])) (β ++ (δ ++ [])) = derives_context β [] e in
      derives_trans (derives_context [] γ d) (simp append-nil at f)

  -- a derivation from a production's head begins with the production
  pub derives_production : {A : ℕ} {β γ : List ℕ} → P A β → Derives P β γ → Derives P (A ∷ []) γ
  derives_production {γ} p d = more {γ = γ} (by_production [] [] p) (rw append-nil d)

  -- S ⇒* w₁ A w₂ and A ⇒* u₁ X u₂ give S ⇒* w₁ u₁ X u₂ w₂
  pub derives_inside : {α : List ℕ} {A : ℕ} (X : ℕ) (w₁ w₂ u₁ u₂ : List ℕ) →
      Derives P α (w₁ ++ (A ∷ w₂)) → Derives P (A ∷ []) (u₁ ++ (X ∷ u₂)) → Derives P α (w₁ ++ u₁ ++ (X ∷ (u₂ ++ w₂)))
  derives_inside X w₁ w₂ u₁ u₂ d e =
      let f = derives_trans d (derives_context w₁ w₂ e) in
      rw append_assoc (rw (append_assoc u₁) at f)

-- and from a rule's head
pub derives_rule : {R : Rules} (ρ : Rule) {β : List ℕ} → R ρ →
    Derives (ProductionsOf R) (body ρ) β → Derives (ProductionsOf R) (head ρ ∷ []) β
derives_rule ρ r d = derives_production (of_rule ρ r) d

-- a pair rule puts a symbol of its body beside what the other one derives
module _ {R : Rules} (A X Y : ℕ) (r : R (pair A X Y)) where
  pub derives_left : {w : List ℕ} → Derives (ProductionsOf R) (Y ∷ []) w → Derives (ProductionsOf R) (A ∷ []) (X ∷ w)
  derives_left d = derives_rule (pair A X Y) r (derives_append {α = X ∷ []} {β = X ∷ []} none d)

  pub derives_right :
      {w : List ℕ} → Derives (ProductionsOf R) (X ∷ []) w → Derives (ProductionsOf R) (A ∷ []) (w ++ (Y ∷ []))
  derives_right d = derives_rule (pair A X Y) r (derives_append {α = X ∷ []} {γ = Y ∷ []} d none)
