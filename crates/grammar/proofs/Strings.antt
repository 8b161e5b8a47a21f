-- Strings all of whose symbols, one of whose symbols, or all but one of whose symbols have a property.
-- Assumes nothing.
use Rattle.grammar.proofs.Basics.{⊎_elim, inl, inr, ◌⊎◌, List, ◌∷◌, [], ◌++◌, ℕ}

-- every symbol of the string is in P
pub data All (P : ℕ → Type 0) : List ℕ → Type 0 where
  nil : All P []
  cons : {X : ℕ} {α : List ℕ} → P X → All P α → All P (X ∷ α)

-- some symbol of the string is in P
pub data Any (P : ℕ → Type 0) : List ℕ → Type 0 where
  here : {X : ℕ} {α : List ℕ} → P X → Any P (X ∷ α)
  there : {X : ℕ} {α : List ℕ} → Any P α → Any P (X ∷ α)

-- one symbol of the string is in P, and all others are in Q
pub data Focus (P Q : ℕ → Type 0) : List ℕ → Type 0 where
  on : {X : ℕ} {α : List ℕ} → P X → All Q α → Focus P Q (X ∷ α)
  past : {X : ℕ} {α : List ℕ} → Q X → Focus P Q α → Focus P Q (X ∷ α)

module _ {P : ℕ → Type 0} where
  pub all_left : (α β : List ℕ) → All P (α ++ β) → All P α
  all_left [] β q = nil
  all_left (X ∷ α) β (cons p ps) = cons p (all_left α β ps)

  pub all_right : (α : List ℕ) {β : List ℕ} → All P (α ++ β) → All P β
  all_right [] q = q
  all_right (X ∷ α) (cons p ps) = all_right α ps

  pub any_left : {α : List ℕ} (β : List ℕ) → Any P α → Any P (α ++ β)
  any_left β (here p) = here p
  any_left β (there a) = there (any_left β a)

  pub any_right : (α : List ℕ) {β : List ℕ} → Any P β → Any P (α ++ β)
  any_right [] a = a
  any_right (X ∷ α) a = there (any_right α a)

  pub any_append : (α : List ℕ) {β : List ℕ} → Any P (α ++ β) → Any P α ⊎ Any P β
  any_append [] a = inr a
  any_append (X ∷ α) (here p) = inl (here p)
  any_append (X ∷ α) (there a) = ⊎_elim (λ b. inl (there b)) inr (any_append α a)

module _ {P Q : ℕ → Type 0} where
  pub focus_at : {α β : List ℕ} (X : ℕ) → All Q α → P X → All Q β → Focus P Q (α ++ (X ∷ β))
  focus_at X nil p qs = on p qs
  focus_at X (cons q qs) p rs = past q (focus_at X qs p rs)

  pub focus_append : (α β : List ℕ) → Focus P Q (α ++ β) → (Focus P Q α × All Q β) ⊎ (All Q α × Focus P Q β)
  focus_append [] β f = inr (nil, f)
  focus_append (X ∷ α) β (on p qs) = inl (on p (all_left α β qs), all_right α qs)
  focus_append (X ∷ α) β (past q f) =
      ⊎_elim (λ e. inl (past q e.0, e.1)) (λ e. inr (cons q e.0, e.1)) (focus_append α β f)
