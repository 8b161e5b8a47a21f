-- A property that every member of a list has. Assumes nothing.
use Rattle.grammar.proofs.Basics.{sym, subst, ⊎_elim, List, [], ◌∷◌, ◌++◌, List·Memᴰ, List·Memᴰ·head, List·Memᴰ·tail}
use Rattle.grammar.proofs.Basics.{List·Memᴰ·not-nil, List·Memᴰ·append-cases, List·Memᴰ·eq-of-singleton}

abbrev pub Every : {A : Type 0} (P : A → Type 0) → List A → Type 0
Every {A} P xs = (x : A) → List·Memᴰ x xs → P x

module _ {A : Type 0} (P : A → Type 0) where
  pub every_none : Every P []
  every_none x m = absurd (List·Memᴰ·not-nil m)

  pub every_more : {x : A} {xs : List A} → P x → Every P xs → Every P (x ∷ xs)
  every_more p q y (List·Memᴰ·head e) = subst P (sym e) p
  every_more p q y (List·Memᴰ·tail m) = q y m

  pub every_behind : (xs : List A) {x : A} → Every P xs → P x → Every P (xs ++ (x ∷ []))
  every_behind xs q p y m =
      ⊎_elim (q y) (λ k. subst P (sym (List·Memᴰ·eq-of-singleton k)) p) (List·Memᴰ·append-cases xs m)
