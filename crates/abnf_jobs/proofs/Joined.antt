-- Strings joined from what the members of a list say, one after the other: they are joined and taken apart as the
-- lists are. Assumes nothing.
use Rattle.grammar.proofs.Basics.{◌≡◌, refl, ◌∙◌, ap, List, ◌∷◌, [], ◌++◌, append_assoc, ℕ}

pub data Joined {A : Type 0} (Says : A → List ℕ → Type 0) : List A → List ℕ → Type 0 where
  nothing_said : Joined Says [] []
  one_said : {x : A} {u : List ℕ} {xs : List A} {β : List ℕ} → Says x u → Joined Says xs β →
      Joined Says (x ∷ xs) (u ++ β)

-- the string of a list's first members, and that of the rest
pub record Parted {A : Type 0} (Says : A → List ℕ → Type 0) (xs ys : List A) (β : List ℕ) : Type 0 where
  pub first : List ℕ
  pub rest : List ℕ
  pub is : first ++ rest ≡ β
  pub first_said : Joined Says xs first
  pub rest_said : Joined Says ys rest

module _ {A : Type 0} {Says : A → List ℕ → Type 0} where
  pub joined_both : {xs ys : List A} {α β : List ℕ} → Joined Says xs α → Joined Says ys β →
      Joined Says (xs ++ ys) (α ++ β)
  joined_both nothing_said t = t
  joined_both {β} (one_said {u} {β = γ} x s) t = rw (append_assoc u γ β) (one_said x (joined_both s t))

  pub joined_apart : (xs ys : List A) {β : List ℕ} → Joined Says (xs ++ ys) β → Parted Says xs ys β
  joined_apart [] ys {β} s = record { first = []; rest = β; is = refl; first_said = nothing_said; rest_said = s }
  joined_apart (x ∷ xs) ys (one_said {u} i s) =
      let p = joined_apart xs ys s in
      record {
        first = u ++ p.first;
        rest = p.rest;
        is = append_assoc u p.first p.rest ∙ ap (λ β. u ++ β) p.is;
        first_said = one_said i p.first_said;
        rest_said = p.rest_said;
      }
