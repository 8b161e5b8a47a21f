-- A test that some member of a list passes. Assumes nothing.
use Rattle.grammar.proofs.Basics.{◌≡◌, refl, subst, ⊎_elim, true, false, Bool, ◌||◌, false≢true, or_left, or_right}
use Rattle.grammar.proofs.Basics.{or_split, List, [], ◌∷◌, List·Memᴰ, List·Memᴰ·head, List·Memᴰ·tail}

module _ {A : Type 0} (test : A → Bool) where
  unfoldable pub some_of : List A → Bool
  some_of [] = false
  some_of (x ∷ xs) = test x || some_of xs

  pub some_member : (xs : List A) → some_of xs ≡ true → (x : A) × List·Memᴰ x xs × (test x ≡ true)
  unfolding some_of
  some_member [] h = absurd (false≢true h)
  some_member (x ∷ xs) h =
      ⊎_elim
      (λ t. (x, List·Memᴰ·head refl, t))
      (λ t. let (y, m, u) = some_member xs t in (y, List·Memᴰ·tail m, u)) (or_split (test x) (some_of xs) h)

  pub member_some : {x : A} {xs : List A} → List·Memᴰ x xs → test x ≡ true → some_of xs ≡ true
  unfolding some_of
  member_some (List·Memᴰ·head {x = y} {xs = ys} e) t = or_left (test y) (some_of ys) (subst (λ z. test z ≡ true) e t)
  member_some (List·Memᴰ·tail {x = y} {xs = ys} m) t = or_right (test y) (some_of ys) (member_some m t)
