-- A visit with fuel above its place's turn is a visit with any such fuel: turns fall from a place to its
-- premises. Assumes nothing.
use Rattle.grammar.proofs.Basics.{◌≡◌, refl, ◌∙◌, ap, cond, List, ◌∷◌, [], List·Memᴰ, List·Memᴰ·head, List·Memᴰ·tail}
use Rattle.grammar.proofs.Basics.{ℕ, ◌<◌, suc, zero, arith}
use Rattle.grammar.specs.Rule.{Rule}
use Rattle.machine.specs.Table.{turn_at_lem}
use Rattle.forms.specs.Listing.{Listed, listing, in_turn, premises, visit, is_listed, depth_bound}
use Rattle.forms.specs.Grounded.{DonePlace, Grounded}

-- visits that agree on the places of a list, made in turn, agree
in_turn_cong :
    (f f' : ℕ → Listed → Listed) (ps : List ℕ) → ((p : ℕ) → List·Memᴰ p ps → (l : Listed) → f p l ≡ f' p l) →
    (l : Listed) → in_turn f ps l ≡ in_turn f' ps l
unfolding in_turn
in_turn_cong f f' [] e l = refl
in_turn_cong f f' (p ∷ ps) e l =
    ap (in_turn f ps) (e p (List·Memᴰ·head refl) l)
    ∙ in_turn_cong f f' ps (λ q m. e q (List·Memᴰ·tail m)) _

module _ {ρs : List Rule} {reasons t : List ℕ} (g : Grounded ρs reasons t) where
  -- fuel above the turn is enough
  pub fuel_enough : (n m p : ℕ) → DonePlace t p → turn_at_lem reasons p < n → turn_at_lem reasons p < m → (l : Listed) →
      visit n ρs reasons p l ≡ visit m ρs reasons p l
  unfolding visit
  fuel_enough zero m p d h k l = absurd (omega arith)
  fuel_enough (suc n) zero p d h k l = absurd (omega arith)
  fuel_enough (suc n) (suc m) p d h k l =
      ap (λ z. cond (is_listed l.table p) l (listing p z))
      (in_turn_cong _ _ _
      (λ q i.
      let low : turn_at_lem reasons q < turn_at_lem reasons p = g.premise_earlier p q d i in
      fuel_enough n m q (g.premise_done p q d i) (omega arith) (omega arith))
      l)

  -- so a visit unfolds to visits with the same fuel
  pub visit_unfolds : (n p : ℕ) → DonePlace t p → turn_at_lem reasons p < n → (l : Listed) →
      visit n ρs reasons p l
      ≡ cond (is_listed l.table p) l (listing p (in_turn (visit n ρs reasons) (premises ρs reasons p) l))
  unfolding visit
  visit_unfolds n p d h = fuel_enough n (suc n) p d h (omega arith)

  -- the bound of the definition is fuel enough
  pub bound_enough : (p : ℕ) → DonePlace t p → turn_at_lem reasons p < depth_bound
  bound_enough p d = omega (arith, g.bounded p d)
