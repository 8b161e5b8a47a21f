-- Whether a form can finish, and its route, depend on the final states below 32 and on the done transitions with the
-- form's symbols between states below 32 alone. Assumes nothing.
use Rattle.grammar.proofs.Basics.{◌≡◌, refl, ap, ap₂, true, Bool, ◌&&◌, List, ◌∷◌, [], ℕ, ◌<◌, suc, suc-le-suc, arith}
use Rattle.grammar.proofs.Some.{some_cong}
use Rattle.grammar.proofs.Meetings.{AgreeBelow}
use Rattle.machine.specs.Table.{table_place, statuses, done_in, done_at_lem}
use Rattle.machine.proofs.Steps.FirstPart.{done_agree}
use Rattle.machine.proofs.Tables.FirstFrom.{first_cong}
use Rattle.bit_machine.specs.BitTable.{bit_statuses}
use Rattle.forms.specs.Acceptance.{SymbolsFit, can_finish, next_state, route}
use Rattle.forms.specs.Inside.AcceptanceParts.{AgreeOn}
use Rattle.forms.specs.Inside.ExplainParts.{BitsSay}
use Rattle.forms.proofs.Routes.{next_is}

-- two tests of transitions agree on a form's symbols where they agree on all
pub agree_on : (done done' : ℕ → ℕ → ℕ → Bool) (form : List ℕ) → AgreeBelow (λ X. X < 64) 32 done done' →
    SymbolsFit form → AgreeOn done done' form
agree_on done done' form agree fit i q r l from to = agree q _ r from (omega (arith, fit i l)) to

-- and so do a bit table and a byte table that say the same
pub bits_agree : (bits t form : List ℕ) → BitsSay bits t → SymbolsFit form →
    AgreeOn (done_in (bit_statuses bits)) (done_at_lem t) form
bits_agree bits t form same fit =
    agree_on (done_in (bit_statuses bits)) (done_at_lem t) form (done_agree (bit_statuses bits) (statuses t) same) fit

module _ (final final' : ℕ → Bool) (ends : (q : ℕ) → q < 32 → final q ≡ final' q) (done done' : ℕ → ℕ → ℕ → Bool) where
  pub finish_agree : (w : List ℕ) → AgreeOn done done' w → (q : ℕ) → q < 32 →
      can_finish final done w q ≡ can_finish final' done' w q
  unfolding can_finish
  finish_agree [] agree q l = ends q l
  finish_agree (X ∷ w) agree q l =
      some_cong _ _ 32
      (λ r k. ap₂ ◌&&◌ (agree 0 q r (omega arith) l k)
      (finish_agree w (λ i s t h. agree (suc i) s t (suc-le-suc h)) r k))

  next_agree : (X : ℕ) (w : List ℕ) → AgreeOn done done' (X ∷ w) → (q : ℕ) → q < 32 →
      next_state final done X w q ≡ next_state final' done' X w q
  unfolding next_state
  next_agree X w agree q l =
      first_cong _ _ 0 32
      (λ r k. ap₂ ◌&&◌ (agree 0 q r (omega arith) l (omega arith))
      (finish_agree w (λ i s t h. agree (suc i) s t (suc-le-suc h)) r (omega arith)))

  -- a state from which the form can finish has a next one below 32
  pub route_agree : (w : List ℕ) → AgreeOn done done' w → (q : ℕ) → q < 32 → can_finish final done w q ≡ true →
      route final done w q ≡ route final' done' w q
  unfolding route
  route_agree [] agree q l can = refl
  route_agree (X ∷ w) agree q l can =
      let (below, now, later) = next_is final done X w q can in
      rw (← next_agree X w agree q l)
      (ap (λ rest. table_place q X (next_state final done X w q) ∷ rest)
      (route_agree w (λ i s t h. agree (suc i) s t (suc-le-suc h)) _ below later))
