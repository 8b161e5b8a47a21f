-- The route takes at each symbol the lowest next state that can finish; any accepting sequence takes one that can
-- finish, so no lower one. Assumes nothing.
use Rattle.grammar.proofs.Basics.{◌≡◌, refl, true, Bool, List, ◌∷◌, [], map, ℕ, ◌<◌, ◌≤◌, arith, ltb, ltb-false}
use Rattle.grammar.proofs.Basics.{ltb-true, cases, and_both}
use Rattle.machine.specs.Table.{table_place, to_state}
use Rattle.forms.specs.Acceptance.{can_finish, next_state, route}
use Rattle.forms.specs.Theorems.AcceptanceTheorems.{Done, Accepting, ends, follows, LexAtMost, none, lower}
use Rattle.forms.specs.Theorems.AcceptanceTheorems.{later, FirstAccepting, places_along}
use Rattle.machine.proofs.Tables.FirstFrom.{first_least}
use Rattle.forms.proofs.Routes.{next_is}
use Rattle.forms.proofs.FinishPaths.{finish_before}

module _ (final : ℕ → Bool) (done : ℕ → ℕ → ℕ → Bool) where
  -- the states of the route
  next_states : List ℕ → ℕ → List ℕ
  next_states [] q = []
  next_states (X ∷ w) q = next_state final done X w q ∷ next_states w (next_state final done X w q)

  route_states :
      (w : List ℕ) (q : ℕ) → can_finish final done w q ≡ true → map to_state (route final done w q) ≡ next_states w q
  unfolding route next_states
  route_states [] q e = refl
  route_states (X ∷ w) q e =
      let (below, now, rest) = next_is final done X w q e in
      let last : to_state (table_place q X (next_state final done X w q)) ≡ next_state final done X w q = omega arith in
      rw (last, route_states w _ rest)

  route_places : (w : List ℕ) (q : ℕ) → route final done w q ≡ places_along q w (next_states w q)
  unfolding route next_states places_along
  route_places [] q = refl
  route_places (X ∷ w) q = rw (route_places w (next_state final done X w q))

  -- they are an accepting sequence
  states_accepting :
      (w : List ℕ) (q : ℕ) → q < 32 → can_finish final done w q ≡ true → Accepting final done w q (next_states w q)
  unfolding can_finish next_states
  states_accepting [] q l e = ends e
  states_accepting (X ∷ w) q l e =
      let (below, now, rest) = next_is final done X w q e in
      follows (l, below, now) (states_accepting w _ below rest)

  accepting_finish :
      {w : List ℕ} {q : ℕ} {states : List ℕ} → Accepting final done w q states → can_finish final done w q ≡ true
  unfolding can_finish
  accepting_finish (ends e) = e
  accepting_finish (follows {q = q} {X = X} {r = r} {w = w} d a) =
      finish_before final done X w q r d (accepting_finish a)

  next_lowest : (X : ℕ) (w : List ℕ) (q r : ℕ) → Done done q X r → can_finish final done w r ≡ true →
      next_state final done X w q ≤ r
  unfolding next_state
  next_lowest X w q r d e = first_least _ 0 32 r (omega arith) d.1 (and_both _ _ d.2 e)

  -- and no accepting sequence comes before
  states_first :
      {w : List ℕ} {q : ℕ} {states : List ℕ} → Accepting final done w q states → LexAtMost (next_states w q) states
  unfolding next_states
  states_first (ends e) = none
  states_first (follows {q = q} {X = X} {r = r} {w = w} {states = states} d a) =
      let least : next_state final done X w q ≤ r = next_lowest X w q r d (accepting_finish a) in
      cases (ltb (next_state final done X w q) r)
      (λ c. lower (ltb-true _ r c))
      (λ c.
      let same : next_state final done X w q ≡ r = omega (arith, ltb-false _ r c) in
      rw same (later (states_first a)))

  pub route_first : (w : List ℕ) (q : ℕ) → q < 32 → can_finish final done w q ≡ true →
      FirstAccepting final done w q (map to_state (route final done w q))
      × (route final done w q ≡ places_along q w (map to_state (route final done w q)))
  route_first w q l e =
      rw (route_states w q e)
      (record { accepting = states_accepting w q l e; first = λ others a. states_first a }, route_places w q)
