-- Laws of the route: the next state is done and can finish, the places filled so far and the route from there on are
-- the whole route, and each of its places is that of a done transition. Assumes nothing.
use Rattle.grammar.proofs.Basics.{◌≡◌, refl, ◌∙◌, ap, ⊎_elim, true, Bool, ◌&&◌, List, ◌∷◌, [], List·Memᴰ, ◌++◌}
use Rattle.grammar.proofs.Basics.{List·Memᴰ·not-nil, List·Memᴰ·cases-cons, append-nil, append_assoc, ℕ, ◌<◌, ◌+◌, suc}
use Rattle.grammar.proofs.Basics.{suc-le-suc, add-one, arith, length, get_or, take, set, drop, length-set, drop-cons}
use Rattle.grammar.proofs.Basics.{drop-length, and_split}
use lib.Seq.{take-suc-set}
use Rattle.machine.specs.Table.{table_place, done_in, statuses, done_at_lem}
use Rattle.machine.proofs.Tables.Places.{place_below}
use Rattle.forms.specs.Acceptance.{can_finish, next_state, route, SymbolsFit}
use Rattle.forms.specs.Grounded.{DonePlace}
use Rattle.machine.proofs.Tables.FirstFrom.{first_passes}
use Rattle.forms.proofs.Searching.{first_of_some}

-- from a state that can finish there is a next state, which is done and can finish
pub next_is : (final : ℕ → Bool) (done : ℕ → ℕ → ℕ → Bool) (X : ℕ) (w : List ℕ) (q : ℕ) →
    can_finish final done (X ∷ w) q ≡ true →
    (next_state final done X w q < 32)
    × (done q X (next_state final done X w q) ≡ true)
    × (can_finish final done w (next_state final done X w q) ≡ true)
unfolding can_finish next_state
next_is final done X w q can =
    let below = first_of_some (λ r. done q X r && can_finish final done w r) 32 can in
    let (now, later) = (and_split _ _).0 (first_passes _ 0 32 below) in
    (below, now, later)

-- the places of the first i transitions are filled, and from the state reached there the rest of the form can finish
pub record RouteFilled (final : ℕ → Bool) (done : ℕ → ℕ → ℕ → Bool) (form places : List ℕ) (q at i : ℕ) : Type 0 where
  pub below : at < 32
  pub room : length places ≡ 64
  pub finishes : can_finish final done (drop i form) at ≡ true
  pub filled : take i places ++ route final done (drop i form) at ≡ route final done form q

module _ {final : ℕ → Bool} {done : ℕ → ℕ → ℕ → Bool} {form places : List ℕ} {q : ℕ} where
  pub route_none : q < 32 → length places ≡ 64 → can_finish final done form q ≡ true →
      RouteFilled final done form places q q 0
  route_none below room can = record { below = below; room = room; finishes = can; filled = refl }

  module _ {at i : ℕ} (so_far : RouteFilled final done form places q at i) where
    -- the next state of the definition
    module _ {r : ℕ} (l : i < length form) (e : r ≡ next_state final done (get_or form i 0) (drop (suc i) form) at) where
      pub next_fits : (r < 32) × (can_finish final done (drop (suc i) form) r ≡ true)
      next_fits =
          let (below, now, later) = next_is _ _ _ _ _ (rw (drop-cons form i 0 l) at so_far.finishes) in
          rw e (below, later)

      -- one transition more
      pub route_more : {p : ℕ} → p ≡ table_place at (get_or form i 0) r → i < length places →
          RouteFilled final done form (set places i p) q r (i + 1)
      unfolding route
      route_more {p} at_place m =
          record {
            below = next_fits.0;
            room = length-set places i p ∙ so_far.room;
            finishes = rw (add-one i) next_fits.1;
            filled = rw (add-one i, take-suc-set places i p m, append_assoc, at_place, e)
                (rw (drop-cons form i 0 l) at so_far.filled);
          }

    pub route_whole : i ≡ length form → take (length form) places ≡ route final done form q
    unfolding route
    route_whole end = rw (end, drop-length form, append-nil) at so_far.filled

-- the route has a place for each symbol, and each is that of a done transition
module _ (final : ℕ → Bool) (t : List ℕ) where
  pub route_length : (w : List ℕ) (q : ℕ) → length (route final (done_at_lem t) w q) ≡ length w
  unfolding route
  route_length [] q = refl
  route_length (X ∷ w) q = ap suc (route_length w _)

  pub route_done : (w : List ℕ) (q : ℕ) → q < 32 → SymbolsFit w → can_finish final (done_at_lem t) w q ≡ true → (p : ℕ) →
      List·Memᴰ p (route final (done_at_lem t) w q) → DonePlace t p
  unfolding route done_in statuses
  route_done [] q l fits can p m = absurd (List·Memᴰ·not-nil m)
  route_done (X ∷ w) q l fits can p m =
      let (below, now, later) = next_is final (done_at_lem t) X w q can in
      ⊎_elim
      (λ e. rw e (record { within = place_below q X _ l (omega (arith, fits 0 (omega arith))) below; is_done_lem' = now }))
      (route_done w _ below (λ i h. fits (suc i) (suc-le-suc h)) later p) (List·Memᴰ·cases-cons m)
