-- What holds of a table while it grows: the given and the ε transitions and the consequents of done ones are there,
-- and nothing is there that is not in the closure. A step keeps it, because a new pair of done transitions has the
-- taken one in it, which the step offers its consequents. Assumes nothing.
use Rattle.grammar.proofs.Basics.{◌≡◌, ◌∙◌, sym, ⊎_elim, true, false, List, ℕ, ◌<◌, ◌≤◌, arith, eqb, length, eq-eqb}
use Rattle.grammar.proofs.Basics.{eqb-true, eqb-false, cases, or_split, or_left, or_right}
use Rattle.grammar.specs.Rule.{Rule, empty, unit, pair, Among}
use Rattle.grammar.specs.Automaton.{Transitions, StatesBelow}
use Rattle.grammar.specs.Closure.{Closure}
use Rattle.machine.specs.Table.{Lent, table_size, table_place, from_state, symbol_at, to_state, Statuses, is_absent_at}
use Rattle.machine.specs.Table.{done_in, statuses}
use Rattle.machine.specs.Step.{offered, done_with}
use Rattle.machine.specs.Advance.{steps}
use Rattle.machine.proofs.Tables.RuleRanges.{RulesInRange}
use Rattle.machine.proofs.Tables.Places.{place_of_parts, from_state_below, symbol_at_below, to_state_below}
use Rattle.machine.proofs.Tables.Statuses.{done_not_absent, pending_not_absent}
use Rattle.machine.proofs.Offers.LeastOffer.{Consequent, by_unit, as_front, as_back, least_offer_fits}
use Rattle.machine.proofs.Offers.LeastOffer.{member_offered, at_rank}
use Rattle.machine.proofs.Steps.Taken.{Taken, taken_done, done_kept, done_others, there_kept, offered_comes}
use Rattle.machine.proofs.Steps.Taken.{comes_from}
use Rattle.machine.proofs.Steps.StepLaws.{steps_keep_said}

-- the transition is pending or done
abbrev pub There : Statuses → Transitions
There v q X r = is_absent_at v (table_place q X r) ≡ false

-- at the states and symbols that there are, what is in T is in U
abbrev pub Within : (T U : Transitions) → Type 0
Within T U = (q X r : ℕ) → q < 32 → X < 64 → r < 32 → T q X r → U q X r

-- the table has grown, by the rules, out of the given transitions D and s states
pub record Grown (ρs : List Rule) (D : Transitions) (s : ℕ) (v : Statuses) : Type 0 where
  pub has_given : Within D (There v)
  pub has_empty : (A q : ℕ) → Among ρs (empty A) → q < 32 → q < s → There v q A q
  pub has_unit : (A X q r : ℕ) → Among ρs (unit A X) → q < 32 → r < 32 → done_in v q X r ≡ true → There v q A r
  pub has_pair : (A X Y q m r : ℕ) → Among ρs (pair A X Y) → q < 32 → m < 32 → r < 32 →
      done_in v q X m ≡ true → done_in v m Y r ≡ true → There v q A r
  pub sound : Within (There v) (Closure (Among ρs) D s)

-- the given transitions and the states are in range
pub record GivenInRange (D : Transitions) (s : ℕ) : Type 0 where
  pub small : s ≤ 32
  pub states : StatesBelow D s
  pub symbols : (q X r : ℕ) → D q X r → X < 64

-- one step, which takes the pending place p
module _ {ρs : List Rule} {v : Statuses} {p : ℕ} {v' : Statuses} (taken : Taken ρs v p v') where
  -- done after the step is taken or done before
  module _ (q X r : ℕ) (ql : q < 32) (xl : X < 64) (rl : r < 32) where
    there_stays : There v q X r → There v' q X r
    there_stays = there_kept taken _ (omega arith)

    done_after_with : done_in v' q X r ≡ true → done_with v p q X r ≡ true
    unfolding done_in
    done_after_with e =
        cases (eqb (table_place q X r) p)
        (or_left (eqb (table_place q X r) p) _)
        (λ f. or_right (eqb (table_place q X r) p) _ (sym (done_others taken _ (omega arith) (eqb-false _ _ f)) ∙ e))

    pub with_done_after : done_with v p q X r ≡ true → done_in v' q X r ≡ true
    unfolding done_in
    with_done_after e =
        ⊎_elim (λ f. rw (eqb-true (table_place q X r) p f) (taken_done taken)) (done_kept taken _ (omega arith))
        (or_split _ _ e)

  pub with_there : (q X r : ℕ) → done_with v p q X r ≡ true → There v q X r
  unfolding done_in
  with_there q X r e =
      ⊎_elim (λ f. rw (eqb-true (table_place q X r) p f) (pending_not_absent (v p) taken.pending)) (done_not_absent (v _))
      (or_split _ _ e)

  -- the taken transition is one of those
  pub taken_with : done_with v p (from_state p) (symbol_at p) (to_state p) ≡ true
  taken_with = or_left _ _ (eq-eqb _ _ (place_of_parts p taken.below))

  -- a consequent of the taken transition is there after the step
  consequent_there : (q X r : ℕ) → X < 64 → r < 32 → table_place q X r ≡ p →
      {ρ : Rule} {a A b middle : ℕ} → Among ρs ρ → a < 32 → A < 32 → b < 32 →
      Consequent (done_with v p) q X r ρ a A b middle → There v' a A b
  unfolding offered
  consequent_there q X r xl rl e {ρ} {a} {A} {b} member al vl bl c =
      let from : from_state p ≡ q = omega arith in
      let symbol : symbol_at p ≡ X = omega arith in
      let to : to_state p ≡ r = omega arith in
      offered_comes taken a A b al (omega arith) bl (rw (from, symbol, to) (member_offered _ q X r 0 member c))

  module _ (D : Transitions) (s : ℕ) (range : RulesInRange ρs) (grown : Grown ρs D s v) where
    with_sound : Within (λ q X r. done_with v p q X r ≡ true) (Closure (Among ρs) D s)
    with_sound q X r ql xl rl e = grown.sound q X r ql xl rl (with_there q X r e)

    -- a consequent of transitions in the closure is in it
    consequent_sound :
        {q X r : ℕ} {ρ : Rule} {a A b middle : ℕ} → q < 32 → r < 32 → Closure (Among ρs) D s q X r → Among ρs ρ →
        a < 32 → b < 32 → Consequent (done_with v p) q X r ρ a A b middle → Closure (Among ρs) D s a A b
    consequent_sound ql rl cl member al bl by_unit = Closure.by_unit member cl
    consequent_sound {q} {X} {r} ql rl cl member al bl (as_front {A = A} {Z = Z} {b = b} d) =
        Closure.by_pair member cl (with_sound r Z b rl (range _ member).2 bl d)
    consequent_sound {q} {X} {r} ql rl cl member al bl (as_back {A = A} {Y = Y} {a = a} d) =
        Closure.by_pair member (with_sound a Y q al (range _ member).1 ql d) cl

    offered_sound : (a A b : ℕ) → a < 32 → b < 32 → 1 ≤ offered ρs v p a A b → Closure (Among ρs) D s a A b
    unfolding offered
    offered_sound a A b al bl o =
        let f = least_offer_fits _ (from_state p) (symbol_at p) (to_state p) 0 ρs (empty 0) a A b o in
        let ql = from_state_below p taken.below in
        let rl = to_state_below p in
        consequent_sound ql rl (with_sound _ _ _ ql (symbol_at_below p) rl taken_with)
        (at_rank ρs f.0 (empty 0) f.2) al bl f.3

    pub taken_grown : Grown ρs D s v'
    taken_grown =
        record {
          has_given = λ q X r ql xl rl d. there_stays q X r ql xl rl (grown.has_given q X r ql xl rl d);
          has_empty = λ A q member ql l.
              let a = range (empty A) member in
              there_stays q A q ql (omega arith) ql (grown.has_empty A q member ql l);
          has_unit = λ A X q r member ql rl e.
              let (al, xl) = range (unit A X) member in
              ⊎_elim
              (λ f. consequent_there q X r xl rl (eqb-true _ _ f) member ql al rl by_unit)
              (λ f. there_stays q A r ql (omega arith) rl (grown.has_unit A X q r member ql rl f))
              (or_split _ _ (done_after_with q X r ql xl rl e));
          has_pair = λ A X Y q n r member ql nl rl e f.
              let (al, xl, yl) = range (pair A X Y) member in
              let e' = done_after_with q X n ql xl nl e in
              let f' = done_after_with n Y r nl yl rl f in
              ⊎_elim
              (λ g. consequent_there q X n xl nl (eqb-true _ _ g) member ql al rl (as_front f'))
              (λ g. ⊎_elim
              (λ h. consequent_there n Y r yl rl (eqb-true _ _ h) member ql al rl (as_back e'))
              (λ h. there_stays q A r ql (omega arith) rl (grown.has_pair A X Y q n r member ql nl rl g h))
              (or_split _ _ f'))
              (or_split _ _ e');
          sound = λ q X r ql xl rl e. ⊎_elim (λ f. with_sound q X r ql xl rl (or_left _ _ (eq-eqb _ _ f)))
              (⊎_elim (grown.sound q X r ql xl rl) (offered_sound q X r ql rl)) (comes_from taken q X r ql xl rl e);
        }

-- so all steps keep it
pub steps_grown :
    (ρs : List Rule) (D : Transitions) (s : ℕ) → RulesInRange ρs → (n : ℕ) (m : Lent) → table_size ≤ length m.table →
    Grown ρs D s (statuses m.table) → Grown ρs D s (statuses (steps ρs n m).table)
steps_grown ρs D s range = steps_keep_said _ ρs (λ v v' p taken grown. taken_grown taken D s range grown)
