-- A table that has grown is finished exactly where its done transitions are the closure: with nothing pending, what is
-- there is done, and what is done is closed. Assumes nothing.
use Rattle.grammar.proofs.Basics.{◌≡◌, ◌↔◌, true, false, List, ℕ, ◌<◌, arith, true_and_false, not_true_false}
use Rattle.grammar.specs.Rule.{Rule, empty, unit, pair, Among, head, body}
use Rattle.grammar.specs.Automaton.{Transitions, Path, here, along}
use Rattle.grammar.specs.Closure.{Closure}
use Rattle.grammar.proofs.Smallest.{closure_least}
use Rattle.machine.specs.Table.{table_place, Statuses, is_pending_at, done_in}
use Rattle.machine.specs.Step.{is_finished}
use Rattle.machine.proofs.Tables.Places.{by_parts}
use Rattle.machine.proofs.Tables.Statuses.{done_not_absent, pending_not_absent, pending_not_done, there_done}
use Rattle.machine.proofs.Tables.Lowest.{finished_none_pending, none_pending_finished}
use Rattle.machine.proofs.Tables.RuleRanges.{RulesInRange}
use Rattle.machine.proofs.Growing.Invariant.{Within, Grown, GivenInRange, There}

-- a done transition, at numbers in range
abbrev pub InDone : Statuses → Transitions
InDone v q X r = (q < 32) × (X < 64) × (r < 32) × (done_in v q X r ≡ true)

module _ {ρs : List Rule} {D : Transitions} {s : ℕ} {v : Statuses} (grown : Grown ρs D s v) where
  -- what is done is in the closure
  pub done_sound : Within (λ q X r. done_in v q X r ≡ true) (Closure (Among ρs) D s)
  unfolding done_in
  done_sound q X r ql xl rl e = grown.sound q X r ql xl rl (done_not_absent (v _) e)

  -- where the done transitions are all of the closure, nothing is pending
  pub all_done_is_finished : Within (Closure (Among ρs) D s) (λ q X r. done_in v q X r ≡ true) → is_finished v ≡ true
  unfolding done_in
  all_done_is_finished all =
      none_pending_finished v
      (by_parts
      (λ p. is_pending_at v p ≡ false)
      (λ q X r ql xl rl. not_true_false (is_pending_at v (table_place q X r))
      (λ e. true_and_false (all q X r ql xl rl (grown.sound q X r ql xl rl (pending_not_absent (v (table_place q X r)) e)))
      (pending_not_done (v (table_place q X r)) e))))

  module _ (range : RulesInRange ρs) (fits : GivenInRange D s) (finished : is_finished v ≡ true) where
    there_is_done : Within (There v) (InDone v)
    unfolding done_in
    there_is_done q X r ql xl rl e =
        (ql, xl, rl, there_done (v _) e (finished_none_pending v finished _ (omega arith)))

    done_saturated : (ρ : Rule) (q r : ℕ) → Among ρs ρ → q < s → Path (InDone v) q (body ρ) r → InDone v q (head ρ) r
    done_saturated (empty A) q r member l here =
        let ql : q < 32 = omega (arith, fits.small) in
        there_is_done q A q ql (omega (arith, range (empty A) member)) ql (grown.has_empty A q member ql l)
    done_saturated (unit A X) q r member l (along d here) =
        there_is_done q A r d.0 (omega (arith, (range _ member).0)) d.2
        (grown.has_unit A X q r member d.0 d.2 d.3)
    done_saturated (pair A X Y) q r member l (along {m = n} d (along e here)) =
        there_is_done q A r d.0 (omega (arith, (range _ member).0)) e.2
        (grown.has_pair A X Y q n r member d.0 d.2 e.2 d.3 e.3)

    pub closure_done : (q X r : ℕ) → Closure (Among ρs) D s q X r → InDone v q X r
    closure_done =
        closure_least fits.states
        (record {
          given = λ q X r d.
              let l = fits.states q X r d in
              let ql : q < 32 = omega (arith, fits.small) in
              let rl : r < 32 = omega (arith, fits.small) in
              let xl = fits.symbols q X r d in
              there_is_done q X r ql xl rl (grown.has_given q X r ql xl rl d);
          saturated = done_saturated;
        })

    -- finished: done and in the closure are the same
    pub finished_is_closure :
        (q X r : ℕ) → q < 32 → X < 64 → r < 32 → (done_in v q X r ≡ true) ↔ Closure (Among ρs) D s q X r
    finished_is_closure q X r ql xl rl = (done_sound q X r ql xl rl, λ c. (closure_done q X r c).3)
