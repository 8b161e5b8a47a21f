-- How many transitions of a grown table are done. They are within the closure, so their number is at most that of the
-- closure, and equal to it exactly where the table is finished. Assumes nothing.
use Rattle.grammar.proofs.Basics.{◌≡◌, refl, ◌∙◌, sym, true, List, ℕ, ◌<◌, ◌≤◌, arith}
use Rattle.grammar.specs.Rule.{Rule, Among}
use Rattle.grammar.specs.Automaton.{Transitions}
use Rattle.grammar.specs.Closure.{Closure}
use Rattle.grammar.specs.Counting.{HasCount}
use Rattle.grammar.proofs.Counting.{count_monotone, count_equal, has_count_unique}
use Rattle.machine.specs.Table.{table_size, table_place, from_state, symbol_at, to_state, Statuses, is_done_at, done_in}
use Rattle.machine.specs.Step.{is_finished}
use Rattle.machine.specs.Table.{done_count_lem}
use Rattle.machine.proofs.Tables.Places.{place_of_parts, from_state_place, symbol_at_place, to_state_place}
use Rattle.machine.proofs.Tables.RuleRanges.{RulesInRange}
use Rattle.machine.proofs.Growing.Invariant.{Grown, GivenInRange}
use Rattle.machine.proofs.Growing.FinishedIsClosure.{done_sound, all_done_is_finished, closure_done}

-- the place of a transition of the closure
abbrev pub ClosurePlace : List Rule → Transitions → ℕ → ℕ → Type 0
ClosurePlace ρs D s p = Closure (Among ρs) D s (from_state p) (symbol_at p) (to_state p)

module _ {ρs : List Rule} {D : Transitions} {s : ℕ} {v : Statuses} (grown : Grown ρs D s v) where
  -- the laws of done transitions, by places
  done_place_sound : (p : ℕ) → p < table_size → is_done_at v p ≡ true → ClosurePlace ρs D s p
  unfolding done_in
  done_place_sound p l e =
      done_sound grown (from_state p) (symbol_at p) (to_state p) (omega arith) (omega arith) (omega arith)
      (rw place_of_parts e)

  pub closure_count :
      RulesInRange ρs → GivenInRange D s → is_finished v ≡ true → HasCount (ClosurePlace ρs D s) table_size (done_count_lem v)
  unfolding done_count_lem done_in
  closure_count range fits finished =
      record {
        test = is_done_at v;
        sound = done_place_sound;
        complete = λ p l c. rw place_of_parts at
            (closure_done grown range fits finished (from_state p) (symbol_at p) (to_state p) c).3;
        counted = refl;
      }

  module _ {k : ℕ} (counted : HasCount (ClosurePlace ρs D s) table_size k) where
    -- done within the closure
    done_within : (p : ℕ) → p < table_size → is_done_at v p ≡ true → counted.test p ≡ true
    done_within p l e = counted.complete p l (done_place_sound p l e)

    pub done_count_within : done_count_lem v ≤ k
    unfolding done_count_lem
    done_count_within = omega (arith, counted.counted, count_monotone _ _ table_size done_within)

    pub full_count_finished : done_count_lem v ≡ k → is_finished v ≡ true
    unfolding done_count_lem done_in
    full_count_finished e =
        all_done_is_finished grown
        (λ q X r ql xl rl c.
        let l : table_place q X r < table_size = omega arith in
        count_equal _ _ table_size done_within (e ∙ sym counted.counted) _ l
        ∙ counted.complete _ l (rw (from_state_place, symbol_at_place, to_state_place) c))

    pub finished_full_count : RulesInRange ρs → GivenInRange D s → is_finished v ≡ true → done_count_lem v ≡ k
    finished_full_count range fits finished = has_count_unique (closure_count range fits finished) counted
