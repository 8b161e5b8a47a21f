-- The ε transitions that start writes. A loop keeps the first reason that it gets; the rules come in the order of
-- their ranks, so that is the least. Assumes nothing.
use Rattle.grammar.proofs.Basics.{◌≡◌, refl, ◌∙◌, sym, ap₂, ⊎_elim, true, false, Bool, ◌&&◌, cond, ◌||◌, List, ℕ, ◌<◌}
use Rattle.grammar.proofs.Basics.{◌≤◌, arith, eqb, leb, length, set, eq-eqb, ne_eqb, eqb-true, le-leb, leb-true}
use Rattle.grammar.proofs.Basics.{leb-false, cases, and_left, and_right, or_split, or_left, not_true_false}
use Rattle.grammar.proofs.Basics.{true_and_false}
use Rattle.grammar.proofs.Meetings.{Test}
use Rattle.machine.specs.Table.{Lent, lent_of, table_size, reasons_size, given_reason, when, each}
use Rattle.machine.specs.Inside.Offers.{offer_to, add_offer}
use Rattle.machine.proofs.Tables.Layouts.{Layout, bytes, reasons, laid, laid_at, set_laid}
use Rattle.machine.proofs.Offers.Adding.{reason_place_of_lem}
use Rattle.machine.proofs.Starts.StartGiven.{Loops, standing, half, one_if_lem', with_loops}

-- the first of two reasons that is there
abbrev pub earlier : ℕ → ℕ → ℕ
earlier a b = cond (eqb a 0) b a

pub earlier_none : (a : ℕ) → earlier a 0 ≡ a
earlier_none a = cases (eqb a 0) (λ e. rw e (sym (eqb-true a 0 e))) (λ e. rw e)

pub earlier_associates : (a b c : ℕ) → earlier (earlier a b) c ≡ earlier a (earlier b c)
earlier_associates a b c = cases (eqb a 0) (λ e. rw e) (λ e. rw (e, e))

pub earlier_there : (a b : ℕ) → 1 ≤ a → earlier a b ≡ a
earlier_there a b h = rw (ne_eqb a 0 (λ z. omega arith))

-- the byte of a transition that is given or has the reason of a loop
one_if_either : (g b : Bool) → cond g 1 (when b 1) ≡ when (g || b) 1
one_if_either true b = refl
one_if_either false b = refl

module _ (given : Test) (loop : Loops) (A v q : ℕ) where
  -- the loops once that of a variable at a state got a reason
  abbrev pub with_loop : Loops
  with_loop a Y = earlier (loop a Y) (when (eqb a q && eqb A Y) v)

  abbrev is_there : Test
  is_there a Y b = given a Y b || leb 1 (loop a Y)

  -- in the table and in the reasons alike
  module _ (L : Layout) (top : ℕ) (of : ℕ → ℕ) where
    -- nothing changes but at the loop, and there only where it was not there already
    unchanged : (a Y b old : ℕ) → (a ≡ q → Y ≡ A → b ≡ q → is_there a Y b ≡ true) →
        standing top of given with_loop a Y b old ≡ standing top of given loop a Y b old
    unchanged a Y b old there =
        cases (eqb a q && eqb A Y)
        (λ e. cases (eqb a b)
        (λ s.
        let aq = eqb-true a q (and_left _ _ e) in
        ⊎_elim
        (λ g. rw g)
        (λ n. rw (earlier_there _ _ (leb-true 1 _ n)))
        (or_split (given a Y b) _
        (there aq (sym (eqb-true A Y (and_right (eqb a q) _ e))) (sym (eqb-true a b s) ∙ aq))))
        (λ s. rw s))
        (λ e. rw (e, earlier_none))

    half_stays : (l : List ℕ) → is_there q A q ≡ true → half L top of given loop l ≡ half L top of given with_loop l
    half_stays l e i = each (laid L (λ a Y b old. sym (unchanged a Y b old (λ x y z. rw (x, y, z) e)) i)) 0 l

    half_set : (l : List ℕ) (w : ℕ) → L.size ≤ length l → q < 32 → A < L.symbols → is_there q A q ≡ false → of v ≡ w →
        set (half L top of given loop l) (L.at q A q) w ≡ half L top of given with_loop l
    half_set l w long ql al e is =
        let g = not_true_false _ (λ f. true_and_false (or_left (given q A q) _ f) e) in
        let z : loop q A ≡ 0 = omega (arith, leb-false 1 (loop q A) (rw g at e)) in
        set_laid L _ l q A q long ql al ql _ w
        (λ old. rw (g, z, eq-eqb, eq-eqb) is)
        (λ a Y b old d. unchanged a Y b old (λ x y z. absurd (d x y z)))

module _ (m : Lent) (long : table_size ≤ length m.table) (long_reasons : reasons_size ≤ length m.reasons) where
  pub looping_written : (given : Test) (loop : Loops) (A v q : ℕ) → 1 ≤ v → A < 32 → q < 32 →
      add_offer (offer_to q A q v) (with_loops given loop m) ≡ with_loops given (with_loop given loop A v q) m
  unfolding add_offer with_loops
  looping_written given loop A v q h al ql =
      let byte = rw (eq-eqb q q refl, one_if_either) at
      (laid_at bytes (standing 1 one_if_lem' given loop) m.table q A q long ql (omega arith) ql) in
      cases (given q A q || leb 1 (loop q A))
      (λ e. rw (byte, e)
      (ap₂ lent_of (half_stays given loop A v q bytes 1 one_if_lem' m.table e)
      (half_stays given loop A v q reasons given_reason (λ n. n) m.reasons e)))
      (λ e. rw (byte, e, reason_place_of_lem)
      (ap₂ lent_of (half_set given loop A v q bytes 1 one_if_lem' m.table 1 long ql (omega arith) e (rw le-leb))
      (half_set given loop A v q reasons given_reason (λ n. n) m.reasons v long_reasons ql al e refl)))
