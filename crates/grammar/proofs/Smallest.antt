-- The closure is the smallest closed set: each way into it is an instance of saturation and the other way round, by
-- cases on the rule. Assumes nothing.
use Rattle.grammar.proofs.Basics.{ℕ, ◌<◌}
use Rattle.grammar.specs.Rule.{Rule, Rules, head, body, empty, unit, pair}
use Rattle.grammar.specs.Automaton.{Transitions, Path, here, along, StatesBelow}
use Rattle.grammar.specs.Closure.{Closed, Closure}

module _ {R : Rules} {D : Transitions} {s : ℕ} where
  pub closure_below : StatesBelow D s → StatesBelow (Closure R D s) s
  closure_below below q X r (Closure.given d) = below q X r d
  closure_below below q X r (Closure.by_empty ρ l) = (l, l)
  closure_below below q X r (Closure.by_unit {X = Y} ρ c) = closure_below below q Y r c
  closure_below below q X r (Closure.by_pair {X = Y} {Y = Z} {m = m} ρ c d) =
      ((closure_below below q Y m c).0, (closure_below below m Z r d).1)

  closure_saturated :
      (ρ : Rule) (q r : ℕ) → R ρ → q < s → Path (Closure R D s) q (body ρ) r → Closure R D s q (head ρ) r
  closure_saturated (empty A) q r ρ l here = Closure.by_empty ρ l
  closure_saturated (unit A X) q r ρ l (along c here) = Closure.by_unit ρ c
  closure_saturated (pair A X Y) q r ρ l (along c (along d here)) = Closure.by_pair ρ c d

  pub closure_closed : Closed R D s (Closure R D s)
  closure_closed = record { given = λ q X r d. Closure.given d; saturated = λ ρ q r m l. closure_saturated ρ q r m l }

  pub closure_least :
      {T : Transitions} → StatesBelow D s → Closed R D s T → (q X r : ℕ) → Closure R D s q X r → T q X r
  closure_least below closed q X r (Closure.given d) = closed.given q X r d
  closure_least below closed q X r (Closure.by_empty {A = A} ρ l) = closed.saturated (empty A) q q ρ l here
  closure_least below closed q X r (Closure.by_unit {A = A} {X = Y} ρ c) =
      closed.saturated (unit A Y) q r ρ (closure_below below q Y r c).0
      (along (closure_least below closed q Y r c) here)
  closure_least below closed q X r (Closure.by_pair {A = A} {X = Y} {Y = Z} {m = m} ρ c d) =
      closed.saturated (pair A Y Z) q r ρ (closure_below below q Y m c).0
      (along (closure_least below closed q Y m c) (along (closure_least below closed m Z r d) here))
