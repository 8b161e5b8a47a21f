-- Where the done transitions are the closure, a path of done transitions along a form is a path of the closure, and
-- so a derivation into the given automaton. Assumes nothing.
use Rattle.grammar.proofs.Basics.{◌≡◌, ◌↔◌, true, Bool, List, ℕ, ◌<◌, ◌≤◌, suc, arith}
use Rattle.grammar.specs.Automaton.{Holds, StatesBelow, Path, here, along}
use Rattle.grammar.proofs.PreStar.{path_derives, derives_path}
use Rattle.grammar.proofs.Smallest.{closure_below}
use Rattle.job.specs.Job.{Job}
use Rattle.machine.specs.Smallest.{Smallest, DecidesSmallest}
use Rattle.forms.specs.Acceptance.{SymbolsFit, is_accepted_lem, DerivesGiven}
use Rattle.forms.specs.Theorems.AcceptanceTheorems.{Done}
use Rattle.forms.proofs.FinishPaths.{finish_path, path_finish}

module _ (J : Job) (done : ℕ → ℕ → ℕ → Bool) (few : J.states ≤ 32)
    (Given-below : StatesBelow (Holds J.given) J.states) (start : J.initial < J.states)
    (smallest : DecidesSmallest J done) where
  done_to_closure : {q r : ℕ} {w : List ℕ} → SymbolsFit w → Path (Done done) q w r → Path (Smallest J) q w r
  done_to_closure fit here = here
  done_to_closure fit (along {q = q} {X = X} {m = m} {w = w} d p) =
      along ((smallest q X m d.0 (omega (arith, fit 0 (omega arith))) d.1).0 d.2)
      (done_to_closure (λ i l. fit (suc i) (omega arith)) p)

  closure_to_done : {q r : ℕ} {w : List ℕ} → SymbolsFit w → Path (Smallest J) q w r → Path (Done done) q w r
  closure_to_done fit here = here
  closure_to_done fit (along {q = q} {X = X} {m = m} {w = w} c p) =
      let below = closure_below Given-below q X m c in
      let from : q < 32 = omega (arith, below.0, few) in
      let to : m < 32 = omega (arith, below.1, few) in
      along (from, to, (smallest q X m from (omega (arith, fit 0 (omega arith))) to).1 c)
      (closure_to_done (λ i l. fit (suc i) (omega arith)) p)

  pub accepted_is_derived :
      (w : List ℕ) → SymbolsFit w → (is_accepted_lem J.final done J.initial w ≡ true) ↔ DerivesGiven J w
  accepted_is_derived w fit = (
    λ e.
        let p = finish_path J.final done w J.initial (omega (arith, start, few)) e in
        let d = path_derives (done_to_closure fit p.1) in
        (d.0, p.0, d.1, d.2, p.2),
    λ d. path_finish J.final done (closure_to_done fit (derives_path Given-below start d.2 d.3)) d.4,
  )
