-- How a function with an empty body carries a theorem of Type 1, as one about all predicates is. A plain clause is of Type 0;
-- `fact` is the same at any level, but the borrow checker reads facts of Type 0 alone. So the reading of the clause
-- stands here, for any such theorem: nothing is owed for the clause and nothing told by it, as the theorem shows it
-- whatever is held. A proof file gives its function's code and the run that promises nothing. Assumes nothing.
use mathlib.Core.List.{List, []}
use base.Logic.{emp, sep, via, mono_r, id⊢}
use contract.Monad.{fact, fact_i, top}
use contract.Lifetimes.{Lfts}
use contract.Running.{tables}
use denote.Triple.Clauses.{AtExit}
use denote.Triple.Statement.{Triple}
use mir.Syntax.{Fn}
use prog.Routine.{Env, Callee}
use prog.Wp.{Closed, WpFn}
use borrow.Fn.Function.{S}
use borrow.Fn.Kind.{ParamKind, ResultKind}
use borrow.Fn.Kinds.{ended_of, stays, In as InK, Out as OutK, r_unit}
use borrow.Fn.Learn.{no_pin, no_own, no_owns}
use borrow.Fn.Plain.{plain_of}
use borrow.Fn.Read.{Read, no_know}
use borrow.Fn.Run.{Over}
use borrow.Fn.World.{World, Pr, ArgsD, ResD, In}
use borrow.Fn.Written as written

-- no parameters, and no result
abbrev ps : List (ParamKind 0)
ps = []

-- nothing is asked of a caller and nothing promised
abbrev pub Nothing : InK 0 ps
Nothing κs a = Unit {0}

abbrev pub NothingAfter : OutK 0 ps r_unit
NothingAfter κs a z e = Unit {0}

module _ (φ : Type 1) (theorem : φ) where
  abbrev requires : (κs : Lfts 0) → ArgsD (S 0 ps r_unit [] 0) κs → Unit {0} → (w : World) → Pr w
  requires κs a g w = emp w.𝓤

  abbrev ensures : (κs : Lfts 0) → ArgsD (S 0 ps r_unit [] 0) κs → Unit {0} → ResD (S 0 ps r_unit [] 0) κs →
      AtExit (ended_of 0 ps r_unit) κs → (w : World) → Pr w
  ensures κs a g z e w = fact w.𝓤 φ

  abbrev Pinned : (κs : Lfts 0) → ArgsD (S 0 ps r_unit [] 0) κs → World → Type 1
  Pinned κs = no_pin (S 0 ps r_unit [] 0) κs

  abbrev Owned : (κs : Lfts 0) → ResD (S 0 ps r_unit [] 0) κs → AtExit (ended_of 0 ps r_unit) κs → World → Type 1
  Owned κs = no_own (ended_of 0 ps r_unit) κs

  before : (κs : Lfts 0) (a : ArgsD (S 0 ps r_unit [] 0) κs) (g : Unit {0}) →
      Read (In (S 0 ps r_unit [] 0) κs a) no_know (requires κs a g)
  before κs a g =
      record {
        owes = [];
        tells = [];
        wants = [];
        held = λ w. [];
        shown = λ w known owed. id⊢ w.𝓤 (emp w.𝓤);
        used = λ w L Z b wanted step base. base tt;
      }

  after : (κs : Lfts 0) (a : ArgsD (S 0 ps r_unit [] 0) κs) (g : Unit {0}) (z : ResD (S 0 ps r_unit [] 0) κs)
      (e : AtExit (ended_of 0 ps r_unit) κs) →
      Read (written.Base 0 ps r_unit Pinned κs a) (Owned κs z e) (ensures κs a g z e)
  after κs a g z e =
      record {
        owes = [];
        tells = [];
        wants = [];
        held = λ w. [];
        shown = λ w known owed. fact_i w.𝓤 φ (emp w.𝓤) theorem;
        used = λ w L Z b wanted step base.
            via w.𝓤 (sep w.𝓤 L (emp w.𝓤)) (mono_r w.𝓤 L (top w.𝓤 (fact w.𝓤 φ))) (base tt);
      }

  pub carried : (w : World) (γ : Env) (k : Callee) (e : Fn) →
      Closed w.𝓤 w.𝓛.H (tables w.𝓤 w.𝓛.H w.𝓜 w.𝓡 γ).C (tables w.𝓤 w.𝓛.H w.𝓜 w.𝓡 γ).Λ k e →
      Triple w.𝓤
      (WpFn w.𝓤 w.𝓛.H (Over w.𝓛 w.𝓜 w.𝓡 γ).C
      (Over w.𝓛 w.𝓜 w.𝓡 γ).Λ e)
      (plain_of w.𝓛 0 ps r_unit Nothing NothingAfter) →
      written.Holds 0 ps r_unit (Unit {0}) requires ensures w (w.𝓡.run (γ k))
  unfolding before after
  carried w γ k e closed runs =
      written.close 0 ps r_unit (Unit {0}) requires ensures before Pinned Owned after w γ k e closed (λ κs a g. tt)
      (λ κs. no_owns (ended_of 0 ps r_unit) (stays ps) κs w) (λ κs a g z ws fit p q. top w.𝓤 (emp w.𝓤))
      (λ g. runs)
