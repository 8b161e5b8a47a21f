-- A certificate of the smallest closed set: its transitions, each after those that it comes from. Sound, since each is
-- given or comes by a rule from those before it; complete, since the list is closed under the rules: no body leads to
-- where the head is missing. Assumes nothing.
use Rattle.grammar.proofs.Basics.{◌≡◌, refl, ⊎_elim, ◌↔◌, true, Bool, ◌&&◌, ◌||◌, not, List, ◌∷◌, [], List·Memᴰ}
use Rattle.grammar.proofs.Basics.{Memᴰ·cast, ℕ, ◌<◌, eqb, ltb, eqb-true, not-true, true_and_false}
use Rattle.grammar.proofs.Basics.{not_false_true, or_exact, decided}
use mathlib.Core.Path.{subst₂}
use Rattle.grammar.specs.Rule.{Rule, Among, head, body}
use Rattle.grammar.specs.Automaton.{Transitions, Path, here, along}
use Rattle.grammar.specs.Closure.{Closure}
use Rattle.grammar.specs.Theorems.Examples.{TransitionsOf}
use Rattle.grammar.proofs.Paths.{path_grows}
use Rattle.grammar.proofs.Smallest.{closure_closed, closure_least}
use Rattle.grammar.proofs.CertificateTests.{Triple, every, every_member, every_below, every_below_member, some}
use Rattle.grammar.proofs.CertificateTests.{some_member, member_some, has, has_exact, grounded, grounded_sound}

-- the string leads from q to a state that passes
unfoldable pub finishes : List Triple → (ℕ → Bool) → List ℕ → ℕ → Bool
unfolding some
finishes ts final [] q = final q
finishes ts final (X ∷ w) q =
    some (λ a. let rest : Bool = finishes ts final w a.2 in eqb q a.0 && eqb X a.1 && rest) ts

module _ (ts : List Triple) (final : ℕ → Bool) where
  pub finishes_path : (w : List ℕ) (q : ℕ) → finishes ts final w q ≡ true →
      (r : ℕ) × Path (TransitionsOf ts) q w r × (final r ≡ true)
  unfolding finishes
  finishes_path [] q e = (q, here, e)
  finishes_path (X ∷ w) q e =
      let (a, m, both) = some_member _ ts e in
      let ((from, symbol), rest) = simp decided at both in
      let (r, p, f) = finishes_path w a.2 rest in
      (r, along (Memᴰ·cast (λ i. (from i, symbol i, a.2)) m) p, f)

  pub path_finishes :
      {q r : ℕ} {w : List ℕ} → Path (TransitionsOf ts) q w r → final r ≡ true → finishes ts final w q ≡ true
  unfolding finishes
  path_finishes here e = e
  path_finishes (along t p) e = member_some _ t (simp decided ((refl, refl), path_finishes p e))

-- (q, A, r) is given, or a rule with the head A leads from q to r by those before
abbrev pub comes_in : (rs : List Rule) (gs : List Triple) (s : ℕ) (before : List Triple) → Triple → Bool
comes_in rs gs s before a =
    let by : Rule → Bool =
    λ ρ. let leads : Bool = finishes before (λ r. eqb r a.2) (body ρ) a.0 in eqb (head ρ) a.1 && leads in
    has gs a.0 a.1 a.2 || (ltb a.0 s && some by rs)

-- from no state the body leads to where the head is missing
abbrev pub satisfied : (s : ℕ) (ts : List Triple) → Rule → Bool
satisfied s ts ρ = every_below (λ q. not (finishes ts (λ r. not (has ts q (head ρ) r)) (body ρ) q)) s

-- the given ones have states below s and are there
abbrev pub holds_given : (gs : List Triple) (s : ℕ) (ts : List Triple) → Bool
holds_given gs s ts = every (λ a. ltb a.0 s && ltb a.2 s && has ts a.0 a.1 a.2) gs

-- the whole test of a certificate
unfoldable pub certified : (rs : List Rule) (gs : List Triple) (s : ℕ) → List Triple → Bool
unfolding has every every_below grounded finishes
certified rs gs s ts = grounded (comes_in rs gs s) [] ts && holds_given gs s ts && every (satisfied s ts) rs

-- the given transitions are those of the list
pub record ListedBy (D : Transitions) (gs : List Triple) : Type 0 where
  pub listed : (q X r : ℕ) → D q X r → List·Memᴰ {A = Triple} (q, X, r) gs
  pub meant : (q X r : ℕ) → List·Memᴰ {A = Triple} (q, X, r) gs → D q X r

pub itself : (gs : List Triple) → ListedBy (TransitionsOf gs) gs
itself gs = record { listed = λ q X r m. m; meant = λ q X r m. m }

-- a certified list is exactly the smallest closed set
pub certified_closure :
    (rs : List Rule) (D : Transitions) (gs : List Triple) (s : ℕ) → ListedBy D gs → (ts : List Triple) →
    certified rs gs s ts ≡ true → (q X r : ℕ) → TransitionsOf ts q X r ↔ Closure (Among rs) D s q X r
unfolding certified
certified_closure rs D gs s g ts h q X r =
    let ((sound, given), closed) = simp decided at h in
    let at_given : (q X r : ℕ) → D q X r → ((q < s) × (r < s)) × TransitionsOf ts q X r =
    λ q X r d. simp (decided, has_exact) at (every_member _ given (g.listed q X r d))
    in (
      grounded_sound (λ a. Closure (Among rs) D s a.0 a.1 a.2) (comes_in rs gs s) comes_in_lem ts sound (q, X, r),
      closure_least (λ q X r d. (at_given q X r d).0)
          (record {
            given = λ q X r d. (at_given q X r d).1;
            saturated = λ ρ q r m l. saturated ρ (every_below_member _ s q (every_member _ closed m) l);
          })
          q X r,
    )
  where
    comes_in_lem :
        (before : List Triple) → ((a : Triple) → List·Memᴰ a before → Closure (Among rs) D s a.0 a.1 a.2) →
        (a : Triple) → comes_in rs gs s before a ≡ true → Closure (Among rs) D s a.0 a.1 a.2
    comes_in_lem before known a e =
        ⊎_elim
        (λ e. Closure.given (g.meant a.0 a.1 a.2 (simp has_exact at e)))
        (λ e.
        let (l, by) = simp decided at e in
        let (ρ, m, both) = some_member _ rs by in
        let (same, leads) = simp decided at both in
        let (r, p, end) = finishes_path before _ (body ρ) a.0 leads in
        subst₂ (Closure (Among rs) D s a.0) same (eqb-true r a.2 end)
        (closure_closed.saturated ρ a.0 r m l (path_grows (λ q X r. known (q, X, r)) p)))
        (simp or_exact at e)

    saturated : (ρ : Rule) {q r : ℕ} → not (finishes ts (λ r. not (has ts q (head ρ) r)) (body ρ) q) ≡ true →
        Path (TransitionsOf ts) q (body ρ) r → TransitionsOf ts q (head ρ) r
    saturated ρ {q} {r} none p =
        (has_exact ts q (head ρ) r).0
        (not_false_true (has ts q (head ρ) r) (λ e. true_and_false (path_finishes ts _ p (rw e)) (not-true _ none)))
