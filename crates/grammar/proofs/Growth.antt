-- A grammar grows if and only if its language is infinite, and if and only if its useful rules have a cycle that
-- grows. Three steps in a ring: what stands around a symbol can be repeated; a string that is long enough has a tree
-- with such a cycle; and the cycle puts terminals beside a symbol. Assumes nothing.
use Rattle.grammar.proofs.Basics.{⊎_elim, ◌↔◌, inl, inr, ◌⊎◌, List, ◌∷◌, [], List·Memᴰ, ◌++◌}
use Rattle.grammar.proofs.Basics.{List·Memᴰ·head, List·Memᴰ·tail, append-nil, ℕ, ◌<◌, ◌≤◌, ◌+◌, suc, zero}
use Rattle.grammar.proofs.Basics.{add-one, arith, length, length-append}
use Rattle.grammar.specs.Symbol.{Terminals}
use Rattle.grammar.specs.Rule.{Rule, Rules, Among, ProductionsOf, head, pair}
use Rattle.grammar.specs.Derivation.{Derives, none}
use Rattle.grammar.specs.Useful.{Productive, InContext, Useful, AllUseful, UsefulRules}
use Rattle.grammar.specs.Growing.{Growing}
use Rattle.grammar.specs.Language.{Language, Infinite, Finite}
use Rattle.grammar.specs.Theorems.Inductive.{Reached, Leads, LeadsToTerminal, GrowingCycle}
use Rattle.grammar.proofs.Derivations.{derives_trans, derives_context, derives_inside, derives_left}
use Rattle.grammar.proofs.Derivations.{derives_right}
use Rattle.grammar.proofs.Productive.{terminals_append}
use Rattle.grammar.proofs.UsefulIsBoth.{useful_both}
use Rattle.grammar.proofs.Graph.{leads_in_context}
use Rattle.grammar.proofs.Trees.{derives_tree, useful_tree}
use Rattle.grammar.proofs.Slim.{bound, tree_short}
use Rattle.grammar.proofs.Words.{strings, strings_has, lengths, lengths_bound}

-- A derives a terminal string of at least n symbols
abbrev Derived : Rules → (A n : ℕ) → Type 0
Derived R A n = (w : List ℕ) × Terminals w × Derives (ProductionsOf R) (A ∷ []) w × (n ≤ length w)

-- A derives X between terminal strings of at least n symbols together
abbrev Around : Rules → (A X n : ℕ) → Type 0
Around R A X n =
    (p : List ℕ) × (q : List ℕ) × Terminals p × Terminals q ×
    Derives (ProductionsOf R) (A ∷ []) (p ++ (X ∷ q)) × (n ≤ length (p ++ q))

module _ {R : Rules} where
  in_context_around : {A X : ℕ} → InContext R A X → Around R A X 0
  unfolding InContext
  in_context_around c = (c.0, c.1, c.2, c.3, c.4, omega arith)

  around_trans : {A B X m n : ℕ} → Around R A B m → Around R B X n → Around R A X (m + n)
  around_trans {X = X} (p, q, tp, tq, d, l) (u, v, tu, tv, e, k) = (
    p ++ u,
    v ++ q,
    terminals_append p u tp tu,
    terminals_append v q tv tq,
    derives_inside X p q u v d e,
    simp length-append (omega (arith, simp length-append at l, simp length-append at k)),
  )

  -- a string in the place of the symbol
  around_derived : {A X m n : ℕ} → Around R A X m → Derived R X n → Derived R A (m + n)
  around_derived (p, q, tp, tq, d, l) (w, tw, e, k) = (
    p ++ (w ++ q),
    terminals_append p (w ++ q) tp (terminals_append w q tw tq),
    derives_trans d (derives_context p q e),
    simp length-append (omega (arith, simp length-append at l, k)),
  )

  -- a string beside the symbol, by a pair rule
  around_left : (A X Y : ℕ) {n : ℕ} → R (pair A X Y) → Derived R Y n → Around R A X n
  unfolding Terminals
  around_left A X Y r (w, t, d, l) = ([], w, tt, t, derives_left A X Y r d, l)

  around_right : (A X Y : ℕ) {n : ℕ} → R (pair A X Y) → Derived R X n → Around R A Y n
  unfolding Terminals
  around_right A X Y r (w, t, d, l) = (w, [], t, tt, derives_right A X Y r d, rw append-nil l)

  -- n times around
  around_times : {X : ℕ} → Around R X X 1 → (n : ℕ) → Around R X X n
  unfolding Terminals
  around_times c zero = ([], [], tt, tt, none, omega arith)
  around_times {X} c (suc n) =
      let next : Around R X X (n + 1) = around_trans (around_times c n) c in
      rw add-one at next

module _ (R : Rules) (S : ℕ) where
  -- what stands around the symbol, as often as it takes to pass all strings of a list
  pub growing_infinite : Growing R S → Infinite R S
  unfolding Growing Infinite Productive
  growing_infinite (X, u, v, useful, tu, tv, d, l) ws =
      let (p, c) = useful_both R S X useful in
      let n = suc (lengths ws) in
      let (w, t, e, k) =
      around_derived {n = 0} (around_trans (in_context_around c) (around_times (u, v, tu, tv, d, l) n))
      (p.0, p.1, p.2, omega arith) in
      (w, (t, e), λ m. omega (arith, lengths_bound m, k))

  leads_around : {A X : ℕ} → Leads (UsefulRules R S) A X → Around R A X 0
  leads_around l = in_context_around (leads_in_context R S l)

  leads_derived : {X : ℕ} → LeadsToTerminal (UsefulRules R S) X → Derived R X 1
  unfolding Terminals
  leads_derived (a, t, l) = around_derived {n = 1} (leads_around l) (a ∷ [], (t, tt), none, omega arith)

  around_grows : {A : ℕ} → Useful R S A → Around R A A 1 → Growing R S
  unfolding Growing
  around_grows {A} u (p, q, tp, tq, d, l) = (A, p, q, u, tp, tq, d, l)

  pub cycle_grows : GrowingCycle (UsefulRules R S) → Growing R S
  unfolding AllUseful
  cycle_grows (A, X, Y, r, inl (l, t)) =
      around_grows r.1.0 (around_trans (around_left A X Y r.0 (leads_derived t)) (leads_around l))
  cycle_grows (A, X, Y, r, inr (l, t)) =
      around_grows r.1.0 (around_trans (around_right A X Y r.0 (leads_derived t)) (leads_around l))

  -- a string of the language is short, or shows a cycle
  module _ (n : ℕ) (heads : (ρ : Rule) → R ρ → head ρ < n) where
    language_short : {w : List ℕ} → Language R S w → GrowingCycle (UsefulRules R S) ⊎ List·Memᴰ w (strings (bound n))
    language_short {w} (t, d) =
        ⊎_elim inl
        (λ l. inr (strings_has (bound n) w t l))
        (tree_short n (λ ρ r. heads ρ r.0) (useful_tree Reached.start (derives_tree w t d)))

    infinite_cycle : Infinite R S → GrowingCycle (UsefulRules R S)
    unfolding Infinite
    infinite_cycle i =
        let (w, language, out) = i (strings (bound n)) in
        ⊎_elim (λ c. c) (λ m. absurd (out m)) (language_short language)

    not_growing_finite : (Growing R S → ⊥) → Finite R S
    unfolding Finite
    not_growing_finite not =
        (strings (bound n), λ w l. ⊎_elim (λ c. absurd (not (cycle_grows c))) (λ m. m) (language_short l))

-- a number above the heads of all rules of a list
unfoldable above : List Rule → ℕ
above [] = 0
above (ρ ∷ ρs) = suc (head ρ + above ρs)

above_heads : (rs : List Rule) (ρ : Rule) → Among rs ρ → head ρ < above rs
unfolding above
above_heads (σ ∷ σs) ρ (List·Memᴰ·head e) = rw e (omega arith)
above_heads (σ ∷ σs) ρ (List·Memᴰ·tail m) = omega (arith, above_heads σs ρ m)
above_heads [] ρ x' = elim x' [ ]

module _ (rs : List Rule) (S : ℕ) where
  pub growing_is_cycle_lem : Growing (Among rs) S ↔ GrowingCycle (UsefulRules (Among rs) S)
  growing_is_cycle_lem = (
    λ g. infinite_cycle (Among rs) S (above rs) (above_heads rs) (growing_infinite (Among rs) S g),
    cycle_grows (Among rs) S,
  )

  pub growing_is_infinite_lem : Growing (Among rs) S ↔ Infinite (Among rs) S
  growing_is_infinite_lem = (
    growing_infinite (Among rs) S,
    λ i. cycle_grows (Among rs) S (infinite_cycle (Among rs) S (above rs) (above_heads rs) i),
  )

  pub not_growing_is_finite_lem : (Growing (Among rs) S → ⊥) ↔ Finite (Among rs) S
  unfolding Infinite Finite
  not_growing_is_finite_lem = (
    not_growing_finite (Among rs) S (above rs) (above_heads rs),
    λ f g. let (w, language, out) = growing_infinite (Among rs) S g f.0 in out (f.1 w language),
  )
