-- Certificates that the useful rules have a cycle that grows, by the cycle and a way from its other symbol to a
-- terminal; and that they have none, by a list of the variables that lead to a terminal and a rank of the symbols that
-- no useful rule raises, and that a pair rule lowers beside a symbol that leads to one. Both over a test of the useful
-- symbols. Assumes nothing.
use Rattle.grammar.proofs.Basics.{◌≡◌, refl, ⊎_elim, inl, inr, true, false, Bool, ◌&&◌, ◌||◌, false≢true, List}
use Rattle.grammar.proofs.Basics.{◌∷◌, [], List·Memᴰ, List·Memᴰ·head, List·Memᴰ·tail, ℕ, ◌<◌, ◌≤◌, arith, eqb}
use Rattle.grammar.proofs.Basics.{ltb, leb, eqb-true, and_split, or_exact, decided}
use Rattle.grammar.specs.Symbol.{is_terminal_lem}
use Rattle.grammar.specs.Rule.{Rule, Rules, Among, head, body, empty, unit, pair}
use Rattle.grammar.specs.Useful.{Useful, AllUseful, UsefulRules}
use Rattle.grammar.specs.Theorems.Inductive.{Leads, LeadsToTerminal, GrowingCycle}
use Rattle.grammar.proofs.Graph.{leads_trans}
use Rattle.grammar.proofs.CertificateTests.{every, every_member, some, some_member, implies, implies_exact}
use Rattle.grammar.proofs.CertificateTests.{has_symbol, has_symbol_exact}
use Rattle.grammar.proofs.CertificateSymbols.{generates}

-- all symbols of the rule pass
abbrev pub all_pass : (ℕ → Bool) → Rule → Bool
all_pass u ρ = every u (head ρ ∷ body ρ)

-- no: from A to X the rank does not rise; beside Y, where that leads to a terminal by the test, it falls, and A leads
-- to one too
abbrev pub lowers_beside : (full : ℕ → Bool) (rank : ℕ → ℕ) (A X Y : ℕ) → Bool
lowers_beside full rank A X Y = leb (rank X) (rank A) && implies (full Y) (full A && ltb (rank X) (rank A))

abbrev pub lowers : (full : ℕ → Bool) (rank : ℕ → ℕ) → Rule → Bool
lowers full rank (empty A) = true
lowers full rank (unit A X) = leb (rank X) (rank A) && implies (full X) (full A)
lowers full rank (pair A X Y) = lowers_beside full rank A X Y && lowers_beside full rank A Y X

-- the listed variables and the terminals are taken to lead to a terminal
unfoldable pub certified_rank : (u : ℕ → Bool) (rs : List Rule) (full : List ℕ) (rank : ℕ → ℕ) → Bool
unfolding every generates
certified_rank u rs full rank = every (λ ρ. implies (all_pass u ρ) (lowers (generates full) rank ρ)) rs

-- yes: the rule leads from X to Z
abbrev pub leads : (X Z : ℕ) → Rule → Bool
leads X Z ρ = eqb X (head ρ) && has_symbol (body ρ) Z

-- by useful rules from X over the symbols of the list to one that passes a test
unfoldable pub leads_by : (u : ℕ → Bool) (rs : List Rule) (goal : ℕ → Bool) (X : ℕ) → List ℕ → Bool
unfolding every some has_symbol
leads_by u rs goal X [] = goal X
leads_by u rs goal X (Z ∷ zs) = some (λ ρ. all_pass u ρ && leads X Z ρ) rs && leads_by u rs goal Z zs

-- the pair rule of A with X and Y, in either order
abbrev pub pair_of : (A X Y : ℕ) → Rule → Bool
pair_of A X Y (empty B) = false
pair_of A X Y (unit B U) = false
pair_of A X Y (pair B U W) = eqb B A && (eqb U X && eqb W Y || eqb U Y && eqb W X)

-- a useful one, from X over a list back to A, and from Y over a list to a terminal
unfoldable pub certified_cycle : (u : ℕ → Bool) (rs : List Rule) (A X : ℕ) → List ℕ → (Y : ℕ) → List ℕ → Bool
unfolding every some has_symbol leads_by
certified_cycle u rs A X zs Y ys =
    some (λ ρ. all_pass u ρ && pair_of A X Y ρ) rs
    && (leads_by u rs (λ Z. eqb Z A) X zs && leads_by u rs is_terminal_lem Y ys)

module _ (u : ℕ → Bool) (rs : List Rule) (S : ℕ) (complete : (X : ℕ) → Useful (Among rs) S X → u X ≡ true)
    (full : List ℕ) (rank : ℕ → ℕ) (h : certified_rank u rs full rank ≡ true) where
  all_useful_pass : (α : List ℕ) → AllUseful (Among rs) S α → every u α ≡ true
  unfolding AllUseful every
  all_useful_pass [] a = refl
  all_useful_pass (X ∷ α) a = simp and_split (complete X a.0, all_useful_pass α a.1)

  ranked : (ρ : Rule) → UsefulRules (Among rs) S ρ → lowers (generates full) rank ρ ≡ true
  unfolding certified_rank
  ranked ρ r = (simp implies_exact at (every_member _ h r.0)) (all_useful_pass (head ρ ∷ body ρ) r.1)

  -- what a pair rule does to the rank of a symbol of its body, and of the other
  beside_ranked : (A X Y : ℕ) → lowers_beside (generates full) rank A X Y ≡ true →
      (rank X ≤ rank A) × (generates full Y ≡ true → (generates full A ≡ true) × (rank X < rank A))
  beside_ranked A X Y e = simp (decided, implies_exact) at e

  pair_ranked : (A X Y : ℕ) → UsefulRules (Among rs) S (pair A X Y) →
      (lowers_beside (generates full) rank A X Y ≡ true) × (lowers_beside (generates full) rank A Y X ≡ true)
  pair_ranked A X Y r = (and_split _ _).0 (ranked (pair A X Y) r)

  leads_down : {A Z : ℕ} → Leads (UsefulRules (Among rs) S) A Z → rank Z ≤ rank A
  leads_down Leads.here = omega arith
  leads_down (Leads.by_unit {A = A} {X = X} r l) =
      omega (arith, (simp decided at (ranked (unit A X) r)).0, leads_down l)
  leads_down (Leads.by_left {A = A} {X = X} {Y = Y} r l) =
      omega (arith, (beside_ranked A X Y (pair_ranked A X Y r).0).0, leads_down l)
  leads_down (Leads.by_right {A = A} {X = X} {Y = Y} r l) =
      omega (arith, (beside_ranked A Y X (pair_ranked A X Y r).1).0, leads_down l)

  full_up : {A Z : ℕ} → Leads (UsefulRules (Among rs) S) A Z → generates full Z ≡ true → generates full A ≡ true
  full_up Leads.here e = e
  full_up (Leads.by_unit {A = A} {X = X} r l) e =
      (simp (and_split, implies_exact) at (ranked (unit A X) r)).1 (full_up l e)
  full_up (Leads.by_left {A = A} {X = X} {Y = Y} r l) e =
      ((beside_ranked A Y X (pair_ranked A X Y r).1).1 (full_up l e)).0
  full_up (Leads.by_right {A = A} {X = X} {Y = Y} r l) e =
      ((beside_ranked A X Y (pair_ranked A X Y r).0).1 (full_up l e)).0

  terminal_full : {X : ℕ} → LeadsToTerminal (UsefulRules (Among rs) S) X → generates full X ≡ true
  unfolding generates
  terminal_full (a, t, l) = full_up l (simp or_exact (inl (simp decided t)))

  -- a certified rank excludes a cycle that grows
  pub certified_no_cycle : GrowingCycle (UsefulRules (Among rs) S) → ⊥
  certified_no_cycle (A, X, Y, r, inl (l, t)) =
      omega (arith, leads_down l, ((beside_ranked A X Y (pair_ranked A X Y r).0).1 (terminal_full t)).1)
  certified_no_cycle (A, X, Y, r, inr (l, t)) =
      omega (arith, leads_down l, ((beside_ranked A Y X (pair_ranked A X Y r).1).1 (terminal_full t)).1)

module _ (u : ℕ → Bool) (rs : List Rule) (S : ℕ) (sound : (X : ℕ) → u X ≡ true → Useful (Among rs) S X) where
  abbrev UR : Rules
  UR = UsefulRules (Among rs) S

  pass_all_useful : (α : List ℕ) → every u α ≡ true → AllUseful (Among rs) S α
  unfolding AllUseful every
  pass_all_useful [] h = tt
  pass_all_useful (X ∷ α) h = let (x, xs) = simp and_split at h in (sound X x, pass_all_useful α xs)

  rule_leads : (ρ : Rule) {Z : ℕ} → UR ρ → List·Memᴰ Z (body ρ) → Leads UR (head ρ) Z
  rule_leads (unit A Y) r (List·Memᴰ·head e) = rw e (Leads.by_unit r Leads.here)
  rule_leads (pair A Y W) r (List·Memᴰ·head e) = rw e (Leads.by_left r Leads.here)
  rule_leads (pair A Y W) r (List·Memᴰ·tail (List·Memᴰ·head e)) = rw e (Leads.by_right r Leads.here)
  rule_leads (empty _) {Z = Z} r x3 = elim x3 [ ]
  rule_leads (unit A Y) {Z = Z} r (List·Memᴰ·tail x7) = elim x7 [ ]
  rule_leads (pair A Y W) {Z = Z} r (List·Memᴰ·tail (List·Memᴰ·tail x12)) = elim x12 [ ]

  -- the rule of a step, which is useful
  rule_of_lem : (f : Rule → Bool) → some (λ ρ. all_pass u ρ && f ρ) rs ≡ true → (ρ : Rule) × UR ρ × (f ρ ≡ true)
  rule_of_lem f h =
      let (ρ, m, p) = some_member _ rs h in
      let (pass, fits) = simp and_split at p in
      (ρ, (m, pass_all_useful (head ρ ∷ body ρ) pass), fits)

  leads_on : {X Z W : ℕ} (ρ : Rule) → X ≡ head ρ → UR ρ → List·Memᴰ Z (body ρ) → Leads UR Z W → Leads UR X W
  leads_on ρ same r m l = rw same (leads_trans (rule_leads ρ r m) l)

  leads_by_lem : (goal : ℕ → Bool) (X : ℕ) (zs : List ℕ) → leads_by u rs goal X zs ≡ true →
      (Z : ℕ) × (goal Z ≡ true) × Leads UR X Z
  unfolding leads_by
  leads_by_lem goal X [] h = (X, h, Leads.here)
  leads_by_lem goal X (Z ∷ zs) h =
      let (first, rest) = simp and_split at h in
      let (ρ, r, fits) = rule_of_lem (leads X Z) first in
      let (same, m) = simp (decided, has_symbol_exact) at fits in
      let (W, passes, l) = leads_by_lem goal Z zs rest in
      (W, passes, leads_on ρ same r m l)

  cycle_by : (A X Y : ℕ) (ρ : Rule) → UR ρ → pair_of A X Y ρ ≡ true → Leads UR X A → LeadsToTerminal UR Y →
      GrowingCycle UR
  cycle_by A X Y (empty B) r h l t = absurd (false≢true h)
  cycle_by A X Y (unit B U) r h l t = absurd (false≢true h)
  cycle_by A X Y (pair B U W) r h l t =
      let (same, sides) = simp (and_split, or_exact) at h in
      let pair_of_A : UR (pair A U W) = rw (eqb-true B A same) at r in
      ⊎_elim
      (λ e. let (x, y) = simp decided at e in (A, U, W, pair_of_A, inl (rw x l, rw y t)))
      (λ e. let (y, x) = simp decided at e in (A, U, W, pair_of_A, inr (rw x l, rw y t))) sides

  -- a certified cycle is one
  pub certified_cycle_lem : (A X : ℕ) (zs : List ℕ) (Y : ℕ) (ys : List ℕ) → certified_cycle u rs A X zs Y ys ≡ true →
      GrowingCycle UR
  unfolding certified_cycle
  certified_cycle_lem A X zs Y ys h =
      let (first, (back, down)) = simp and_split at h in
      let (ρ, r, fits) = rule_of_lem (pair_of A X Y) first in
      let (Z, at-A, l) = leads_by_lem (λ Z. eqb Z A) X zs back in
      let (a, terminal, m) = leads_by_lem is_terminal_lem Y ys down in
      cycle_by A X Y ρ r fits (rw (eqb-true Z A at-A) at l) (a, simp decided at terminal, m)
