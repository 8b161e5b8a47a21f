-- The computed sets are the papers' sets: each of their rounds is a way to generate, to reach or to lead, and what is
-- closed under the rules contains all that generates, is reached or leads. Assumes nothing.
use Rattle.grammar.proofs.Basics.{◌≡◌, refl, ◌↔◌, true, Bool, List, ◌∷◌, [], ℕ, eqb, eq-eqb, eqb-true, le-leb, lt-ltb}
use Rattle.grammar.proofs.Basics.{leb-true, and_left, and_right}
use Rattle.grammar.specs.Symbol.{IsTerminal, is_terminal_lem}
use Rattle.grammar.specs.Rule.{Rule, Among, head, body, empty, unit, pair}
use Rattle.grammar.specs.Useful.{Productive, Useful, AllUseful, UsefulRules}
use Rattle.grammar.specs.Theorems.Inductive.{Generating, Reached, Leads, LeadsToTerminal}
use Rattle.grammar.proofs.Strings.{All, nil, cons, Any, here, there}
use Rattle.grammar.proofs.Productive.{generating_rule, generating_derives, productive_generates}
use Rattle.grammar.proofs.InContext.{reached_in_context, in_context_reached}
use Rattle.grammar.proofs.UsefulIsBoth.{useful_both, both_useful}
use Rattle.usefulness.specs.declared.Direction.TheVariants.{Up, Down, Back}
use Rattle.usefulness.specs.Sets.{all_in_lem, stands_in, within}
use Rattle.usefulness.specs.Usefulness.{productive, useful, useful_rules, leads, to_terminal}
use Rattle.usefulness.proofs.Tests.{all_in, in_all, any_in_lem, in_any, stands_has, stands_first, stands_second}
use Rattle.usefulness.proofs.Tests.{within_among, among_within}
use Rattle.usefulness.proofs.Rounds.{Below, grown_sound, grown_keeps, grown_closed}

terminal_test : (X : ℕ) → is_terminal_lem X ≡ true → IsTerminal X
terminal_test X e = search (and_left, and_right, leb-true)

test_terminal : (X : ℕ) → IsTerminal X → is_terminal_lem X ≡ true
test_terminal X t = rw (le-leb 32 X t.0, lt-ltb X 64 t.1)

module _ (rules : List Rule) (below : Below 64 rules) where
  productive_sound : (X : ℕ) → productive rules X ≡ true → Generating (Among rules) X
  unfolding productive
  productive_sound =
      grown_sound Up rules (Generating (Among rules))
      (λ X e. Generating.terminal (terminal_test X e))
      (λ t one ρ m X r e.
      stands_has {P = Generating (Among rules)} X (cons (generating_rule ρ m (all_in t (body ρ) one r)) nil) e)

  -- a rule with a productive body has a productive head
  productive_rule :
      (ρ : Rule) → Among rules ρ → all_in_lem (productive rules) (body ρ) ≡ true → productive rules (head ρ) ≡ true
  unfolding productive
  productive_rule ρ m e = grown_closed Up rules _ below ρ m (head ρ) e (stands_first (head ρ) [])

  productive_complete : {X : ℕ} → Generating (Among rules) X → productive rules X ≡ true
  unfolding productive all_in_lem
  productive_complete (Generating.terminal {X = X} t) = grown_keeps Up rules _ X (test_terminal X t)
  productive_complete (Generating.by_empty {A = A} m) = productive_rule (empty A) m refl
  productive_complete (Generating.by_unit {A = A} {X = X} m g) =
      productive_rule (unit A X) m (rw (productive_complete g))
  productive_complete (Generating.by_pair {A = A} {X = X} {Y = Y} m g h) =
      productive_rule (pair A X Y) m (rw (productive_complete g, productive_complete h))

  pub productive_is : (X : ℕ) → (productive rules X ≡ true) ↔ Productive (Among rules) X
  productive_is X = (
    λ e. generating_derives (productive_sound X e),
    λ p. productive_complete (productive_generates (Among rules) X p),
  )

  -- the rules whose symbols are all productive
  abbrev kept : List Rule
  kept = within (productive rules) rules

  kept_below : Below 64 kept
  kept_below ρ m = below ρ (within_among (productive rules) rules ρ m).0

  module _ (S : ℕ) where
    abbrev Both : ℕ → Type 0
    Both X = Generating (Among rules) X × Reached (Among rules) S X

    reached_rule : (ρ : Rule) → Among rules ρ → All (Generating (Among rules)) (head ρ ∷ body ρ) →
        Reached (Among rules) S (head ρ) → All Both (body ρ)
    reached_rule (empty A) m (cons a nil) r = nil
    reached_rule (unit A X) m (cons a (cons x nil)) r = cons (x, Reached.by_unit m r) nil
    reached_rule (pair A X Y) m (cons a (cons x (cons y nil))) r =
        cons (x, Reached.by_left m y r) (cons (y, Reached.by_right m x r) nil)

    useful_sound : (X : ℕ) → useful rules S X ≡ true → Both X
    unfolding useful
    useful_sound =
        grown_sound Down kept Both
        (λ X e. (productive_sound X (and_right (eqb S X) _ e), rw (← eqb-true S X (and_left _ _ e)) Reached.start))
        (λ t one ρ m X r e.
        let a = within_among (productive rules) rules ρ m in
        stands_has X (reached_rule ρ a.0 (all_in (productive rules) (head ρ ∷ body ρ) productive_sound a.1)
        (one (head ρ) r).1) e)

    -- a rule whose symbols all generate passes usefulness on
    useful_rule : (ρ : Rule) → Among rules ρ → All (Generating (Among rules)) (head ρ ∷ body ρ) →
        useful rules S (head ρ) ≡ true →
        (X : ℕ) → stands_in X (body ρ) ≡ true → useful rules S X ≡ true
    unfolding useful
    useful_rule ρ m g u X e =
        grown_closed Down kept _ kept_below ρ
        (among_within (productive rules) rules ρ m (in_all (productive rules) (λ Y p. productive_complete p) g)) X u e

    useful_complete : {X : ℕ} → Reached (Among rules) S X → Generating (Among rules) X → useful rules S X ≡ true
    unfolding useful
    useful_complete Reached.start g = grown_keeps Down kept _ S (rw (eq-eqb S S refl) (productive_complete g))
    useful_complete (Reached.by_unit {A = A} {X = X} m r) g =
        let a = generating_rule (unit A X) m (cons g nil) in
        useful_rule (unit A X) m (cons a (cons g nil)) (useful_complete r a) X (stands_first X [])
    useful_complete (Reached.by_left {A = A} {X = X} {Y = Y} m h r) g =
        let a = generating_rule (pair A X Y) m (cons g (cons h nil)) in
        useful_rule (pair A X Y) m (cons a (cons g (cons h nil))) (useful_complete r a) X (stands_first X (Y ∷ []))
    useful_complete (Reached.by_right {A = A} {X = X} {Y = Y} m h r) g =
        let a = generating_rule (pair A X Y) m (cons h (cons g nil)) in
        useful_rule (pair A X Y) m (cons a (cons h (cons g nil))) (useful_complete r a) Y (stands_second X Y [])

    pub useful_is : (X : ℕ) → (useful rules S X ≡ true) ↔ Useful (Among rules) S X
    useful_is X = (
      λ e.
          let b = useful_sound X e in
          both_useful (Among rules) S X (generating_derives b.0) (reached_in_context b.1),
      λ u.
          let b = useful_both (Among rules) S X u in
          useful_complete (in_context_reached (Among rules) S X b.1) (productive_generates (Among rules) X b.0),
    )

    all_useful : (α : List ℕ) → (all_in_lem (useful rules S) α ≡ true) ↔ AllUseful (Among rules) S α
    unfolding AllUseful all_in_lem
    all_useful [] = (λ e. tt, λ e. refl)
    all_useful (X ∷ α) = (
      λ e. ((useful_is X).0 (and_left _ _ e), (all_useful α).0 (and_right (useful rules S X) _ e)),
      λ u. rw ((useful_is X).1 u.0) ((all_useful α).1 u.1),
    )

    pub useful_rules_are : (ρ : Rule) → Among (useful_rules rules S) ρ ↔ UsefulRules (Among rules) S ρ
    useful_rules_are ρ = (
      λ m. let a = within_among (useful rules S) rules ρ m in (a.0, (all_useful (head ρ ∷ body ρ)).0 a.1),
      λ u. among_within (useful rules S) rules ρ u.0 ((all_useful (head ρ ∷ body ρ)).1 u.1),
    )

  -- the symbols that lead to one of a set
  module _ (set : ℕ → Bool) where
    abbrev LeadsTo : ℕ → Type 0
    LeadsTo X = (Z : ℕ) × (set Z ≡ true) × Leads (Among rules) X Z

    leads_rule : (ρ : Rule) → Among rules ρ → Any LeadsTo (body ρ) → LeadsTo (head ρ)
    leads_rule (unit A X) m (here (Z, e, l)) = (Z, e, Leads.by_unit m l)
    leads_rule (pair A X Y) m (here (Z, e, l)) = (Z, e, Leads.by_left m l)
    leads_rule (pair A X Y) m (there (here (Z, e, l))) = (Z, e, Leads.by_right m l)
    leads_rule (empty _) m x3 = elim x3 [ ]
    leads_rule (unit A X) m (there x6) = elim x6 [ ]
    leads_rule (pair A X Y) m (there (there x10)) = elim x10 [ ]

    leads_sound : (X : ℕ) → leads rules set X ≡ true → LeadsTo X
    unfolding leads
    leads_sound =
        grown_sound Back rules LeadsTo
        (λ X e. (X, e, Leads.here))
        (λ t one ρ m X r e.
        stands_has {P = LeadsTo} X (cons (leads_rule ρ m (any_in_lem t (body ρ) one r)) nil) e)

    leads_back_lem : (ρ : Rule) → Among rules ρ → Any (λ X. leads rules set X ≡ true) (body ρ) →
        leads rules set (head ρ) ≡ true
    unfolding leads
    leads_back_lem ρ m a =
        grown_closed Back rules _ below ρ m (head ρ) (in_any (leads rules set) (λ X p. p) a) (stands_first (head ρ) [])

    leads_complete : {X Z : ℕ} → Leads (Among rules) X Z → set Z ≡ true → leads rules set X ≡ true
    unfolding leads
    leads_complete {X} Leads.here e = grown_keeps Back rules _ X e
    leads_complete (Leads.by_unit {A = A} {X = X} m l) e = leads_back_lem (unit A X) m (here (leads_complete l e))
    leads_complete (Leads.by_left {A = A} {X = X} {Y = Y} m l) e =
        leads_back_lem (pair A X Y) m (here (leads_complete l e))
    leads_complete (Leads.by_right {A = A} {X = X} {Y = Y} m l) e =
        leads_back_lem (pair A X Y) m (there (here (leads_complete l e)))

  pub leads_to_is : (Z X : ℕ) → (leads rules (λ Y. eqb Z Y) X ≡ true) ↔ Leads (Among rules) X Z
  leads_to_is Z X = (
    λ e. let (Y, same, l) = leads_sound (λ Y. eqb Z Y) X e in rw (← eqb-true Z Y same) at l,
    λ l. leads_complete (λ Y. eqb Z Y) l (eq-eqb Z Z refl),
  )

  pub to_terminal_is : (X : ℕ) → (to_terminal rules X ≡ true) ↔ LeadsToTerminal (Among rules) X
  unfolding leads
  to_terminal_is X = (
    λ e. let (a, t, l) = leads_sound is_terminal_lem X e in (a, terminal_test a t, l),
    λ t. leads_complete is_terminal_lem t.2 (test_terminal t.0 t.1),
  )
