-- Laws of the graph of the rules: ways join, grow with the rules, and among useful rules end in a terminal context.
-- Assumes nothing.
use Rattle.grammar.proofs.Basics.{ℕ}
use Rattle.grammar.specs.Rule.{Rule, Rules, unit, pair}
use Rattle.grammar.specs.Useful.{InContext, Useful, AllUseful, UsefulRules}
use Rattle.grammar.specs.Theorems.Inductive.{Generating, Reached, Leads, LeadsToTerminal}
use Rattle.grammar.proofs.Productive.{productive_generates, generating_derives}
use Rattle.grammar.proofs.InContext.{reached_trans, reached_in_context}
use Rattle.grammar.proofs.UsefulIsBoth.{useful_both, both_useful}

pub leads_trans : {R : Rules} {A B C : ℕ} → Leads R A B → Leads R B C → Leads R A C
leads_trans Leads.here m = m
leads_trans (Leads.by_unit r l) m = Leads.by_unit r (leads_trans l m)
leads_trans (Leads.by_left r l) m = Leads.by_left r (leads_trans l m)
leads_trans (Leads.by_right r l) m = Leads.by_right r (leads_trans l m)

pub leads_grows : {R R' : Rules} {A B : ℕ} → ((ρ : Rule) → R ρ → R' ρ) → Leads R A B → Leads R' A B
leads_grows rules Leads.here = Leads.here
leads_grows rules (Leads.by_unit {A = A} {X = X} r l) = Leads.by_unit (rules (unit A X) r) (leads_grows rules l)
leads_grows rules (Leads.by_left {A = A} {X = X} {Y = Y} r l) =
    Leads.by_left (rules (pair A X Y) r) (leads_grows rules l)
leads_grows rules (Leads.by_right {A = A} {X = X} {Y = Y} r l) =
    Leads.by_right (rules (pair A X Y) r) (leads_grows rules l)

-- what leads on to a symbol that leads to a terminal leads to one
pub terminal_trans : {R : Rules} {A B : ℕ} → Leads R A B → LeadsToTerminal R B → LeadsToTerminal R A
terminal_trans l t = (t.0, t.1, leads_trans l t.2)

module _ (R : Rules) (S : ℕ) where
  useful_generates : (X : ℕ) → Useful R S X → Generating R X
  useful_generates X u = productive_generates R X (useful_both R S X u).0

  pub generates_useful : {X : ℕ} → Generating R X → Reached R S X → Useful R S X
  generates_useful {X} g c = both_useful R S X (generating_derives g) (reached_in_context c)

  leads_reached : {A X : ℕ} → Leads (UsefulRules R S) A X → Reached R A X
  unfolding AllUseful
  leads_reached Leads.here = Reached.start
  leads_reached (Leads.by_unit r l) = reached_trans (Reached.by_unit r.0 Reached.start) (leads_reached l)
  leads_reached (Leads.by_left {Y = Y} r l) =
      reached_trans (Reached.by_left r.0 (useful_generates Y r.1.1.1.0) Reached.start) (leads_reached l)
  leads_reached (Leads.by_right {X = X} r l) =
      reached_trans (Reached.by_right r.0 (useful_generates X r.1.1.0) Reached.start) (leads_reached l)

  pub leads_in_context : {A X : ℕ} → Leads (UsefulRules R S) A X → InContext R A X
  leads_in_context l = reached_in_context (leads_reached l)
