-- What a certificate of the symbols proves, in the papers' words: the productive, the reachable and the useful symbols
-- exactly, and by a cycle or a rank whether the grammar grows. The papers' theorems carry the checker's sets over.
-- Assumes nothing.
use Rattle.grammar.proofs.Basics.{◌≡◌, ◌↔◌, Iff·symm, Iff·trans, true, Bool, ◌&&◌, List, ℕ, and_split}
use mathlib.Core.Logic.Iff
use Rattle.grammar.specs.Rule.{Rule, Among}
use Rattle.grammar.specs.Useful.{Productive, InContext, Useful}
use Rattle.grammar.specs.Growing.{Growing}
use Rattle.grammar.proofs.Productive.{productive_is_generating_lem}
use Rattle.grammar.proofs.InContext.{in_context_is_reached_lem}
use Rattle.grammar.proofs.UsefulIsBoth.{useful_is_both_lem}
use Rattle.grammar.proofs.Growth.{cycle_grows, growing_is_cycle_lem}
use Rattle.grammar.proofs.CertificateTests.{has_symbol}
use Rattle.grammar.proofs.CertificateSymbols.{generates}
use Rattle.grammar.proofs.CertificateCycle.{certified_rank, certified_no_cycle, certified_cycle, certified_cycle_lem}
use Rattle.grammar.proofs.Certificate.{symbols_certified, generating_exact, reached_exact}

-- useful by the list of the variables that generate and the one of the symbols that are reached
unfoldable pub useful : (gen reach : List ℕ) → ℕ → Bool
unfolding generates has_symbol
useful gen reach X = generates gen X && has_symbol reach X

module _ (rs : List Rule) (S : ℕ) (gen reach : List ℕ) (h : symbols_certified rs S gen reach ≡ true) where
  pub productive_exact : (X : ℕ) → (generates gen X ≡ true) ↔ Productive (Among rs) X
  productive_exact X =
      Iff·trans (generating_exact rs S gen reach h X) (Iff·symm (productive_is_generating_lem (Among rs) X))

  pub in_context_exact : (X : ℕ) → (has_symbol reach X ≡ true) ↔ InContext (Among rs) S X
  in_context_exact X = Iff·trans (reached_exact rs S gen reach h X) (Iff·symm (in_context_is_reached_lem (Among rs) S X))

  useful_exact : (X : ℕ) → (useful gen reach X ≡ true) ↔ Useful (Among rs) S X
  unfolding useful
  useful_exact X =
      Iff·trans (and_split (generates gen X) (has_symbol reach X))
      (Iff·trans (Iff.and (productive_exact X) (in_context_exact X)) (Iff·symm (useful_is_both_lem (Among rs) S X)))

  -- by a useful pair rule of A with X and Y, a list of symbols from X back to A, and one from Y to a terminal
  pub growing : (A X : ℕ) (zs : List ℕ) (Y : ℕ) (ys : List ℕ) →
      certified_cycle (useful gen reach) rs A X zs Y ys ≡ true → Growing (Among rs) S
  growing A X zs Y ys e =
      cycle_grows (Among rs) S (certified_cycle_lem (useful gen reach) rs S (λ X. (useful_exact X).0) A X zs Y ys e)

  -- by a rank that no useful rule raises and that a useful pair rule lowers beside a symbol that leads to a terminal
  pub not_growing : (full : List ℕ) (rank : ℕ → ℕ) → certified_rank (useful gen reach) rs full rank ≡ true →
      Growing (Among rs) S → ⊥
  not_growing full rank e g =
      certified_no_cycle (useful gen reach) rs S (λ X. (useful_exact X).1) full rank e ((growing_is_cycle_lem rs S).0 g)
