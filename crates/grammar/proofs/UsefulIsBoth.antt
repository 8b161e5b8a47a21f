-- A symbol is useful if and only if it is productive and in a terminal context: each symbol of a form that derives a
-- terminal string generates, those around X among them. Assumes nothing.
use Rattle.grammar.proofs.Basics.{◌↔◌, ◌∷◌, ◌++◌, ℕ}
use Rattle.grammar.specs.Rule.{Rules}
use Rattle.grammar.specs.Useful.{Productive, InContext, Useful}
use Rattle.grammar.specs.Theorems.Inductive.{Generating}
use Rattle.grammar.proofs.Strings.{All, cons, all_left, all_right}
use Rattle.grammar.proofs.Derivations.{derives_context}
use Rattle.grammar.proofs.Productive.{terminals_append, derives_generate, generating_derives}
use Rattle.grammar.proofs.InContext.{around_reached, reached_in_context}

module _ (R : Rules) (S X : ℕ) where
  pub useful_both : Useful R S X → Productive R X × InContext R S X
  unfolding Useful
  useful_both u =
      let g = derives_generate u.2 u.3 u.5 in
      both (all_left u.0 (X ∷ u.1) g) (all_right u.0 g)
    where
      both : All (Generating R) u.0 → All (Generating R) (X ∷ u.1) → Productive R X × InContext R S X
      both g (cons x h) = (generating_derives x, reached_in_context (around_reached X g h u.4))

  pub both_useful : Productive R X → InContext R S X → Useful R S X
  unfolding Useful Productive InContext
  both_useful p c =
      let (v, w, tv, tw, d) = c in
      let (u, tu, e) = p in
      (v, w, v ++ (u ++ w), terminals_append v (u ++ w) tv (terminals_append u w tu tw), d, derives_context v w e)

  pub useful_is_both_lem : Useful R S X ↔ (Productive R X × InContext R S X)
  useful_is_both_lem = (useful_both, λ b. both_useful b.0 b.1)
