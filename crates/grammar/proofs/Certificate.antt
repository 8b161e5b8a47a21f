-- What certificates prove, on one page: lists that pass the tests are exactly the smallest closed set, with its
-- counts, and exactly the generating and the reached symbols. Assumes nothing.
use Rattle.grammar.proofs.Basics.{◌≡◌, ◌↔◌, Iff·symm, Iff·trans, true, Bool, ◌&&◌, List, ℕ, ◌<◌, length}
use Rattle.grammar.proofs.Basics.{and_left, and_right}
use Rattle.grammar.specs.Rule.{Rule, Among}
use Rattle.grammar.specs.Automaton.{Transitions}
use Rattle.grammar.specs.Closure.{Closure}
use Rattle.grammar.specs.Counting.{HasCount, meetings}
use Rattle.grammar.specs.Theorems.Examples.{TransitionsOf}
use Rattle.grammar.specs.Theorems.Inductive.{Generating, Reached}
use Rattle.grammar.proofs.Meetings.{Test, PairsIn}
use Rattle.grammar.proofs.CertificateTests.{Triple, has_symbol}
use Rattle.grammar.proofs.CertificateClosure.{ListedBy, certified, certified_closure}
use Rattle.grammar.proofs.CertificateCounting.{Places, countable, certified_count}
use Rattle.grammar.proofs.CertificateMeetings.{joins, deciding_meetings}
use Rattle.grammar.proofs.CertificateSymbols.{generates, certified_generating, certified_generating_lem}
use Rattle.grammar.proofs.CertificateReached.{certified_reached, certified_reached_lem}

-- the test of a list of transitions
unfoldable pub closure_certified : (rs : List Rule) (gs : List Triple) (s : ℕ) (ts : List Triple) → Bool
unfolding certified countable
closure_certified rs gs s ts = certified rs gs s ts && countable 32 ts

module _ (rs : List Rule) (D : Transitions) (gs : List Triple) (s : ℕ) (g : ListedBy D gs) (ts : List Triple)
    (h : closure_certified rs gs s ts ≡ true) where
  -- the list is exactly the smallest closed set
  pub closure_exact : (q X r : ℕ) → TransitionsOf ts q X r ↔ Closure (Among rs) D s q X r
  unfolding closure_certified
  closure_exact = certified_closure rs D gs s g ts (search and_left)

  -- it has as many transitions as the list has lines
  pub closure_count : HasCount (Places (Closure (Among rs) D s)) 65536 (length ts)
  unfolding closure_certified
  closure_count = certified_count ts (search and_right) (Closure (Among rs) D s) closure_exact

  -- and as many pair meetings, by any test that decides it at 32 states and the symbols of W
  pub closure_meetings : (W : ℕ → Type 0) → PairsIn W rs → (t : Test) →
      ((q X r : ℕ) → q < 32 → W X → r < 32 → (t q X r ≡ true) ↔ Closure (Among rs) D s q X r) →
      meetings t 32 rs ≡ joins 32 ts rs
  unfolding closure_certified
  closure_meetings W w t decides =
      deciding_meetings 32 W rs w ts (search and_right) t
      (λ q X r ql x rl. Iff·trans (decides q X r ql x rl) (Iff·symm (closure_exact q X r)))

-- the test of a list of the variables that generate and of one of the symbols that are reached
unfoldable pub symbols_certified : (rs : List Rule) (S : ℕ) (gen reach : List ℕ) → Bool
unfolding generates certified_generating certified_reached
symbols_certified rs S gen reach = certified_generating rs gen && certified_reached rs S (generates gen) reach

module _ (rs : List Rule) (S : ℕ) (gen reach : List ℕ) (h : symbols_certified rs S gen reach ≡ true) where
  pub generating_exact : (X : ℕ) → (generates gen X ≡ true) ↔ Generating (Among rs) X
  unfolding symbols_certified
  generating_exact = certified_generating_lem rs gen (search and_left)

  pub reached_exact : (X : ℕ) → (has_symbol reach X ≡ true) ↔ Reached (Among rs) S X
  unfolding symbols_certified
  reached_exact = certified_reached_lem rs S (generates gen) generating_exact reach (search and_right)
