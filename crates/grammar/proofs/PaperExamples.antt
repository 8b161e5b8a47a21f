-- Certificates of the papers' examples: Figure 1 of [Esparza], whose transitions stand in an order in which each comes
-- in, and the symbols of [Lecture 25]'s two grammars with a rank and a cycle. The prover computes each test. Assumes
-- nothing.
use Rattle.grammar.proofs.Basics.{◌≡◌, refl, Iff·symm, true, false, List, ◌∷◌, [], ℕ, get_or, refuted}
use Rattle.grammar.specs.Rule.{Among}
use Rattle.grammar.specs.Growing.{Growing}
use Rattle.grammar.specs.Theorems.Examples.{TransitionsOf, figure1_rules, figure1_before, figure1_after, Figure1}
use Rattle.grammar.specs.Theorems.Examples.{finite_rules, infinite_rules, Pruned}
use Rattle.grammar.proofs.UsefulIsBoth.{useful_both}
use Rattle.grammar.proofs.Meetings.{pairs_in_all}
use Rattle.grammar.proofs.CertificateTests.{has_symbol}
use Rattle.grammar.proofs.CertificateClosure.{itself}
use Rattle.grammar.proofs.CertificateCounting.{countable, countable_apart}
use Rattle.grammar.proofs.CertificateMeetings.{joins, deciding_meetings}
use Rattle.grammar.proofs.CertificateSymbols.{generates}
use Rattle.grammar.proofs.CertificateCycle.{certified_rank, certified_cycle}
use Rattle.grammar.proofs.Certificate.{closure_certified, closure_exact, symbols_certified}
use Rattle.grammar.proofs.CertificateVerdicts.{useful, productive_exact, in_context_exact, growing, not_growing}

figure1_certified : closure_certified figure1_rules figure1_before 3 figure1_after ≡ true
unfolding closure_certified
figure1_certified = refl

after_countable : countable 3 figure1_after ≡ true
unfolding countable
after_countable = refl

pub figure1 : Figure1
unfolding joins
figure1 =
    record {
      result = λ q X r. Iff·symm
          (closure_exact figure1_rules (TransitionsOf figure1_before) figure1_before 3 (itself figure1_before) figure1_after
          figure1_certified q X r);
      apart = countable_apart 3 figure1_after after_countable;
      number = refl;
      met = λ t decides.
          deciding_meetings 3 (λ X. Unit {0}) figure1_rules (pairs_in_all figure1_rules) figure1_after after_countable t
          (λ q X r ql w rl. decides q X r ql rl);
    }

-- 25.5: all symbols are useful and lead to a terminal, and S, A are above the others
abbrev pub finite_variables : List ℕ
finite_variables = 3 ∷ 2 ∷ 1 ∷ 0 ∷ []

abbrev pub finite_reached : List ℕ
finite_reached = 0 ∷ 1 ∷ 2 ∷ 3 ∷ 32 ∷ 33 ∷ 34 ∷ []

finite_certified : symbols_certified finite_rules 0 finite_variables finite_reached ≡ true
unfolding symbols_certified
finite_certified = refl

pub finite : Growing (Among finite_rules) 0 → ⊥
unfolding certified_rank useful
finite =
    not_growing finite_rules 0 finite_variables finite_reached finite_certified finite_variables
    (λ X. get_or (2 ∷ 1 ∷ []) X 0) refl

-- 25.6: C and c are not reached, and S → AB, A → BS is a cycle with B, which leads to b, beside it
abbrev pub infinite_variables : List ℕ
infinite_variables = 1 ∷ 2 ∷ 3 ∷ 0 ∷ []

abbrev pub infinite_reached : List ℕ
infinite_reached = 0 ∷ 1 ∷ 2 ∷ 32 ∷ 33 ∷ []

infinite_certified : symbols_certified infinite_rules 0 infinite_variables infinite_reached ≡ true
unfolding symbols_certified
infinite_certified = refl

pub infinite : Growing (Among infinite_rules) 0
unfolding certified_cycle useful
infinite =
    growing infinite_rules 0 infinite_variables infinite_reached infinite_certified 0 1 (0 ∷ []) 2 (33 ∷ []) refl

-- a symbol that the lists have as productive and not reached
pub pruned : (X : ℕ) → generates infinite_variables X ≡ true → has_symbol infinite_reached X ≡ false → Pruned X
pruned X g r =
    let not_in_context =
    refuted (in_context_exact infinite_rules 0 infinite_variables infinite_reached infinite_certified X) r in
    record {
      productive = (productive_exact infinite_rules 0 infinite_variables infinite_reached infinite_certified X).0 g;
      not_in_context = not_in_context;
      not_useful = λ u. not_in_context (useful_both (Among infinite_rules) 0 X u).1;
    }
