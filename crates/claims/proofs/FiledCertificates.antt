-- The certificates of the grammars on file, in the order of the list: the prover computes the test of each. Assumes
-- nothing.
use Rattle.grammar.proofs.Basics.{refl, List, ◌∷◌, [], ℕ}
use Rattle.grammar.specs.Theorems.Examples.{figure1_after}
use Rattle.grammar.proofs.PaperExamples.{finite_variables, finite_reached, infinite_variables, infinite_reached}
use Rattle.claims.specs.Filed.{FiledGrammars}
use Rattle.claims.proofs.FiledTests.{Growth, cycle, ranks, unsaid, Certificate, certifies}
use Rattle.claims.proofs.FiledRight.{also, none}

-- A → BB leads from A to B, and B → AB back; the other B leads to b
abbrev report : Certificate
report =
    record {
      transitions = figure1_after;
      generating = 1 ∷ 0 ∷ [];
      reached = 0 ∷ 1 ∷ 32 ∷ 33 ∷ [];
      growth = cycle 0 1 (0 ∷ []) 1 (33 ∷ []);
    }

-- the chain baabab
abbrev chain : Certificate
chain =
    record {
      transitions = (0, 33, 1)
          ∷ (1, 32, 2)
          ∷ (2, 32, 3)
          ∷ (3, 33, 4)
          ∷ (4, 32, 5)
          ∷ (5, 33, 6)
          ∷ (0, 1, 1)
          ∷ (1, 0, 2)
          ∷ (2, 0, 3)
          ∷ (3, 1, 4)
          ∷ (4, 0, 5)
          ∷ (5, 1, 6)
          ∷ (0, 5, 2)
          ∷ (0, 6, 2)
          ∷ (2, 5, 4)
          ∷ (2, 6, 4)
          ∷ (3, 5, 5)
          ∷ (3, 6, 5)
          ∷ (4, 5, 6)
          ∷ (4, 6, 6)
          ∷ (0, 4, 4)
          ∷ (0, 6, 4)
          ∷ (3, 2, 6)
          ∷ (2, 4, 6)
          ∷ (2, 6, 6)
          ∷ (3, 3, 6)
          ∷ (2, 5, 6)
          ∷ (0, 4, 6)
          ∷ (0, 6, 6)
          ∷ [];
      generating = 1 ∷ 0 ∷ 6 ∷ 5 ∷ 3 ∷ 2 ∷ 4 ∷ [];
      reached = 4 ∷ 5 ∷ 0 ∷ 2 ∷ 1 ∷ 3 ∷ 6 ∷ 32 ∷ 33 ∷ [];
      growth = unsaid;
    }

-- a grammar without an automaton: the smallest set is empty
abbrev rules_alone : (generating reached : List ℕ) → Growth → Certificate
rules_alone generating reached growth =
    record { transitions = []; generating = generating; reached = reached; growth = growth }

-- 25.5: all lead to a terminal, S is above A, and A above B and C
abbrev finite : Certificate
finite = rules_alone finite_variables finite_reached (ranks finite_variables (2 ∷ 1 ∷ []))

-- 25.6: S → AB leads from S to A, and A → BS back; B, beside A, leads to b
abbrev infinite : Certificate
infinite = rules_alone infinite_variables infinite_reached (cycle 0 1 (0 ∷ []) 2 (33 ∷ []))

-- the chain aab: S leads from 1 by ab, and so from 0 by aS; S → aS leads from S back to it, beside a
abbrev terminals : Certificate
terminals =
    record {
      transitions = (0, 32, 1) ∷ (1, 32, 2) ∷ (2, 33, 3) ∷ (1, 0, 3) ∷ (0, 0, 3) ∷ [];
      generating = 0 ∷ [];
      reached = 0 ∷ 1 ∷ 32 ∷ 33 ∷ [];
      growth = cycle 0 0 [] 32 [];
    }

-- the jobs with S → ε, with S → SS and without, state 0 final or not; nothing leads to a terminal
abbrev epsilon : Growth → Certificate
epsilon growth = record { transitions = (0, 0, 0) ∷ []; generating = 0 ∷ []; reached = 0 ∷ []; growth = growth }

pub filed_grammars_lem' : FiledGrammars
unfolding FiledGrammars certifies
filed_grammars_lem' =
    also _ _ report refl
    (also _ _ chain refl
    (also _ _ finite refl
    (also _ _ infinite refl
    (also _ _ (rules_alone (0 ∷ 1 ∷ []) (0 ∷ 32 ∷ []) unsaid) refl
    (also _ _ (rules_alone (1 ∷ []) (0 ∷ 2 ∷ []) unsaid) refl
    (also _ _ terminals refl
    (also _ _ (epsilon unsaid) refl
    (also _ _ (epsilon unsaid) refl
    (also _ _ (epsilon (ranks [] [])) refl (also _ _ (epsilon unsaid) refl none))))))))))
