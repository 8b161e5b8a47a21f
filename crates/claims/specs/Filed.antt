-- The starred grammars on file, as one list with one claim over it. Assumes nothing.
use Rattle.std.specs.Prelude.{◌≡◌, ◌↔◌, ℕ, ◌<◌, Bool, true, false, not}
use mathlib.Core.List.{List, [], ◌∷◌, ◌++◌, Memᴰ}
use Rattle.grammar.specs.Rule.{Among}
use Rattle.grammar.specs.Counting.{meetings}
use Rattle.grammar.specs.Useful.{Productive}
use Rattle.grammar.specs.Growing.{Growing}
use Rattle.job.specs.Format.{byte_e, byte_u, byte_p, byte_t, byte_i, byte_f, byte_s}
use Rattle.job.specs.Check.{job_check, accepted}
use Rattle.job.specs.Job.{Job, job_of}
use Rattle.machine.specs.Smallest.{Smallest, DecidesSmallest, SmallestCount}
use Rattle.forms.specs.Acceptance.{DerivesGiven}
use Rattle.verdicts.specs.Meaning.{CodeIs}

-- Grammars on file: what is said of a grammar
pub data Fact : Type 0 where
  states : ℕ → Fact
  examined : ℕ → Fact
  joins : ℕ → Fact
  variables_lead : (q r : ℕ) (As : List ℕ) → Fact
  accepts_form : (form : List ℕ) (answer : Bool) → Fact
  is_empty : Bool → Fact
  is_growing : Bool → Fact
  code : (X c : ℕ) → Fact

-- a yes says that it holds, a no that it does not
abbrev pub Says : Bool → Type 0 → Type 0
Says true P = P
Says false P = P → ⊥

-- when it is right, by the definitions: the number of states; the number of transitions of the smallest set, which are
-- all examined; its pair meetings; which variables lead from one state to another; whether a form derives a string of
-- the automaton; the verdicts, where not empty means that the start symbol derives a terminal string
abbrev pub Right : Job → Fact → Type 0
Right J (states n) = J.states ≡ n
Right J (examined n) = SmallestCount J n
Right J (joins n) = (test : ℕ → ℕ → ℕ → Bool) → DecidesSmallest J test → meetings test 32 J.rules ≡ n
Right J (variables_lead q r As) = (A : ℕ) → A < 32 → Smallest J q A r ↔ Memᴰ A As
Right J (accepts_form form answer) = Says answer (DerivesGiven J form)
Right J (is_empty answer) = Says (not answer) (Productive (Among J.rules) J.start)
Right J (is_growing answer) = Says answer (Growing (Among J.rules) J.start)
Right J (code X c) = CodeIs J.rules J.start X c

-- a grammar on file: whether it has an automaton, the bytes of its job, and the facts
pub record Filed : Type 0 where
  pub needed : Bool
  pub job : List ℕ
  pub facts : List Fact

unfoldable pub AllRight : Job → List Fact → Type 0
AllRight J [] = Unit {0}
AllRight J (fact ∷ facts) = Right J fact × AllRight J facts

unfoldable pub AllFiledRight : List Filed → Type 0
AllFiledRight [] = Unit {0}
AllFiledRight (filed ∷ rest) =
    (job_check filed.needed filed.job ≡ accepted) × AllRight (job_of filed.job)
    filed.facts × AllFiledRight rest

-- The report program: its sample job and the six lines
abbrev pub report_job : Filed
report_job =
    record {
      needed = true;
      job =
          byte_s ∷ 0 ∷ 0 ∷ 0 ∷ byte_u ∷ 0 ∷ 32 ∷ 0 ∷ byte_p ∷ 0 ∷ 1 ∷ 1 ∷ byte_p ∷ 1 ∷ 0 ∷ 1 ∷ byte_u ∷ 1 ∷ 33 ∷ 0
          ∷ byte_i ∷ 0 ∷ 0 ∷ 0 ∷ byte_f ∷ 2 ∷ 0 ∷ 0 ∷ byte_t ∷ 0 ∷ 32 ∷ 1 ∷ byte_t ∷ 1 ∷ 33 ∷ 2 ∷ byte_t ∷ 2 ∷ 32 ∷ 1 ∷ [];
      facts = states 3 ∷ examined 11 ∷ joins 8 ∷ accepts_form (0 ∷ []) true ∷ is_empty false ∷ is_growing true ∷ [];
    }

-- the grammar of [Membership] with A 0, B 1, C 2, D 3, S 4, T 5, X 6, a 32, b 33, and baabab as a chain of 7 states
abbrev pub chain_job : Filed
chain_job =
    record {
      needed = true;
      job =
          byte_s ∷ 4 ∷ 0 ∷ 0 ∷ byte_p ∷ 4 ∷ 5 ∷ 5 ∷ byte_p ∷ 4 ∷ 0 ∷ 2 ∷ byte_p ∷ 5 ∷ 0 ∷ 2 ∷ byte_p ∷ 5 ∷ 3 ∷ 0
          ∷ byte_p ∷ 5 ∷ 0 ∷ 1 ∷ byte_p ∷ 5 ∷ 1 ∷ 0 ∷ byte_p ∷ 2 ∷ 6 ∷ 1 ∷ byte_p ∷ 3 ∷ 1 ∷ 6 ∷ byte_p ∷ 6 ∷ 5 ∷ 5
          ∷ byte_p ∷ 6 ∷ 0 ∷ 1 ∷ byte_p ∷ 6 ∷ 1 ∷ 0 ∷ byte_u ∷ 0 ∷ 32 ∷ 0 ∷ byte_u ∷ 1 ∷ 33 ∷ 0
          ∷ byte_i ∷ 0 ∷ 0 ∷ 0 ∷ byte_f ∷ 6 ∷ 0 ∷ 0 ∷ byte_t ∷ 0 ∷ 33 ∷ 1 ∷ byte_t ∷ 1 ∷ 32 ∷ 2 ∷ byte_t ∷ 2 ∷ 32 ∷ 3
          ∷ byte_t ∷ 3 ∷ 33 ∷ 4 ∷ byte_t ∷ 4 ∷ 32 ∷ 5 ∷ byte_t ∷ 5 ∷ 33 ∷ 6 ∷ [];
      facts = states 7 ∷ examined 29 ∷ variables_lead 0 6 (4 ∷ 6 ∷ []) ∷ variables_lead 1 3 [] ∷ [];
    }

-- [Lecture 25], example 25.5, with S 0, A 1, B 2, C 3, a 32, b 33, c 34
abbrev pub finite_job : Filed
finite_job =
    record {
      needed = false;
      job =
          byte_s ∷ 0 ∷ 0 ∷ 0 ∷ byte_p ∷ 0 ∷ 1 ∷ 2 ∷ byte_p ∷ 1 ∷ 2 ∷ 3 ∷ byte_u ∷ 1 ∷ 32 ∷ 0 ∷ byte_u ∷ 2 ∷ 33 ∷ 0
          ∷ byte_u ∷ 3 ∷ 34 ∷ 0 ∷ [];
      facts = is_growing false ∷ [];
    }

-- [Lecture 25], example 25.6, numbered alike
abbrev pub infinite_job : Filed
infinite_job =
    record {
      needed = false;
      job =
          byte_s ∷ 0 ∷ 0 ∷ 0 ∷ byte_p ∷ 0 ∷ 1 ∷ 2 ∷ byte_p ∷ 1 ∷ 2 ∷ 0 ∷ byte_u ∷ 1 ∷ 32 ∷ 0 ∷ byte_u ∷ 2 ∷ 33 ∷ 0
          ∷ byte_u ∷ 3 ∷ 34 ∷ 0 ∷ [];
      facts = is_growing true ∷ code 3 3 ∷ code 34 3 ∷ [];
    }

-- S → a and, aside, X → b, with X 1
abbrev pub aside_job : Filed
aside_job =
    record {
      needed = false;
      job = byte_s ∷ 0 ∷ 0 ∷ 0 ∷ byte_u ∷ 0 ∷ 32 ∷ 0 ∷ byte_u ∷ 1 ∷ 33 ∷ 0 ∷ [];
      facts = code 1 3 ∷ code 33 3 ∷ [];
    }

-- S → A B, A → a and no rule for B, with A 1, B 2
abbrev pub empty_job : Filed
empty_job =
    record {
      needed = false;
      job = byte_s ∷ 0 ∷ 0 ∷ 0 ∷ byte_p ∷ 0 ∷ 1 ∷ 2 ∷ byte_u ∷ 1 ∷ 32 ∷ 0 ∷ [];
      facts = is_empty true ∷ code 0 2 ∷ code 2 2 ∷ code 1 3 ∷ code 32 3 ∷ [];
    }

-- S → a S, S → a b, S → c B and no rule for B, with B 1, a 32, b 33, c 34, and aab as a chain of 4 states
abbrev pub terminals_job : Filed
terminals_job =
    record {
      needed = true;
      job =
          byte_s ∷ 0 ∷ 0 ∷ 0 ∷ byte_p ∷ 0 ∷ 32 ∷ 0 ∷ byte_p ∷ 0 ∷ 32 ∷ 33 ∷ byte_p ∷ 0 ∷ 34 ∷ 1 ∷ byte_i ∷ 0 ∷ 0 ∷ 0
          ∷ byte_f ∷ 3 ∷ 0 ∷ 0 ∷ byte_t ∷ 0 ∷ 32 ∷ 1 ∷ byte_t ∷ 1 ∷ 32 ∷ 2 ∷ byte_t ∷ 2 ∷ 33 ∷ 3 ∷ [];
      facts = states 4 ∷ examined 5 ∷ joins 2 ∷ variables_lead 0 3 (0 ∷ []) ∷ accepts_form (0 ∷ []) true
          ∷ is_empty false ∷ is_growing true ∷ code 0 1 ∷ code 1 2 ∷ code 32 1 ∷ code 33 1 ∷ code 34 3 ∷ [];
    }

-- S → ε with 0 as the initial and final state, and with S → S S besides; each also without the F record
abbrev pub epsilon_records : List ℕ
epsilon_records = byte_s ∷ 0 ∷ 0 ∷ 0 ∷ byte_e ∷ 0 ∷ 0 ∷ 0 ∷ byte_i ∷ 0 ∷ 0 ∷ 0 ∷ []

abbrev pub final_zero : List ℕ
final_zero = byte_f ∷ 0 ∷ 0 ∷ 0 ∷ []

abbrev pub doubling : List ℕ
doubling = byte_p ∷ 0 ∷ 0 ∷ 0 ∷ []

abbrev pub epsilon_job : Filed
epsilon_job =
    record {
      needed = true;
      job = epsilon_records ++ final_zero;
      facts = examined 1 ∷ joins 0 ∷ accepts_form [] true ∷ [];
    }

abbrev pub epsilon_unfinal : Filed
epsilon_unfinal = record { needed = true; job = epsilon_records; facts = accepts_form [] false ∷ [] }

abbrev pub doubling_job : Filed
doubling_job =
    record {
      needed = true;
      job = epsilon_records ++ final_zero ++ doubling;
      facts = examined 1 ∷ joins 1 ∷ accepts_form [] true ∷ is_growing false ∷ [];
    }

abbrev pub doubling_unfinal : Filed
doubling_unfinal = record { needed = true; job = epsilon_records ++ doubling; facts = accepts_form [] false ∷ [] }

-- Grammars on file: those that are proved
abbrev pub filed_grammars_lem : List Filed
filed_grammars_lem =
    report_job
    ∷ chain_job
    ∷ finite_job
    ∷ infinite_job
    ∷ aside_job
    ∷ empty_job
    ∷ terminals_job
    ∷ epsilon_job
    ∷ epsilon_unfinal
    ∷ doubling_job
    ∷ doubling_unfinal
    ∷ []

-- Grammars on file: one claim over the list
unfoldable pub FiledGrammars : Type 0
FiledGrammars = AllFiledRight filed_grammars_lem
