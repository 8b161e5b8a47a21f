-- Table and machine: start. Assumes nothing.
use Rattle.std.specs.Prelude.{ℕ, suc, Bool, cond, ◌&&◌, ◌||◌, List, [], ◌∷◌, eqb, leb, ltb}
use Rattle.grammar.specs.Rule.{Rule, empty, unit, pair}
use Rattle.job.specs.Job.{Job}
use Rattle.machine.specs.Table.{Lent, table_size, reasons_size, from_state, symbol_at, to_state, reason_state}
use Rattle.machine.specs.Table.{reason_variable, given_reason, reason_of, when, lesser, each}

-- the smallest reason that the E rules, from a rank on, give a variable's transition from a state to itself, 0 where
-- no E rule is for it
unfoldable pub empty_reason : ℕ → ℕ → List Rule → ℕ
empty_reason A rank [] = 0
empty_reason A rank (empty B ∷ ρs) = lesser (when (eqb B A) (reason_of rank 0)) (empty_reason A (suc rank) ρs)
empty_reason A rank (unit B X ∷ ρs) = empty_reason A (suc rank) ρs
empty_reason A rank (pair B X Y ∷ ρs) = empty_reason A (suc rank) ρs

-- an E rule for A makes (q, A, q) at every state q of the job
abbrev pub is_empty_at : Job → ℕ → ℕ → ℕ → Bool
is_empty_at J q X r = eqb q r && ltb q J.states && leb 1 (empty_reason X 0 J.rules)

-- the given transitions and those of E rules are pending, all else is absent
abbrev pub start_byte : Job → ℕ → ℕ → ℕ
start_byte J p old =
    cond (leb table_size p) old
    (cond (J.given (from_state p) (symbol_at p) (to_state p) || is_empty_at J (from_state p) (symbol_at p) (to_state p)) 1 0)

-- a given transition of a variable has the reason given, also where an E rule makes it; the others of E rules have
-- that of the rule. The turn of all of them is 0, so that the reason alone stands there.
abbrev pub start_reason : Job → ℕ → ℕ → ℕ
start_reason J k old =
    cond (leb reasons_size k) old
    (cond (J.given (reason_state k) (reason_variable k) (to_state k)) given_reason
    (when (eqb (reason_state k) (to_state k) && ltb (reason_state k) J.states)
    (empty_reason (reason_variable k) 0 J.rules)))

-- start writes the whole table and all reasons
unfoldable pub started : Job → Lent → Lent
started J m = record { table = each (start_byte J) 0 m.table; reasons = each (start_reason J) 0 m.reasons }
