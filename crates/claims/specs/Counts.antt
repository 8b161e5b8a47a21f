-- What the counts of the advances after a start add up to: The demands, 3. Assumes nothing.
use Rattle.std.specs.Prelude.{◌≡◌, ◌↔◌, ℕ, ◌+◌, ◌*◌, ◌≤◌, min, Bool, true, cond, List, [], ◌∷◌, eqb}
use Rattle.grammar.specs.Counting.{meetings, pair_rules}
use Rattle.job.specs.Job.{Job}
use Rattle.machine.specs.Smallest.{DecidesSmallest}
use Rattle.claims.specs.Call.{Kind, bytes, bits, Call, start, advance, ask, explain, verdicts, count, Answer}
use Rattle.claims.specs.Call.{started, advanced, asked, explained, judged, counted, CallOutcome}
use Rattle.claims.specs.Alike.{settles}

-- Where a run stands: no start counts, as there was none or another call wrote the table since; or, since a start not
-- refused, the steps asked for, the steps made and the meetings so far.
pub data Counting : Type 0 where
  idle : Counting
  since : (asked steps meetings : ℕ) → Counting

-- an advance adds what was asked for and what it answers
abbrev pub adding : ℕ → ℕ → ℕ → Counting → Counting
adding n s k idle = idle
adding n s k (since a b c) = since (a + n) (b + s) (c + k)

-- The demands, 3: a start that is not refused begins the counting, and a call other than advance that writes the table
-- ends it. A refused call writes nothing, but for an explain refused by 13.
abbrev pub after : (t : Kind) → Counting → Call t → Answer → Counting
after t k c (started a) = cond (eqb a.number 0) (since 0 0 0) k
after t k (advance n) (advanced a) = cond (eqb a.number 0) (adding n a.steps a.meetings k) k
after t k start (advanced a) = k
after t k (ask form) (advanced a) = k
after bytes k (explain form listing) (advanced a) = k
after bytes k (verdicts codes) (advanced a) = k
after bits k count (advanced a) = k
after t k c (asked a) = k
after t k c (explained a) = cond (settles (explained a)) idle k
after t k c (judged a) = cond (eqb a.number 0) idle k
after t k c (counted a) = k

-- The demands, 3, where N is the number of transitions of the smallest set: the steps add up to those asked for, or to
-- N where that is less; finished is said exactly where the sum is N, and then the meetings add up to those of the
-- smallest set; they are at most pair rules × s³
pub record CountsRight (J : Job) (N asked steps met : ℕ) (finished : Bool) : Type 0 where
  pub steps_right : steps ≡ min asked N
  pub finished_right : (finished ≡ true) ↔ (steps ≡ N)
  pub meetings_right :
      finished ≡ true → (test : ℕ → ℕ → ℕ → Bool) → DecidesSmallest J test → met ≡ meetings test 32 J.rules
  pub meetings_few : met ≤ pair_rules J.rules * (J.states * J.states * J.states)

-- at each advance since a start; and The bit table: the done count is then the number of steps made
abbrev pub AnswerRight : Job → ℕ → Counting → Answer → Type 0
AnswerRight J N (since a s k) (advanced answer) = CountsRight J N a s k answer.finished
AnswerRight J N (since a s k) (started answer) = Unit {0}
AnswerRight J N (since a s k) (asked answer) = Unit {0}
AnswerRight J N (since a s k) (explained answer) = Unit {0}
AnswerRight J N (since a s k) (judged answer) = Unit {0}
AnswerRight J N (since a s k) (counted answer) = answer.count ≡ s
AnswerRight J N idle answer = Unit {0}

-- in a whole run
pub data Counted (t : Kind) (J : Job) (N : ℕ) : Counting → List (Call t) → List CallOutcome → Type 0 where
  none : {k : Counting} → Counted t J N k [] []
  more : {k : Counting} {c : Call t} {cs : List (Call t)} {g : CallOutcome} {gs : List CallOutcome} →
      AnswerRight J N (after t k c g.answer) g.answer → Counted t J N (after t k c g.answer) cs gs →
      Counted t J N k (c ∷ cs) (g ∷ gs)
