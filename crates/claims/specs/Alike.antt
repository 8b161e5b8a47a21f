-- When two runs are alike. Assumes nothing.
use Rattle.std.specs.Prelude.{◌≡◌, ℕ, ◌*◌, Bool, true, false, cond, ◌||◌, List, [], ◌∷◌, eqb, length, take, drop}
use Rattle.machine.specs.Table.{Lent, KeepsRest, reasons_size}
use Rattle.claims.specs.Call.{Kind, bytes, bits, size_of, Call, start, advance, ask, explain, verdicts, count}
use Rattle.claims.specs.Call.{Answer, started, advanced, asked, explained, judged, counted, CallOutcome}

-- The two runs: n or form are the same in both; a call's own buffer is as long in both, whatever it holds
pub data SameCall : (k : Kind) → Call k → Call k → Type 0 where
  same_start : {k : Kind} → SameCall k start start
  same_advance : {k : Kind} (n : ℕ) → SameCall k (advance n) (advance n)
  same_ask : {k : Kind} (form : List ℕ) → SameCall k (ask form) (ask form)
  same_explain : (form a b : List ℕ) → length a ≡ length b → SameCall bytes (explain form a) (explain form b)
  same_verdicts : (a b : List ℕ) → length a ≡ length b → SameCall bytes (verdicts a) (verdicts b)
  same_count : SameCall bits count count

pub data SameCalls (k : Kind) : List (Call k) → List (Call k) → Type 0 where
  none : SameCalls k [] []
  more : {c d : Call k} {cs ds : List (Call k)} → SameCall k c d → SameCalls k cs ds → SameCalls k (c ∷ cs) (d ∷ ds)

-- The two runs: table and reasons are as long in one run as in the other
pub record SameLengths (m n : Lent) : Type 0 where
  pub table : length m.table ≡ length n.table
  pub reasons : length m.reasons ≡ length n.reasons

-- The two runs: equal first 65,536 bytes, of a bit table 16,384, and 32,768 reasons, with their turns, or all of them
-- where there are fewer
pub record SameFirst (k : Kind) (m n : Lent) : Type 0 where
  pub table : take (size_of k) m.table ≡ take (size_of k) n.table
  pub reasons : take reasons_size m.reasons ≡ take reasons_size n.reasons

-- the number and the place of a refusal
abbrev pub number_of : Answer → ℕ
number_of (started a) = a.number
number_of (advanced a) = a.number
number_of (asked a) = a.number
number_of (explained a) = a.number
number_of (judged a) = a.number
number_of (counted a) = a.number

abbrev pub place_of : Answer → ℕ
place_of (started a) = a.place
place_of (advanced a) = a.place
place_of (asked a) = a.place
place_of (explained a) = a.place
place_of (judged a) = a.place
place_of (counted a) = a.place

-- The two runs: from a start that is not refused on, or an explain that is not refused or refused by 13, all is alike
abbrev pub settles : Answer → Bool
settles (started a) = eqb a.number 0
settles (advanced a) = false
settles (asked a) = false
settles (explained a) = eqb a.number 0 || eqb a.number 13
settles (judged a) = false
settles (counted a) = false

-- how many bytes of its own buffer a call writes: the listing records, the codes of verdicts that are not refused
abbrev pub own_written : Answer → ℕ
own_written (started a) = 0
own_written (advanced a) = 0
own_written (asked a) = 0
own_written (explained a) = 8 * a.records
own_written (judged a) = cond (eqb a.number 0) 64 0
own_written (counted a) = 0

-- The two runs: all answers of start, explain and verdicts are alike whatever table and reasons hold
abbrev pub AnswerAlike : Answer → Answer → Type 0
AnswerAlike (started a) b = started a ≡ b
AnswerAlike (advanced a) b = Unit {0}
AnswerAlike (asked a) b = Unit {0}
AnswerAlike (explained a) b = explained a ≡ b
AnswerAlike (judged a) b = judged a ≡ b
AnswerAlike (counted a) b = Unit {0}

-- two calls are alike; `known`: whether table and reasons are known to be equal before it
pub record CallAlike (k : Kind) (known : Bool) (g h : CallOutcome) : Type 0 where
  pub number : number_of g.answer ≡ number_of h.answer
  pub place : place_of g.answer ≡ place_of h.answer
  pub always : AnswerAlike g.answer h.answer
  pub written : take (own_written g.answer) g.own ≡ take (own_written g.answer) h.own
  pub answer : known || settles g.answer ≡ true → g.answer ≡ h.answer
  pub lent : known || settles g.answer ≡ true → SameFirst k g.lent h.lent

-- two runs are alike, call by call; what is known of table and reasons stays known
pub data TraceAlike (k : Kind) : Bool → List CallOutcome → List CallOutcome → Type 0 where
  none : {known : Bool} → TraceAlike k known [] []
  more : {known : Bool} {g h : CallOutcome} {gs hs : List CallOutcome} →
      CallAlike k known g h → TraceAlike k (known || settles g.answer) gs hs →
      TraceAlike k known (g ∷ gs) (h ∷ hs)

-- a call's own buffer as it was before the call
abbrev pub own_of : (k : Kind) → Call k → List ℕ
own_of k start = []
own_of k (advance n) = []
own_of k (ask form) = []
own_of bytes (explain form listing) = listing
own_of bytes (verdicts codes) = codes
own_of bits count = []

-- The two runs: in a run, past what a call may write all is as it was
pub data Unwritten (k : Kind) : Lent → List (Call k) → List CallOutcome → Type 0 where
  none : {m : Lent} → Unwritten k m [] []
  more : {m : Lent} {c : Call k} {cs : List (Call k)} {g : CallOutcome} {gs : List CallOutcome} →
      KeepsRest (size_of k) m g.lent →
      drop (own_written g.answer) g.own ≡ drop (own_written g.answer) (own_of k c) →
      Unwritten k g.lent cs gs → Unwritten k m (c ∷ cs) (g ∷ gs)
