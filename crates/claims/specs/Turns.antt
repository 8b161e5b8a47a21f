-- The turns of premises, as a claim about whole lists of calls. Assumes nothing.
use Rattle.std.specs.Prelude.{◌≡◌, Bool, true, false, not, ◌&&◌, ◌||◌, ℕ, ◌<◌, eqb}
use mathlib.Core.List.{List, [], ◌∷◌, Memᴰ}
use Rattle.grammar.specs.Rule.{Rule}
use Rattle.job.specs.Check.{job_check, accepted}
use Rattle.job.specs.Job.{job_of}
use Rattle.machine.specs.Table.{Lent, table_size, is_absent_at, turn_at_lem}
use Rattle.forms.specs.Listing.{premises}
use Rattle.claims.specs.Call.{Kind, says_of, Call, Answer, started, advanced, asked, explained, judged, counted}
use Rattle.claims.specs.Call.{CallOutcome, run_of}
use Rattle.claims.specs.Alike.{settles}

-- Table and machine: each premise has a smaller turn than the pending or done transition whose reason names it. A
-- terminal's turn is 0 by definition, a variable's is that of its entry.
abbrev pub TurnsFall : Kind → List Rule → Lent → Type 0
TurnsFall k rules m =
    (p q : ℕ) → p < table_size → is_absent_at (says_of k m.table) p ≡ false →
    Memᴰ q (premises rules m.reasons p) → turn_at_lem m.reasons q < turn_at_lem m.reasons p

-- Table and machine: whether after a call only advances and explains wrote table or reasons since a start. A start and
-- an explain begin with one, unless they are refused; verdicts that are not refused write the table, and nothing else
-- that is not a start, an advance or an explain writes anything.
abbrev pub since_start : Bool → Answer → Bool
since_start known (started a) = known || settles (started a)
since_start known (advanced a) = known
since_start known (asked a) = known
since_start known (explained a) = known || settles (explained a)
since_start known (judged a) = known && not (eqb a.number 0)
since_start known (counted a) = known

-- then turns fall, call by call
pub data TurnsRight (k : Kind) (rules : List Rule) : Bool → List CallOutcome → Type 0 where
  none : {known : Bool} → TurnsRight k rules known []
  more : {known : Bool} {g : CallOutcome} {gs : List CallOutcome} →
      (since_start known g.answer ≡ true → TurnsFall k rules g.lent) →
      TurnsRight k rules (since_start known g.answer) gs → TurnsRight k rules known (g ∷ gs)

-- for tables of bytes and of bits, every accepted job, every lent memory and every list of calls; accepted is by the
-- verdicts' checks. On another job every call that writes is refused, and writes nothing.
unfoldable pub TurnsInRuns : Type 0
TurnsInRuns =
    (k : Kind) (job : List ℕ) → job_check false job ≡ accepted → (m : Lent) (cs : List (Call k)) →
    TurnsRight k (job_of job).rules false (run_of k job m cs)
