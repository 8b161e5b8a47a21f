-- Reasons that fit: each says how the job's rules make its transition out of done ones, and as turns fall from a
-- transition to its premises, no chain of reasons goes in a circle. Assumes nothing.
use Rattle.std.specs.Prelude.{◌≡◌, Bool, true, false, List, ℕ, ◌≤◌, ◌<◌, length, get_or}
use Rattle.grammar.specs.Rule.{Rule, empty, unit, pair}
use Rattle.job.specs.Job.{Job}
use Rattle.machine.specs.Table.{Lent, table_size, table_place, reason_place_lem, Statuses, is_absent_at, is_done_at, done_in}
use Rattle.machine.specs.Table.{done_count_lem, statuses, given_reason, reason_of, reason_in, turn_at_lem}
use Rattle.machine.specs.Start.{started}
use Rattle.machine.specs.Advance.{steps}
use Rattle.job.specs.Theorems.InRange.{InRange}
use Rattle.machine.specs.Theorems.Steps.{LongEnough}

-- the rule of a rank; `empty 0` only stands past the end of the list, where no rank is
abbrev pub RuleAt : List Rule → ℕ → Rule → Type 0
RuleAt ρs rank ρ = (rank < length ρs) × (get_or ρs rank (empty 0) ≡ ρ)

-- Forms and listings: a premise is done, and its turn is before that of what it explains
pub record Premise (done : ℕ → ℕ → ℕ → Bool) (turn : ℕ → ℕ) (above q X r : ℕ) : Type 0 where
  pub is_done_lem' : done q X r ≡ true
  pub earlier : turn (table_place q X r) < turn above

-- Table and machine, Forms and listings: what the reason n of the transition (q, A, r) says. A given transition and
-- that of an E rule have no premise, that of a U rule one, that of a P rule two, which meet at the middle.
pub data Reason (J : Job) (done : ℕ → ℕ → ℕ → Bool) (turn : ℕ → ℕ) (q A r n : ℕ) : Type 0 where
  by_given : J.given q A r ≡ true → n ≡ given_reason → Reason J done turn q A r n
  by_empty :
      (rank : ℕ) → J.given q A r ≡ false → n ≡ reason_of rank 0 → RuleAt J.rules rank (empty A) → q ≡ r →
      q < J.states → Reason J done turn q A r n
  by_unit :
      (rank X : ℕ) → J.given q A r ≡ false → n ≡ reason_of rank 0 → RuleAt J.rules rank (unit A X) →
      Premise done turn (table_place q A r) q X r → Reason J done turn q A r n
  by_pair :
      (rank X Y middle : ℕ) → J.given q A r ≡ false → n ≡ reason_of rank middle → middle < 32 →
      RuleAt J.rules rank (pair A X Y) → Premise done turn (table_place q A r) q X middle →
      Premise done turn (table_place q A r) middle Y r → Reason J done turn q A r n

-- Every transition of a variable that is pending or done has a reason that fits, every absent one has none. The
-- turns of done places are below their number, so no chain of reasons has more of them.
pub record ReasonsFit (J : Job) (v : Statuses) (reasons : List ℕ) : Type 0 where
  pub bounded : (p : ℕ) → p < table_size → is_absent_at v p ≡ false → turn_at_lem reasons p ≤ done_count_lem v
  pub done_bounded : (p : ℕ) → p < table_size → is_done_at v p ≡ true → turn_at_lem reasons p < done_count_lem v
  pub fits :
      (q A r : ℕ) → q < 32 → A < 32 → r < 32 → is_absent_at v (table_place q A r) ≡ false →
      Reason J (done_in v) (turn_at_lem reasons) q A r (reason_in (get_or reasons (reason_place_lem q A r) 0))
  pub none :
      (q A r : ℕ) → q < 32 → A < 32 → r < 32 → is_absent_at v (table_place q A r) ≡ true →
      get_or reasons (reason_place_lem q A r) 0 ≡ 0

-- Table and machine: after a start and any number of steps the reasons fit
unfoldable pub RunReasonsFit : Type 0
RunReasonsFit =
    (J : Job) → InRange J → (m : Lent) → LongEnough m → (n : ℕ) →
    ReasonsFit J (statuses (steps J.rules n (started J m)).table) (steps J.rules n (started J m)).reasons
