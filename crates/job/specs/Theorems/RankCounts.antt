-- What a rule's rank is. Assumes nothing.
use Rattle.std.specs.Prelude.{◌≡◌, ◌↔◌, Bool, false, List, ℕ, ◌<◌, ltb, length, get_or}
use Rattle.grammar.specs.Counting.{count}
use Rattle.job.specs.declared.JobRecord.{JobRecord}
use Rattle.job.specs.declared.Limits.{Limits}
use Rattle.job.specs.Format.{field_classes, records_of, no_record}
use Rattle.job.specs.Check.{check_of, accepted}
use Rattle.job.specs.Job.{sort_key_lem, sorted_rules_lem}

-- the rule at a place sorts before that at another
abbrev pub sorts_before : List JobRecord → ℕ → ℕ → Bool
sorts_before rs k i = ltb (sort_key_lem (get_or rs k no_record)) (sort_key_lem (get_or rs i no_record))

-- The job: a rule's rank is its place, from 0, among the sorted rules; as many rules sort before it
abbrev pub RankCounts : Type 0
RankCounts =
    (limits : Limits) (job : List ℕ) → check_of field_classes limits false job ≡ accepted →
    (i : ℕ) → i < length (sorted_rules_lem (records_of job)) →
    count (λ k. sorts_before (sorted_rules_lem (records_of job)) k i) (length (sorted_rules_lem (records_of job))) ≡ i

-- The job: field 1 is compared first, then the kind byte, then field 2, then field 3; the first that differs decides
pub data ComesBefore (a b : JobRecord) : Type 0 where
  by_first : a.first < b.first → ComesBefore a b
  by_kind : a.first ≡ b.first → a.kind < b.kind → ComesBefore a b
  by_second : a.first ≡ b.first → a.kind ≡ b.kind → a.second < b.second → ComesBefore a b
  by_third :
      a.first ≡ b.first → a.kind ≡ b.kind → a.second ≡ b.second → a.third < b.third → ComesBefore a b

-- the four are bytes
pub record FourBytes (r : JobRecord) : Type 0 where
  pub kind : r.kind < 256
  pub first : r.first < 256
  pub second : r.second < 256
  pub third : r.third < 256

-- The job: of records of bytes, the one that comes before another in this order is the one with the lower sort key
unfoldable pub KeysInOrder : Type 0
KeysInOrder = (a b : JobRecord) → FourBytes a → FourBytes b → (sort_key_lem a < sort_key_lem b) ↔ ComesBefore a b

-- so the rules of an accepted job, ranked, stand in this order
unfoldable pub RanksInOrder : Type 0
RanksInOrder =
    (limits : Limits) (job : List ℕ) → check_of field_classes limits false job ≡ accepted →
    (i j : ℕ) → i < j → j < length (sorted_rules_lem (records_of job)) →
    ComesBefore (get_or (sorted_rules_lem (records_of job)) i no_record) (get_or (sorted_rules_lem (records_of job)) j no_record)
