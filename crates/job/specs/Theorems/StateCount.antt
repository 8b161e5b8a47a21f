-- What the number of states is. Assumes nothing.
use Rattle.std.specs.Prelude.{◌≡◌, ◌⊎◌, ℕ, ◌<◌, ◌≤◌}
use mathlib.Core.List.{List, Memᴰ}
use Rattle.job.specs.declared.JobRecord.{JobRecord}
use Rattle.job.specs.Format.{byte_t, byte_i, byte_f}
use Rattle.job.specs.Job.{states_of}

-- a record names a state: the two of T, the one of I and F
abbrev pub NamesState : JobRecord → ℕ → Type 0
NamesState r q =
    ((r.kind ≡ byte_t) × ((q ≡ r.first) ⊎ (q ≡ r.third)))
    ⊎ (((r.kind ≡ byte_i) ⊎ (r.kind ≡ byte_f)) × (q ≡ r.first))

-- The job: each state that a T, I or F record names is below the number of states, and no smaller number has that
-- property
pub record LeastBound (rs : List JobRecord) : Type 0 where
  pub bounds : (r : JobRecord) (q : ℕ) → Memᴰ r rs → NamesState r q → q < states_of rs
  pub least : (s : ℕ) → ((r : JobRecord) (q : ℕ) → Memᴰ r rs → NamesState r q → q < s) → states_of rs ≤ s

abbrev pub StateCount : Type 0
StateCount = (rs : List JobRecord) → LeastBound rs
