-- The number of states is the least number above each state that a record names: a maximum over the records of a
-- maximum over each; and what one record more makes of it. Assumes nothing.
use Rattle.grammar.proofs.Basics.{◌≡◌, refl, ap, ⊎_elim, inl, inr, ◌||◌, List, ◌∷◌, [], ◌++◌, List·Memᴰ}
use Rattle.grammar.proofs.Basics.{List·Memᴰ·head, List·Memᴰ·tail, ℕ, ◌<◌, ◌≤◌, arith, eqb, eqb-true, cases, or_split}
use Prim.Native.Nat.{max}
use Rattle.job.specs.declared.JobRecord.{JobRecord}
use Rattle.job.specs.Format.{byte_t, byte_i, byte_f}
use Rattle.job.specs.Job.{states_in_lem, states_of}
use Rattle.job.specs.Theorems.StateCount.{NamesState, StateCount}

-- a state that a record names is below the number of that record
named_below : (r : JobRecord) (q : ℕ) → NamesState r q → q < states_in_lem r
named_below r q (inl (k, inl e)) = rw k (omega arith)
named_below r q (inl (k, inr e)) = rw k (omega arith)
named_below r q (inr (inl k, e)) = rw k (omega arith)
named_below r q (inr (inr k, e)) = rw k (omega arith)

-- and no smaller number has that property
record_least : (r : JobRecord) (s : ℕ) → ((q : ℕ) → NamesState r q → q < s) → states_in_lem r ≤ s
record_least r s above =
    cases (eqb r.kind byte_t)
    (λ t.
    let k = eqb-true r.kind byte_t t in
    rw t (omega (arith, above r.first (inl (k, inl refl)), above r.third (inl (k, inr refl)))))
    (λ t.
    cases (eqb r.kind byte_i || eqb r.kind byte_f)
    (λ u.
    rw (t, u) (above r.first
    (inr (⊎_elim (λ v. inl (eqb-true _ _ v)) (λ v. inr (eqb-true _ _ v)) (or_split _ _ u), refl))))
    (λ u. rw (t, u) (omega arith)))

-- the same for all records
pub named_below_all : {r : JobRecord} {rs : List JobRecord} (q : ℕ) → List·Memᴰ r rs → NamesState r q → q < states_of rs
unfolding states_of
named_below_all {r = r} q (List·Memᴰ·head e) n = omega (arith, named_below r q n, ap states_in_lem e)
named_below_all q (List·Memᴰ·tail m) n = omega (arith, named_below_all q m n)

pub states_least : (rs : List JobRecord) (s : ℕ) → ((r : JobRecord) (q : ℕ) → List·Memᴰ r rs → NamesState r q → q < s)
    → states_of rs ≤ s
unfolding states_of
states_least [] s above = omega arith
states_least (r ∷ rs) s above =
    omega (
      arith,
      record_least r s (λ q. above r q (List·Memᴰ·head refl)),
      states_least rs s (λ x q m. above x q (List·Memᴰ·tail m)),
    )

-- one record more, behind the others
pub states_behind : (rs : List JobRecord) (r : JobRecord) → states_of (rs ++ r ∷ []) ≡ max (states_of rs) (states_in_lem r)
unfolding states_of
states_behind [] r = omega arith
states_behind (x ∷ rs) r = omega (arith, states_behind rs r)

pub state_count_lem : StateCount
state_count_lem rs = record { bounds = λ r q m n. named_below_all q m n; least = states_least rs }
