-- What the functions that write the given transitions leave, on a table of bytes or of bits: the writes are those of
-- `giving`, whose tests the branches make, one record after the other. Assumes nothing.
use Rattle.grammar.proofs.Basics.{◌≡◌, refl, true, false, Bool, not, List, ℕ, ◌<◌, ◌≤◌, ◌+◌, arith, ltb, length, get_or}
use Rattle.grammar.proofs.Basics.{set, eq-eqb, ne_eqb, not-true, not-false}
use Rattle.job.specs.declared.JobRecord.{JobRecord}
use Rattle.job.specs.Format.{byte_t, no_record}
use Rattle.machine.specs.Table.{Lent, lent_of, table_place, reason_place_lem, given_reason}
use Rattle.machine.specs.Inside.StartParts.{giving, giving_all}
use Rattle.machine.proofs.Starts.StartWalk.{Walked, walk_goes_on, walk_ends}

-- one record
module _ (r : JobRecord) (table reasons : List ℕ) where
  pub not_given : (r.kind ≡ byte_t → ⊥) → lent_of table reasons ≡ giving r (lent_of table reasons)
  unfolding giving
  not_given d = rw (ne_eqb r.kind byte_t d)

  module _ (e : r.kind ≡ byte_t) (t : List ℕ)
      (pending : t ≡ set table (table_place r.first r.second r.third) 1) (v : Bool)
      (is : v ≡ ltb r.second 32) where
    pub terminal_given : not v ≡ true → lent_of t reasons ≡ giving r (lent_of table reasons)
    unfolding giving
    terminal_given f = rw (pending, eq-eqb r.kind byte_t e, ← is, not-true v f)

    pub variable_given : not v ≡ false →
        lent_of t (set reasons (reason_place_lem r.first r.second r.third) given_reason)
        ≡ giving r (lent_of table reasons)
    unfolding giving
    variable_given f = rw (pending, eq-eqb r.kind byte_t e, ← is, not-false v f)

-- all records: the changes of the records, whatever their index
abbrev pub giving_from : ℕ → List JobRecord → Lent → Lent
giving_from i rs m = giving_all rs m

module _ (rs : List JobRecord) (m m' : Lent) (count i : ℕ) (counted : count ≡ length rs)
    (walked : Walked giving_from rs m m' i) where
  pub giving_goes_on : (t t' : List ℕ) → i < count → (r : JobRecord) → r ≡ get_or rs i no_record →
      lent_of t t' ≡ giving r m' → length t ≡ length m'.table → length t' ≡ length m'.reasons →
      Walked giving_from rs m (lent_of t t') (i + 1)
  unfolding giving_all
  giving_goes_on t t' h r at e =
      walk_goes_on giving_from rs m m' i walked (λ i. giving) (λ i x xs n. refl) no_record t t' (omega arith)
      (rw at at e)

  pub giving_ends : count ≤ i → m' ≡ giving_all rs m
  unfolding giving_all
  giving_ends h = walk_ends giving_from rs m m' i walked (λ i n. refl) (omega arith)
