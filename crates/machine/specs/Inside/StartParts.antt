-- What the functions that write a start give, one after the other. Assumes nothing.
use Rattle.std.specs.Prelude.{◌≡◌, ℕ, zero, suc, ◌<◌, cond, List, [], ◌∷◌, eqb, ltb, set}
use Rattle.grammar.specs.Rule.{Rule, empty, unit, pair}
use Rattle.job.specs.declared.JobRecord.{JobRecord}
use Rattle.job.specs.Format.{byte_t}
use Rattle.machine.specs.Table.{Lent, table_place, reason_place_lem, given_reason, reason_of}
use Rattle.machine.specs.Inside.Offers.{offer_to, add_offer}

-- a T record's transition has a place in the table
abbrev pub TransitionFits : JobRecord → Type 0
TransitionFits r = r.kind ≡ byte_t → (r.first < 32) × (r.second < 64) × (r.third < 32)

-- the transition of a T record becomes pending, and given if its label is a variable; another record changes nothing
unfoldable pub giving : JobRecord → Lent → Lent
giving r m =
    cond (eqb r.kind byte_t)
    (record {
      table = set m.table (table_place r.first r.second r.third) 1;
      reasons =
          cond (ltb r.second 32) (set m.reasons (reason_place_lem r.first r.second r.third) given_reason)
          m.reasons;
    })
    m

-- one record after the other
unfoldable pub giving_all : List JobRecord → Lent → Lent
giving_all [] m = m
giving_all (r ∷ rs) m = giving_all rs (giving r m)

-- the transitions of a variable from each state below a number to itself become pending with a reason, unless they are
-- already
unfoldable pub looping_below : ℕ → ℕ → ℕ → Lent → Lent
looping_below A reason zero m = m
looping_below A reason (suc q) m = add_offer (offer_to q A q reason) (looping_below A reason q m)

-- the ε transitions of a rule of a rank, where it is an E rule, at the states below a number
abbrev pub looping_rule : ℕ → ℕ → Rule → Lent → Lent
looping_rule states rank (empty A) m = looping_below A (reason_of rank 0) states m
looping_rule states rank (unit A X) m = m
looping_rule states rank (pair A X Y) m = m

-- one rule after the other, from a rank on
unfoldable pub looping_all : ℕ → ℕ → List Rule → Lent → Lent
looping_all states rank [] m = m
looping_all states rank (ρ ∷ ρs) m = looping_all states (suc rank) ρs (looping_rule states rank ρ m)
