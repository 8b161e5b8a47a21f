-- The checks of records of any format: what they tried where they refuse nothing, and the walk over the records by
-- place. Assumes nothing.
use Rattle.grammar.proofs.Basics.{◌≡◌, refl, ◌∙◌, true, false, Bool, cond, List, ◌∷◌, [], ◌++◌, ℕ, ◌<◌, ◌≤◌, ◌+◌, suc}
use Rattle.grammar.proofs.Basics.{◌%◌, le_of_lt, add-one, arith, eqb, length, get_or, take, drop, drop-cons, take-suc}
use Rattle.grammar.proofs.Basics.{length-take-le, drop_of_length-le, eq-eqb, ne_eqb, eqb-true, eqb-false, ltb-false}
use Rattle.grammar.proofs.Basics.{le-ltb, not-false, cases}
use Rattle.job.specs.Records.{Checked}
use Rattle.job.specs.Records.{refused, accepted, or_else, RecordFormat, first_fault, length_check_lem, bytes_check}

-- a check that refuses nothing passes each test that would refuse
pub check_passed_test : (b : Bool) (n p : ℕ) (c : Checked) → (cond b (refused (suc n) p) c).number ≡ 0
    → (b ≡ false) × (c.number ≡ 0)
check_passed_test true n p c e = absurd (omega arith)
check_passed_test false n p c e = (refl, e)

-- of two checks in turn that refuse nothing, neither does
pub both_pass : (c d : Checked) → (or_else c d).number ≡ 0 → (c.number ≡ 0) × (d.number ≡ 0)
both_pass c d e =
    cases (eqb c.number 0) (λ t. (eqb-true c.number 0 t, rw t at e))
    (λ t. absurd (eqb-false c.number 0 t (rw t at e)))

-- 2 and 1 refuse nothing exactly where the records are whole and within the most bytes
module _ (most size n : ℕ) where
  pub length_passed : (length_check_lem most size n).number ≡ 0 → (n ≤ most) × (n % size ≡ 0)
  unfolding length_check_lem
  length_passed e =
      let (long, e) = check_passed_test _ _ _ _ e in
      let (broken, e) = check_passed_test _ _ _ _ e in
      (ltb-false _ _ long, eqb-true _ _ (not-false _ broken))

  pub length_fits : n ≤ most → n % size ≡ 0 → length_check_lem most size n ≡ accepted
  unfolding length_check_lem
  length_fits h e = rw (le-ltb most n h, eq-eqb (n % size) 0 e)

-- the records from i on, after those before it, decide what the whole walk comes to
abbrev pub Remains : {R : Type 0} → RecordFormat R → List R → ℕ → Type 0
Remains f rs i = first_fault f [] rs ≡ first_fault f (take i rs) (drop i rs)

module _ {R : Type 0} (f : RecordFormat R) where
  -- the walk goes on past a record that it does not refuse
  pub walks_on : (seen : List R) (r : R) (rs : List R) → (first_fault f seen (r ∷ rs)).number ≡ 0
      → (f.fault seen r ≡ 0) × ((first_fault f (seen ++ (r ∷ [])) rs).number ≡ 0)
  unfolding first_fault
  walks_on seen r rs e =
      cases (eqb (f.fault seen r) 0) (λ t. (eqb-true (f.fault seen r) 0 t, rw t at e))
      (λ t. absurd (eqb-false (f.fault seen r) 0 t (rw t at e)))

  module _ (bytes : List ℕ) where
    -- whole records within the most bytes are decided by the walk over them
    pub by_records : length bytes ≤ f.most → length bytes % f.size ≡ 0
        → bytes_check f bytes ≡ first_fault f [] (f.read bytes)
    unfolding bytes_check
    by_records h e = rw (length_fits f.most f.size (length bytes) h e)

    pub bytes_passed : (bytes_check f bytes).number ≡ 0
        → (length bytes ≤ f.most) × (length bytes % f.size ≡ 0) × ((first_fault f [] (f.read bytes)).number ≡ 0)
    unfolding bytes_check
    bytes_passed e =
        let (sized, e) = both_pass _ _ e in
        let (within, whole) = length_passed f.most f.size (length bytes) sized in
        (within, whole, e)

  -- the walk at record i; d stands past the last record
  module _ (rs : List R) (i : ℕ) (rest : Remains f rs i) where
    module _ (d : R) (below : i < length rs) where
      pub refused_at : (n : ℕ) → f.fault (take i rs) (get_or rs i d) ≡ n → (n ≡ 0 → ⊥)
          → first_fault f [] rs ≡ refused n (f.place n i (get_or rs i d))
      unfolding first_fault
      refused_at n e z =
          rw (rest, drop-cons rs i d below, e, ne_eqb n 0 z, length-take-le i rs (le_of_lt below))

      pub passed_at : f.fault (take i rs) (get_or rs i d) ≡ 0 → Remains f rs (i + 1)
      unfolding first_fault
      passed_at e = rest ∙ rw (drop-cons rs i d below, e, add-one, take-suc rs i d below)

    pub all_passed : length rs ≤ i → first_fault f [] rs ≡ accepted
    unfolding first_fault
    all_passed h = rw (rest, drop_of_length-le rs)
