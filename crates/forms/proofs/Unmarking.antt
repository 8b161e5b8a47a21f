-- Taking marks back, byte by byte, and after a run of listings: a byte 3 was 2 where none was 3 before. Assumes
-- nothing.
use Rattle.grammar.proofs.Basics.{◌≡◌, sym, true, false, ◌&&◌, cond, List, ℕ, ◌<◌, ◌+◌, arith, eqb, ltb, length, get_or}
use Rattle.grammar.proofs.Basics.{set, eqb-false, ltb-true, lt-ltb, le-ltb, cases, same_test}
use Rattle.machine.proofs.Tables.Bytes.{done_two_three}
use Rattle.machine.specs.Table.{table_size, is_done_lem, each}
use Rattle.machine.proofs.Tables.Each.{get_or_each_0, each_identity, set_each}
use Rattle.forms.specs.Listing.{unmarked}

-- up to a place
abbrev pub unmarked_to : ℕ → ℕ → ℕ → ℕ
unmarked_to n k b = cond (ltb k n && eqb b 3) 2 b

pub unmarked_none : (t : List ℕ) → t ≡ each (unmarked_to 0) 0 t
unmarked_none t = sym (each_identity (unmarked_to 0) 0 t (λ k h. rw (le-ltb (0 + k) 0 (omega arith))))

-- one byte more
pub unmarked_next : (t : List ℕ) {now : List ℕ} {i b : ℕ} → i < length t → now ≡ each (unmarked_to i) 0 t →
    b ≡ cond (eqb (get_or now i 0) 3) 2 (get_or now i 0) → set now i b ≡ each (unmarked_to (i + 1)) 0 t
unmarked_next t {now} {i} {b} h e byte =
    let at : get_or now i 0 ≡ get_or t i 0 = rw (e, get_or_each_0 (unmarked_to i) t i h, le-ltb i i (omega arith)) in
    rw e
    (set_each (unmarked_to i) _ t i b h (rw (byte, at, lt-ltb i (i + 1) (omega arith)))
    (λ k x other.
    let same : ltb k (i + 1) ≡ ltb k i = same_test _ _ (λ l. lt-ltb k i (omega (arith, ltb-true k _ l)))
    (λ l. lt-ltb k (i + 1) (omega (arith, ltb-true k i l))) in
    rw same))

-- a byte that is not 3 stays, and a mark gives back the done byte that was not 3
pub unmarked_other : (k b : ℕ) → (k < table_size → eqb b 3 ≡ false) → unmarked k b ≡ b
unmarked_other k b none = cases (ltb k table_size) (λ l. rw l (rw (none (ltb-true k table_size l)))) (λ l. rw l)

pub unmarked_three : (k b : ℕ) → k < table_size → is_done_lem b ≡ true → eqb b 3 ≡ false → unmarked k 3 ≡ b
unmarked_three k b h d none =
    let other : ¬ (b ≡ 3) = eqb-false b 3 none in
    rw (lt-ltb k table_size h) (omega (arith, done_two_three b d))
