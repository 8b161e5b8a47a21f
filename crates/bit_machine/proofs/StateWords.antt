-- The states that a test passes as a word, filled bit by bit, and whether a row of a table has a bit in common with it.
-- Assumes nothing.
use Rattle.grammar.proofs.Basics.{◌≡◌, ◌∙◌, sym, ap, true, false, Bool, ◌&&◌, ◌||◌, cond, List, ℕ, ◌<◌, ◌+◌, ◌*◌}
use Rattle.grammar.proofs.Basics.{◌%◌, arith, eqb, ltb, get_or, eqb-true, eqb-false, ltb-true}
use Rattle.grammar.proofs.Basics.{lt-ltb, le-ltb, cases, true_and_false, not_true_false, not_false_true, same_test}
use Rattle.grammar.proofs.Basics.{and_false_right, or-false}
use Prim.Native.Nat.{◌^◌}
use lib.Bits.{bit_and, bit_or, and_lt}
use Rattle.machine.specs.Table.{says_done, is_done_lem, done_in, table_place}
use Rattle.grammar.specs.Counting.{some}
use Rattle.grammar.proofs.Some.{some_found, some_passes, some_cong}
use Rattle.bit_machine.specs.BitTable.{bit_of, bit_statuses, table_of_bits}
use Rattle.bit_machine.proofs.BitLaws.{bit_and_lem, bit_zero, no_bits}
use Rattle.bit_machine.proofs.BitBytes.{bit_after_set}
use Rattle.bit_machine.proofs.ByteTables.{byte_done}

-- the first q bits of a word are what a test says, and those above are zeros
abbrev pub FirstBits : (ℕ → Bool) → ℕ → ℕ → Type 0
FirstBits test word q = (j : ℕ) → bit_of word j ≡ (ltb j q && test j)

module _ (test : ℕ → Bool) where
  pub first_bits_none : FirstBits test 0 0
  first_bits_none j = bit_zero j ∙ ap (λ b. b && test j) (sym (le-ltb j 0 (omega arith)))

  one_more : (q j : ℕ) → (ltb j (q + 1) && test j) ≡ cond (eqb j q) (test q) (ltb j q && test j)
  one_more q j =
      cases (eqb j q)
      (λ e. let same : j ≡ q = eqb-true j q e in rw (e, same, lt-ltb q (q + 1) (omega arith)))
      (λ e.
      let other = eqb-false j q e in
      let as_before : ltb j (q + 1) ≡ ltb j q =
      same_test (ltb j (q + 1)) (ltb j q)
      (λ f. lt-ltb j q (omega (arith, ltb-true j (q + 1) f)))
      (λ f. lt-ltb j (q + 1) (omega (arith, ltb-true j q f))) in
      rw (e, as_before))

  pub first_bits_set : (word q : ℕ) → FirstBits test word q → q < 32 → test q ≡ true →
      FirstBits test (bit_or word (1 * 2 ^ q % 2 ^ 32)) (q + 1)
  first_bits_set word q filled l e j =
      bit_after_set 32 word q j l ∙ sym (one_more q j ∙ rw (e, filled j))

  pub first_bits_left : (word q : ℕ) → FirstBits test word q → test q ≡ false → FirstBits test word (q + 1)
  first_bits_left word q filled e j =
      cases (eqb j q)
      (λ f.
      let out : test j ≡ false = ap test (eqb-true j q f) ∙ e in
      filled j ∙ and_false_right (ltb j q) (test j) out ∙ sym (and_false_right (ltb j (q + 1)) (test j) out))
      (λ f. filled j ∙ sym (one_more q j ∙ rw f))

  -- a bit more, set or not
  pub first_bits_more : (word new q : ℕ) (bit : Bool) → FirstBits test word q → bit ≡ test q →
      ((i : ℕ) → bit_of new i ≡ (bit_of word i || (eqb i q && bit))) → FirstBits test new (q + 1)
  first_bits_more word new q bit filled is bits j =
      bits j
      ∙ sym (one_more q j
      ∙ cases (eqb j q)
      (λ e.
      let same : j ≡ q = eqb-true j q e in
      let none : bit_of word j ≡ false = filled j ∙ rw (le-ltb j q (omega arith)) in
      rw (e, none, sym is))
      (λ e. rw (e, sym (filled j), or-false (bit_of word j))))

  pub first_bits_all : (word : ℕ) → FirstBits test word 32 → (j : ℕ) → j < 32 → bit_of word j ≡ test j
  first_bits_all word filled j l = filled j ∙ ap (λ b. b && test j) (lt-ltb j 32 l)

-- a word is 0 exactly where it has no bit
pub some_bit : (k n : ℕ) → n < 2 ^ k → (n ≡ 0 → ⊥) → some (bit_of n) k ≡ true
some_bit k n l other =
    not_false_true (some (bit_of n) k)
    (λ e. other (no_bits k n l
    (λ j m. not_true_false (bit_of n j) (λ t. true_and_false (some_found (bit_of n) k j m t) e))))

pub no_bit : (k n : ℕ) → n ≡ 0 → some (bit_of n) k ≡ false
no_bit k n e =
    ap (λ (x : ℕ). some (bit_of x) k) e
    ∙ not_true_false (some (bit_of 0) k)
    (λ t. let found = some_passes (bit_of 0) k t in true_and_false found.2 (bit_zero found.0))

-- a row of a bit table and a word of states: whether they have a common bit is whether a done transition leads to one
-- of the states
module _ (bits : List ℕ) (q symbol row targets : ℕ) (below : q < 32) (symbols : symbol < 64)
    (says : (j : ℕ) → j < 32 → bit_of row j ≡ is_done_lem (get_or (table_of_bits bits) ((q * 64 + symbol) * 32 + j) 0)) where
  pub done_bit : (r : ℕ) → r < 32 → bit_of row r ≡ done_in (bit_statuses bits) q symbol r
  unfolding done_in
  done_bit r l =
      let at : (q * 64 + symbol) * 32 + r ≡ table_place q symbol r = omega arith in
      says r l ∙ byte_done bits ((q * 64 + symbol) * 32 + r) (omega arith)
      ∙ ap (λ (p : ℕ). says_done (bit_statuses bits p)) at

  common : some (bit_of (bit_and row targets)) 32
      ≡ some (λ r. done_in (bit_statuses bits) q symbol r && bit_of targets r) 32
  common =
      some_cong (bit_of (bit_and row targets)) (λ r. done_in (bit_statuses bits) q symbol r && bit_of targets r) 32
      (λ r l. bit_and_lem row targets r ∙ ap (λ b. b && bit_of targets r) (done_bit r l))

  pub leads : row < 4294967296 → targets < 4294967296 → (bit_and row targets ≡ 0 → ⊥) →
      some (λ r. done_in (bit_statuses bits) q symbol r && bit_of targets r) 32 ≡ true
  leads l m other = sym common ∙ some_bit 32 (bit_and row targets) (and_lt 32 row targets l m) other

  pub leads_not : bit_and row targets ≡ 0 →
      some (λ r. done_in (bit_statuses bits) q symbol r && bit_of targets r) 32 ≡ false
  leads_not none = sym common ∙ no_bit 32 (bit_and row targets) none
