-- The numbers that the tests of bytes stand for. Assumes nothing.
use Rattle.grammar.proofs.Basics.{◌≡◌, refl, ⊎_elim, true, false, ◌||◌, ℕ, ◌<◌, ◌≤◌, ◌+◌, suc, zero, arith, eqb, leb}
use Rattle.grammar.proofs.Basics.{ne_eqb, eqb-true, le-leb, cases, or_split}
use Rattle.machine.specs.Table.{is_absent, is_pending_lem, is_done_lem}

pub pending_byte : (b : ℕ) → is_pending_lem b ≡ eqb b 1
pending_byte b = cases (eqb b 1) (λ e. rw e) (λ e. cases (eqb b 2 || eqb b 3) (λ f. rw (e, f)) (λ f. rw (e, f)))

pub done_bytes : (b : ℕ) → is_done_lem b ≡ (eqb b 2 || eqb b 3)
done_bytes b =
    cases (eqb b 1)
    (λ e. rw (eqb-true b 1 e))
    (λ e. cases (eqb b 2 || eqb b 3) (λ f. rw (e, f)) (λ f. rw (e, f)))

pub absent_bytes : (b : ℕ) → is_absent b ≡ (eqb b 0 || leb 4 b)
absent_bytes zero = refl
absent_bytes (suc zero) = refl
absent_bytes (suc (suc zero)) = refl
absent_bytes (suc (suc (suc zero))) = refl
absent_bytes (suc (suc (suc (suc b)))) =
    let other : (k : ℕ) → k < 4 → eqb _ k ≡ false = λ k h. ne_eqb (b + 4) k (λ z. omega arith) in
    let same : suc (suc (suc (suc b))) ≡ b + 4 = omega arith in
    rw (
      same,
      other 0 (omega arith),
      other 1 (omega arith),
      other 2 (omega arith),
      other 3 (omega arith),
      le-leb 4 (b + 4) (omega arith),
    )

pub done_two_three : (b : ℕ) → is_done_lem b ≡ true → (2 ≤ b) × (b ≤ 3)
done_two_three b e =
    ⊎_elim
    (λ f. omega (arith, eqb-true b 2 f))
    (λ f. omega (arith, eqb-true b 3 f)) (or_split _ _ (rw done_bytes at e))

pub pending_one : (b : ℕ) → is_pending_lem b ≡ true → b ≡ 1
pending_one b e = eqb-true b 1 (rw pending_byte at e)
