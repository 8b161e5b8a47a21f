-- A letter and its two cases, in numbers: the small letters are 97 to 122, and a capital is 32 below. Assumes nothing.
use Rattle.grammar.proofs.Basics.{◌≡◌, ⊎_elim, inl, inr, ◌⊎◌, ◌↔◌, true, false, ◌&&◌, ℕ, ◌<◌, ◌≤◌, ◌+◌, ◌-◌, arith}
use Rattle.grammar.proofs.Basics.{leb, leb-true, leb-false, cases, decided, or_exact, refuted}
use Rattle.abnf.specs.Bytes.{is_capital, is_alpha_lem, lower}

-- a capital, or what stands below or above them
data Lowered (b : ℕ) : Type 0 where
  capital : 65 ≤ b → b ≤ 90 → lower b ≡ b + 32 → Lowered b
  below : b < 65 → lower b ≡ b → Lowered b
  above : 90 < b → lower b ≡ b → Lowered b

lowered : (b : ℕ) → Lowered b
lowered b =
    cases (leb 65 b)
    (λ t.
    cases (leb b 90)
    (λ u. capital (leb-true 65 b t) (leb-true b 90 u) (rw (t, u)))
    (λ u. above (leb-false b 90 u) (rw (t, u))))
    (λ t. below (leb-false 65 b t) (rw t))

abbrev IsLetter : ℕ → Type 0
IsLetter b = ((65 ≤ b) × (b ≤ 90)) ⊎ ((97 ≤ b) × (b ≤ 122))

letter_exact : (b : ℕ) → (is_alpha_lem b ≡ true) ↔ IsLetter b
letter_exact b =
    let small = leb 97 b && leb b 122 in
    let (to, from) = or_exact (is_capital b) small in (
      λ t. ⊎_elim (λ p. inl (simp decided at p)) (λ p. inr (simp decided at p)) (to t),
      λ l. from (⊎_elim (λ p. inl (simp decided p)) (λ p. inr (simp decided p)) l),
    )

-- a letter as a small one
range : {b : ℕ} → Lowered b → IsLetter b → (97 ≤ lower b) × (lower b ≤ 122)
range (capital p q e) l = omega arith
range (below p e) l = ⊎_elim (λ h. omega arith) (λ h. omega arith) l
range (above p e) l = ⊎_elim (λ h. omega arith) (λ h. omega arith) l

pub letter_range : (b : ℕ) → is_alpha_lem b ≡ true → (97 ≤ lower b) × (lower b ≤ 122)
letter_range b t = range (lowered b) ((letter_exact b).0 t)

-- which is never less
at_most : {b : ℕ} → Lowered b → b ≤ lower b
at_most (capital p q e) = omega arith
at_most (below p e) = omega arith
at_most (above p e) = omega arith

pub at_most_lower : (b : ℕ) → b ≤ lower b
at_most_lower b = at_most (lowered b)

-- what is no letter has one case
same : {b c : ℕ} → Lowered b → Lowered c → (IsLetter b → ⊥) → lower b ≡ lower c → c ≡ b
same (capital p q e) l n h = absurd (n (inl (p, q)))
same (below p e) (capital r s f) n h = omega arith
same (below p e) (below r f) n h = omega arith
same (below p e) (above r f) n h = omega arith
same (above p e) (capital r s f) n h = absurd (n (inr (omega arith)))
same (above p e) (below r f) n h = omega arith
same (above p e) (above r f) n h = omega arith

pub one_case : (b c : ℕ) → is_alpha_lem b ≡ false → lower b ≡ lower c → c ≡ b
one_case b c t h = same (lowered b) (lowered c) (refuted (letter_exact b) t) h

-- a letter has two
either : {l c : ℕ} → Lowered c → 97 ≤ l → l ≤ 122 → (lower c ≡ l) ↔ ((c ≡ l - 32) ⊎ (c ≡ l))
either (capital p q e) g h = (λ f. inl (omega arith), ⊎_elim (λ f. omega arith) (λ f. omega arith))
either (below p e) g h = (λ f. inr (omega arith), ⊎_elim (λ f. omega arith) (λ f. omega arith))
either (above p e) g h = (λ f. inr (omega arith), ⊎_elim (λ f. omega arith) (λ f. omega arith))

pub two_cases : (l c : ℕ) → 97 ≤ l → l ≤ 122 → (lower c ≡ l) ↔ ((c ≡ l - 32) ⊎ (c ≡ l))
two_cases l c = either (lowered c)
