-- Records are equal where their four fields are, so the test `has` decides membership. Assumes nothing.
use Rattle.grammar.proofs.Basics.{◌≡◌, sym, ⊎_elim, true, false≢true, or-true, List, ◌∷◌, [], List·Memᴰ}
use Rattle.grammar.proofs.Basics.{List·Memᴰ·head, List·Memᴰ·tail, eq-eqb, eqb-true, and_left, and_right, or_split}
use Rattle.job.specs.declared.JobRecord.{JobRecord}
use Rattle.job.specs.Format.{same, has}

-- equal fields make equal records
pub record_path : (a b : JobRecord) → a.kind ≡ b.kind → a.first ≡ b.first → a.second ≡ b.second
    → a.third ≡ b.third → a ≡ b
record_path a b k x y z = λ i. record { kind = k i; first = x i; second = y i; third = z i }

-- the test for the same four bytes is equality
pub same_equal : (a b : JobRecord) → same a b ≡ true → a ≡ b
same_equal a b e = search (record_path, and_left, and_right, eqb-true)

-- and `has` is membership
pub has_member : (rs : List JobRecord) (r : JobRecord) → has rs r ≡ true → List·Memᴰ r rs
unfolding has
has_member [] r e = absurd (false≢true e)
has_member (x ∷ xs) r e =
    ⊎_elim (λ p. List·Memᴰ·head (sym (same_equal x r p))) (λ q. List·Memᴰ·tail (has_member xs r q)) (or_split _ _ e)

pub member_has : {r : JobRecord} {rs : List JobRecord} → List·Memᴰ r rs → has rs r ≡ true
unfolding has
member_has (List·Memᴰ·head e) = simp (e, eq-eqb)
member_has (List·Memᴰ·tail m) = simp (member_has m, or-true)
