-- Numbers joined by or: where all together have no one, none has. Assumes nothing.
use Rattle.grammar.proofs.Basics.{◌≡◌, refl, List, [], ◌∷◌, ℕ, suc, zero, get_or}
use lib.Bits.{bit_or}
use Rattle.std.specs.List.{fold}
use Rattle.bit_machine.proofs.BitLaws.{or_none}

first_zero : (a : ℕ) (l : List ℕ) → fold bit_or a l ≡ 0 → a ≡ 0
first_zero a [] e = e
first_zero a (x ∷ xs) e = (or_none a x (first_zero (bit_or a x) xs e)).0

joined : (a : ℕ) (l : List ℕ) → fold bit_or a l ≡ 0 → (i : ℕ) → get_or l i 0 ≡ 0
joined a [] e i = refl
joined a (x ∷ xs) e zero = (or_none a x (first_zero (bit_or a x) xs e)).1
joined a (x ∷ xs) e (suc i) = joined (bit_or a x) xs e i

pub none_joined : (l : List ℕ) → fold bit_or 0 l ≡ 0 → (i : ℕ) → get_or l i 0 ≡ 0
none_joined l e i = joined 0 l e i
