-- What is tested of each element of a list, as std's tests of lists. Assumes nothing.
use Rattle.grammar.proofs.Basics.{◌≡◌, refl, ap, ◌&&◌, ◌||◌, ◌∷◌, [], List, ℕ}
use Rattle.grammar.proofs.Basics.{eqb, ltb}
use Rattle.std.specs.List.{list_all, list_any}
use Rattle.long_jobs.specs.Dialect.{all_below}
use Rattle.long_jobs.specs.Fresh.{holds, names, is_named_lem}

pub all_tested : (n : ℕ) (bytes : List ℕ) → list_all (λ x. ltb x n) bytes ≡ all_below n bytes
unfolding all_below
all_tested n [] = refl
all_tested n (x ∷ xs) = ap (λ b. ltb x n && b) (all_tested n xs)

pub held : (bytes : List ℕ) (v : ℕ) → list_any (λ x. eqb x v) bytes ≡ holds bytes v
unfolding holds
held [] v = refl
held (x ∷ xs) v = ap (λ b. eqb x v || b) (held xs v)

pub named : (rs : List (List ℕ)) (v : ℕ) → list_any (λ r. names r v) rs ≡ is_named_lem rs v
unfolding is_named_lem
named [] v = refl
named (r ∷ rs) v = ap (λ b. names r v || b) (named rs v)
