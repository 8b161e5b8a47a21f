-- Lists in which no element stands twice: what stands before it or after it is another. Assumes nothing.
use Rattle.grammar.proofs.Basics.{◌∙◌, sym, ⊎_elim, List, ◌∷◌, [], ◌++◌, List·Memᴰ·head, List·Memᴰ·tail}
use Rattle.grammar.proofs.Basics.{List·Memᴰ·cases-cons, Memᴰ·cast, List-as-Permᴰ, Memᴰ·append-left, Permᴰ·symm}
use mathlib.Core.List.Permᴰ
use Rattle.grammar.specs.Counting.{NoRepeat}
use Rattle.job.proofs.Permutation.{member_permutes}

pub no_repeat_permutes : {A : Type 0} {l m : List A} → List-as-Permᴰ l m → NoRepeat l → NoRepeat m
unfolding NoRepeat
no_repeat_permutes Permᴰ.nil h = h
no_repeat_permutes (Permᴰ.cons e d) h =
    (λ n. h.0 (Memᴰ·cast e (member_permutes (Permᴰ·symm d) n)), no_repeat_permutes d h.1)
no_repeat_permutes (Permᴰ.swap e f) h = (
  λ n. ⊎_elim (λ p. h.0 (List·Memᴰ·head (e ∙ sym p ∙ sym f))) (λ t. h.1.0 (Memᴰ·cast f t)) (List·Memᴰ·cases-cons n),
  (λ n. h.0 (List·Memᴰ·tail (Memᴰ·cast e n)), h.1.1),
)
no_repeat_permutes (Permᴰ.trans d e) h = no_repeat_permutes e (no_repeat_permutes d h)

-- the front of a list without repetition has none
pub no_repeat_front : {A : Type 0} (l m : List A) → NoRepeat (l ++ m) → NoRepeat l
unfolding NoRepeat
no_repeat_front [] m h = tt
no_repeat_front (x ∷ xs) m h = (λ n. h.0 (Memᴰ·append-left m n), no_repeat_front xs m h.1)
