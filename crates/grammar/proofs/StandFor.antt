-- The string that each symbol stands for: the variables of a list stand for the strings of another, in turn, and every
-- other symbol for itself. Assumes nothing.
use Rattle.grammar.proofs.Basics.{◌≡◌, refl, sym, cond, List, ◌∷◌, [], List·Memᴰ, Memᴰ·cast, List·Memᴰ·head}
use Rattle.grammar.proofs.Basics.{List·Memᴰ·tail, ℕ, ◌<◌, ◌≤◌, suc, zero, arith, eqb, length, get_or, eq-eqb}
use Rattle.grammar.proofs.Basics.{ne_eqb}
use Rattle.grammar.specs.Counting.{NoRepeat}
use Rattle.grammar.proofs.NoRepeat.{member_at}
use Rattle.grammar.proofs.Standing.{string_of}

unfoldable pub stand_for : List ℕ → List (List ℕ) → ℕ → List ℕ
stand_for [] ts X = X ∷ []
stand_for (A ∷ As) [] X = X ∷ []
stand_for (A ∷ As) (t ∷ ts) X = cond (eqb A X) t (stand_for As ts X)

pub other_stands : (As : List ℕ) (ts : List (List ℕ)) (X : ℕ) → (List·Memᴰ X As → ⊥) → stand_for As ts X ≡ X ∷ []
unfolding stand_for
other_stands [] ts X n = refl
other_stands (A ∷ As) [] X n = refl
other_stands (A ∷ As) (t ∷ ts) X n =
    rw (ne_eqb A X (λ e. n (List·Memᴰ·head (sym e)))) (other_stands As ts X (λ m. n (List·Memᴰ·tail m)))

pub member_stands : (As : List ℕ) (ts : List (List ℕ)) (j : ℕ) → NoRepeat As → length ts ≤ length As → j < length ts →
    stand_for As ts (get_or As j 0) ≡ get_or ts j []
unfolding stand_for NoRepeat
member_stands [] ts j d l h = absurd (omega arith)
member_stands (A ∷ As) [] j d l h = absurd (omega arith)
member_stands (A ∷ As) (t ∷ ts) zero d l h = rw (eq-eqb A A refl)
member_stands (A ∷ As) (t ∷ ts) (suc j) d l h =
    let k : j < length As = omega arith in
    rw (ne_eqb A (get_or As j 0) (λ e. d.0 (Memᴰ·cast e (member_at 0 As j k))))
    (member_stands As ts j d.1 (omega arith) (omega arith))

-- a form whose symbols stand for themselves does so too
pub self_string : (σ : ℕ → List ℕ) (α : List ℕ) → ((X : ℕ) → List·Memᴰ X α → σ X ≡ X ∷ []) → string_of σ α ≡ α
unfolding string_of
self_string σ [] h = refl
self_string σ (X ∷ α) h =
    rw (h X (List·Memᴰ·head refl), self_string σ α (λ Y m. h Y (List·Memᴰ·tail m)))
