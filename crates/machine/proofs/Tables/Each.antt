-- `each` changes a list element by element: each place of the result is that of the list, changed. By induction on the
-- list. Assumes nothing.
use Rattle.grammar.proofs.Basics.{◌≡◌, refl, ◌∙◌, sym, ap, ap₂, cond, List, ◌∷◌, [], ℕ, ◌<◌, ◌≤◌, ◌+◌, ◌-◌, suc, zero, add-zero}
use Rattle.grammar.proofs.Basics.{suc-add, arith, eqb, leb, length, get_or, take, set, drop, length-set, length-drop}
use Rattle.grammar.proofs.Basics.{get_or-set_other, get_or-set_same, ext_get_or, eqb-true, eqb-false, le-leb, cases}
use native.Mathlib.Nat.{add-suc}
use lib.Seq.{get_or-drop}
use Rattle.machine.specs.Table.{Lent, lent_of, KeepsRest, reasons_size, each}

pub length_each : (f : ℕ → ℕ → ℕ) (i : ℕ) (l : List ℕ) → length (each f i l) ≡ length l
unfolding each
length_each f i [] = refl
length_each f i (x ∷ xs) = ap suc (length_each f (suc i) xs)

pub get_or_each : (f : ℕ → ℕ → ℕ) (i : ℕ) (l : List ℕ) (k : ℕ) → k < length l
    → get_or (each f i l) k 0 ≡ f (i + k) (get_or l k 0)
unfolding each
get_or_each f i [] k l = omega arith
get_or_each f i (x ∷ xs) zero l = rw add-zero
get_or_each f i (x ∷ xs) (suc k) l = get_or_each f (suc i) xs k (omega arith) ∙ ap (λ n. f n (get_or xs k 0)) (omega arith)

-- from index 0 on
pub get_or_each_0 : (f : ℕ → ℕ → ℕ) (l : List ℕ) (k : ℕ) → k < length l → get_or (each f 0 l) k 0 ≡ f k (get_or l k 0)
get_or_each_0 f l k h = get_or_each f 0 l k h ∙ ap (λ n. f n (get_or l k 0)) (omega arith)

-- it is the list whose elements the changes give
pub each_is : (f : ℕ → ℕ → ℕ) (l l' : List ℕ) → length l ≡ length l' →
    ((k : ℕ) → k < length l → f k (get_or l k 0) ≡ get_or l' k 0) → each f 0 l ≡ l'
each_is f l l' long same =
    ext_get_or 0 _ l' (length_each f 0 l ∙ long)
    (λ k h. let b : k < length l = omega (arith, length_each f 0 l) in get_or_each_0 f l k b ∙ same k b)

-- nothing changes where each element stays
pub each_identity : (f : ℕ → ℕ → ℕ) (i : ℕ) (l : List ℕ) →
    ((k : ℕ) → k < length l → f (i + k) (get_or l k 0) ≡ get_or l k 0) → each f i l ≡ l
unfolding each
each_identity f i [] e = refl
each_identity f i (x ∷ xs) e =
    ap₂ ◌∷◌ (rw add-zero at (e 0 (omega arith)))
    (each_identity f (suc i) xs (λ k h. rw suc-add (rw add-suc at (e (suc k) (omega arith)))))

-- a part of the list
pub take_each : (f : ℕ → ℕ → ℕ) (i n : ℕ) (l : List ℕ) → take n (each f i l) ≡ each f i (take n l)
unfolding each
take_each f i zero l = refl
take_each f i (suc n) [] = refl
take_each f i (suc n) (x ∷ xs) = ap (λ z. f i x ∷ z) (take_each f (suc i) n xs)

-- a change of the first n elements alone, and what it keeps
abbrev pub up_to : ℕ → (ℕ → ℕ → ℕ) → ℕ → ℕ → ℕ
up_to n f k old = cond (leb n k) old (f k old)

pub rest_kept : (n : ℕ) (f : ℕ → ℕ → ℕ) (l : List ℕ) → drop n (each (up_to n f) 0 l) ≡ drop n l
rest_kept n f l =
    ext_get_or 0 _ _ (simp (length-drop, length_each))
    (λ k h. rw (get_or-drop, get_or-drop)
    (get_or_each_0 _ l _ (omega (arith, simp (length-drop, length_each) at h)) ∙ rw (le-leb n (n + k) (omega arith))))

pub changed_keeps_rest : (n : ℕ) (f g : ℕ → ℕ → ℕ) (m : Lent) →
    KeepsRest n m (lent_of (each (up_to n f) 0 m.table) (each (up_to reasons_size g) 0 m.reasons))
changed_keeps_rest n f g m =
    record {
      long_table = length_each _ 0 m.table;
      long_reasons = length_each _ 0 m.reasons;
      rest_table = rest_kept n f m.table;
      rest_reasons = rest_kept reasons_size g m.reasons;
    }

-- what lies past the first n elements, place by place
pub rest_at : (n : ℕ) (l l' : List ℕ) → drop n l' ≡ drop n l → (k : ℕ) → n ≤ k → get_or l' k 0 ≡ get_or l k 0
rest_at n l l' e k h =
    let s : k ≡ n + (k - n) = omega arith in
    rw s (sym (get_or-drop n l' (k - n) 0) ∙ ap (λ z. get_or z (k - n) 0) e ∙ get_or-drop n l (k - n) 0)

-- a write to an element-by-element change is a change that differs at one index
pub set_each : (f g : ℕ → ℕ → ℕ) (l : List ℕ) (n v : ℕ) → n < length l → g n (get_or l n 0) ≡ v →
    ((k x : ℕ) → (k ≡ n → ⊥) → g k x ≡ f k x) → set (each f 0 l) n v ≡ each g 0 l
set_each f g l n v h here there =
    sym
    (each_is g l _ (simp (length-set, length_each))
    (λ k b. cases (eqb k n)
    (λ e. rw (eqb-true k n e) (here ∙ sym (get_or-set_same (each f 0 l) n v 0 (rw length_each h))))
    (λ e. let d = eqb-false k n e in there k _ d ∙ sym (get_or-set_other (each f 0 l) n k v 0 d ∙ get_or_each_0 f l k b))))
