-- Small laws of tests, pairs and sums that every crate needs: case analysis on a test that keeps the equation.
-- Assumes nothing.
pub use mathlib.Core.Path.{◌≡◌, refl, ◌∙◌, sym, ap, ap₂, subst}
pub use mathlib.Core.Logic.Iff.{symm as Iff·symm}
pub use mathlib.Core.Logic.Iff.{trans as Iff·trans}
pub use mathlib.Core.Logic.{⊎_elim, ◌↔◌, inl, inr, ◌⊎◌}
pub use mathlib.Core.Bool.{true, false, Bool, ◌&&◌, cond, ◌||◌, not, false≢true, or-false, and-true, or-true, or_assoc}
pub use mathlib.Core.Bool.{and-false, true≢false}
pub use mathlib.Core.List.Memᴰ.{head as List·Memᴰ·head}
pub use mathlib.Core.List.Memᴰ.{not-nil as List·Memᴰ·not-nil}
pub use mathlib.Core.List.Memᴰ.{tail as List·Memᴰ·tail}
pub use mathlib.Core.List.{List, ◌∷◌, [], Memᴰ as List·Memᴰ, ◌++◌}
pub use mathlib.Core.List.Memᴰ.{cases_cons as List·Memᴰ·cases-cons}
pub use mathlib.Core.List.Memᴰ.{cast as Memᴰ·cast}
pub use mathlib.Core.List.Memᴰ.{eq_of_singleton as List·Memᴰ·eq-of-singleton}
pub use mathlib.Core.List.{map, append-nil, append_assoc}
pub use mathlib.Core.List.Memᴰ.{append_cases as List·Memᴰ·append-cases}
pub use mathlib.Core.List.Memᴰ.{append_left as Memᴰ·append-left}
pub use mathlib.Core.List.Memᴰ.{of_map as Memᴰ·of-map}
pub use mathlib.Core.List.Permᴰ.{symm as Permᴰ·symm}
pub use mathlib.Core.List.{Permᴰ as List-as-Permᴰ}
pub use mathlib.Core.List.Memᴰ.{append_right as Memᴰ·append-right}
pub use Prim.Native.Nat.{ℕ, ◌<◌, ◌≤◌, ◌+◌, suc, ◌-◌, zero, ◌*◌, ◌/◌, ◌%◌, min, suc-le-suc}
pub use native.Mathlib.Nat.{add-zero, le_of_lt, le_refl, eq-or-lt_of_le, zero-add, suc-add}
pub use native.Mathlib.Numerals.{add-one}
pub use native.Mathlib.Omega.{arith}
pub use lib.Dec.{eqb, ltb, leb}
pub use lib.ListN.{length, get_or, take, set, drop, length-set, length-map, length-append, drop_of_length-le}
pub use lib.ListN.{length-take, length-drop, replicate, get_or-map as List·getD-map}
pub use lib.Seq.{get_or-set_other, drop-cons, length-take-le, get_or-take, get_or-set_same, take-suc, drop-length, ext_get_or}
pub use lib.Seq.{take_at, sets}
pub use borrow.Author.Tests.{eq-eqb, ne_eqb, eqb-true, eqb-false, ltb-false, ltb-true, le-leb, lt-ltb, leb-true}
pub use borrow.Author.Tests.{leb-false, lt-leb, le-ltb, not-true, not-false}
pub use borrow.Author.Rules.{rules}

-- a proof by the two values of a test
pub cases : {P : Type 0} (b : Bool) → (b ≡ true → P) → (b ≡ false → P) → P
cases true f g = f refl
cases false f g = g refl

-- no test is true and false
pub true_and_false : {P : Type 0} {b : Bool} → b ≡ true → b ≡ false → P
true_and_false p q = absurd (true≢false (sym p ∙ q))

-- what a test decides does not hold where the test fails
pub refuted : {P : Type 0} {b : Bool} → (b ≡ true) ↔ P → b ≡ false → P → ⊥
refuted exact e p = true_and_false (exact.1 p) e

-- a test that is not true is false, and the other way round
pub not_true_false : (b : Bool) → (b ≡ true → ⊥) → b ≡ false
not_true_false true n = absurd (n refl)
not_true_false false n = refl

pub not_false_true : (b : Bool) → (b ≡ false → ⊥) → b ≡ true
not_false_true true n = refl
not_false_true false n = absurd (n refl)

-- two tests that pass on the same occasions are equal
pub same_test : (b c : Bool) → (b ≡ true → c ≡ true) → (c ≡ true → b ≡ true) → b ≡ c
same_test true c f g = sym (f refl)
same_test false true f g = g refl
same_test false false f g = refl

-- whatever passes one test passes another
abbrev pub Subset : (ℕ → Bool) → (ℕ → Bool) → Type 0
Subset s t = (X : ℕ) → s X ≡ true → t X ≡ true

pub and_left : (a b : Bool) → (a && b) ≡ true → a ≡ true
and_left true b e = refl
and_left false b e = e

pub and_right : (a b : Bool) → (a && b) ≡ true → b ≡ true
and_right true b e = e
and_right false b e = absurd (false≢true e)

pub and_both : (a b : Bool) → a ≡ true → b ≡ true → (a && b) ≡ true
and_both true b p q = q
and_both false b p q = p

pub and_split : (a b : Bool) → ((a && b) ≡ true) ↔ ((a ≡ true) × (b ≡ true))
and_split a b = (λ e. (and_left a b e, and_right a b e), λ p. and_both a b p.0 p.1)

pub and_false_right : (a b : Bool) → b ≡ false → (a && b) ≡ false
and_false_right true b p = p
and_false_right false b p = refl

pub or_split : (a b : Bool) → (a || b) ≡ true → (a ≡ true) ⊎ (b ≡ true)
or_split true b e = inl refl
or_split false b e = inr e

pub or_left : (a b : Bool) → a ≡ true → (a || b) ≡ true
or_left true b p = refl
or_left false b p = absurd (false≢true p)

pub or_right : (a b : Bool) → b ≡ true → (a || b) ≡ true
or_right true b p = refl
or_right false b p = p

-- where the first fails, the second decides
pub or_second : (a b : Bool) → a ≡ false → (a || b) ≡ b
or_second true b p = absurd (true≢false p)
or_second false b p = refl

pub or_exact : (a b : Bool) → ((a || b) ≡ true) ↔ ((a ≡ true) ⊎ (b ≡ true))
or_exact a b = (or_split a b, ⊎_elim (or_left a b) (or_right a b))

-- what the tests of two numbers decide
pub eqb_exact : (a b : ℕ) → (eqb a b ≡ true) ↔ (a ≡ b)
eqb_exact a b = (eqb-true a b, eq-eqb a b)

pub ltb_exact : (a b : ℕ) → (ltb a b ≡ true) ↔ (a < b)
ltb_exact a b = (ltb-true a b, lt-ltb a b)

pub leb_exact : (a b : ℕ) → (leb a b ≡ true) ↔ (a ≤ b)
leb_exact a b = (leb-true a b, le-leb a b)

-- `simp decided at h` takes a joined test apart into what its parts decide
pub ruleset decided = (and_split, eqb_exact, ltb_exact, leb_exact)
