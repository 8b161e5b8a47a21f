-- The decimal digits of a number. Assumes nothing.
use mathlib.Core.Path.{◌≡◌, refl, sym, ap, ◌∙◌}
use mathlib.Core.Bool.{Bool, true, false}
use Prim.Native.Nat.{ℕ, zero, suc, ◌+◌, ◌*◌, ◌-◌, ◌/◌, ◌%◌, ◌^◌, ◌≤◌, ◌<◌}
use native.Mathlib.Nat.{pow-suc}
use native.Mathlib.Omega.{arith}
use mathlib.Core.List.{List, [], ◌∷◌, ◌++◌}
use lib.Dec.{ltb}
use lib.ListN.{length, get_or, length-append, get_or-append}
use lib.Seq.{get_or_at}
use borrow.Author.Tests.{ltb-true, ltb-false, lt-ltb, le-ltb}
use Rattle.spelling.specs.Words.{digit, digits, decimal}
use Rattle.spelling.specs.Theorems.{value_after, Spells, DecimalSpells}

pub cases : {P : Type 0} (b : Bool) → (b ≡ true → P) → (b ≡ false → P) → P
cases true f g = f refl
cases false f g = g refl

-- a number below 10 is its one digit
pub one : (k n : ℕ) → ltb n 10 ≡ true → digits (suc k) n ≡ digit n ∷ []
unfolding digits
one k n e = rw e

-- another has its last digit at the end
pub more : (k n : ℕ) → ltb n 10 ≡ false → digits (suc k) n ≡ digits k (n / 10) ++ (digit (n % 10) ∷ [])
unfolding digits
more k n e = rw e

pub tenth : (k n : ℕ) → n < 10 ^ suc k → n / 10 < 10 ^ k
tenth k n l = let m : n < 10 ^ k * 10 = rw (← pow-suc) l in omega arith

-- where k digits are enough, one more changes nothing
enough : (k n : ℕ) → n < 10 ^ suc k → digits (suc k) n ≡ digits (suc (suc k)) n
enough zero n l =
    let e : ltb n 10 ≡ true = lt-ltb n 10 l in
    one zero n e ∙ sym (one (suc zero) n e)
enough (suc k) n l =
    cases (ltb n 10)
    (λ e. one (suc k) n e ∙ sym (one (suc (suc k)) n e))
    (λ e. more (suc k) n e
    ∙ ap (λ s. s ++ (digit (n % 10) ∷ [])) (enough k (n / 10) (tenth (suc k) n l))
    ∙ sym (more (suc (suc k)) n e))

module _ (n : ℕ) (fits : n < 18446744073709551616) where
  pub decimal_one : n < 10 → decimal n ≡ digit n ∷ []
  unfolding decimal
  decimal_one l = one 19 n (lt-ltb n 10 l)

  pub decimal_more : 10 ≤ n → decimal n ≡ decimal (n / 10) ++ (digit (n % 10) ∷ [])
  unfolding decimal
  decimal_more l =
      let m : n / 10 < 10 ^ 19 = omega arith in
      more 19 n (le-ltb n 10 l) ∙ ap (λ s. s ++ (digit (n % 10) ∷ [])) (enough 18 (n / 10) m)

-- no more digits than there is room for
few : (k n : ℕ) → length (digits k n) ≤ k
unfolding digits
few zero n = omega arith
few (suc k) n = cases (ltb n 10) (λ e. rw e (omega arith)) (λ e. rw (e, length-append) (omega (arith, few k (n / 10))))

pub decimal_short : (n : ℕ) → length (decimal n) ≤ 20
unfolding decimal
decimal_short n = few 20 n

value_append : (a : ℕ) (s t : List ℕ) → value_after a (s ++ t) ≡ value_after (value_after a s) t
unfolding value_after
value_append a [] t = refl
value_append a (b ∷ s) t = value_append (10 * a + (b - 48)) s t

front_append : (s t : List ℕ) → 48 < get_or s 0 0 → 48 < get_or (s ++ t) 0 0
front_append [] t l = absurd (omega arith)
front_append (b ∷ s) t l = l

spells_one : (n : ℕ) → n < 10 → Spells (digit n ∷ []) n
unfolding value_after
spells_one n l =
    record {
      value = omega arith;
      digits = λ i m. let e : i ≡ 0 = omega arith in rw e (omega arith, omega arith);
      front = λ m. omega arith;
    }

spells_more : (s : List ℕ) (n d : ℕ) → 0 < n → d < 10 → Spells s n → Spells (s ++ (digit d ∷ [])) (n * 10 + d)
unfolding value_after
spells_more s n d p l a =
    record {
      value = value_append 0 s (digit d ∷ []) ∙ omega (arith, a.value);
      digits = λ i m. cases (ltb i (length s))
          (λ e. let k : i < length s = ltb-true i (length s) e in
          rw (get_or-append s (digit d ∷ []) 0 i k) (a.digits i k))
          (λ e. let k : length s ≤ i = ltb-false i (length s) e in
          let h : i < length s + 1 = rw length-append at m in
          rw (get_or_at s (digit d) [] 0 i (omega arith)) (omega arith, omega arith));
      front = λ m. front_append s (digit d ∷ []) (a.front p);
    }

spells : (k n : ℕ) → n < 10 ^ suc k → Spells (digits (suc k) n) n
spells zero n l = rw (one zero n (lt-ltb n 10 l)) (spells_one n l)
spells (suc k) n l =
    cases (ltb n 10)
    (λ e. rw (one (suc k) n e) (spells_one n (ltb-true n 10 e)))
    (λ e.
    let m : 10 ≤ n = ltb-false n 10 e in
    let w : n / 10 * 10 + n % 10 ≡ n = omega arith in
    rw (more (suc k) n e)
    (rw w at (spells_more (digits (suc k) (n / 10)) (n / 10) (n % 10) (omega arith) (omega arith)
    (spells k (n / 10) (tenth (suc k) n l)))))

pub decimal_spells_lem : DecimalSpells
unfolding DecimalSpells decimal digits
decimal_spells_lem = (λ n l. spells 19 n l, refl)
