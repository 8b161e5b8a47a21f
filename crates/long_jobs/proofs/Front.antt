-- The free variables in front of an array: how many the numbers below a bound can be, and one more put behind them.
-- Assumes nothing.
use Rattle.grammar.proofs.Basics.{◌≡◌, refl, ◌∙◌, sym, false, true, List, ◌∷◌, [], ◌++◌, append-nil, ℕ, ◌<◌, ◌≤◌, ◌+◌}
use Rattle.grammar.proofs.Basics.{suc, zero, arith, length, get_or, set, length-set, length-append, get_or-set_same}
use Rattle.grammar.proofs.Basics.{get_or-set_other, eqb, eqb-true, eqb-false, ltb, ltb-true, ltb-false, cases, replicate}
use lib.ListN.{get_or-append, get_or-eq_default, get_or-replicate}
use lib.Seq.{get_or_at}
use Rattle.long_jobs.specs.Fresh.{is_named_lem, unnamed_below}
use Rattle.long_jobs.specs.Inside.Parts.{InFront}

module _ (rs : List (List ℕ)) where
  pub none_below_zero : unnamed_below rs 0 ≡ []
  unfolding unnamed_below
  none_below_zero = refl

  pub named_below : (v : ℕ) → is_named_lem rs v ≡ true → unnamed_below rs (suc v) ≡ unnamed_below rs v
  unfolding unnamed_below
  named_below v e = rw e (append-nil (unnamed_below rs v))

  pub unnamed_below_lem : (v : ℕ) → is_named_lem rs v ≡ false → unnamed_below rs (suc v) ≡ unnamed_below rs v ++ (v ∷ [])
  unfolding unnamed_below
  unnamed_below_lem v e = rw e

  pub unnamed_few : (v : ℕ) → length (unnamed_below rs v) ≤ v
  unfolding unnamed_below
  unnamed_few zero = omega arith
  unnamed_few (suc v) =
      cases (is_named_lem rs v)
      (λ e. rw named_below (omega (arith, unnamed_few v)))
      (λ e. rw (unnamed_below_lem, length-append) (omega (arith, unnamed_few v)))

-- zeros have none in front
pub none_in_front : InFront (replicate 64 0) 0 []
none_in_front =
    record {
      size = refl;
      counted = refl;
      alike = λ k. cases (ltb k 64)
          (λ e. get_or-replicate 64 k 0 0 (ltb-true k 64 e))
          (λ e. get_or-eq_default (replicate 64 0) 0 (ltb-false k 64 e));
    }

-- a list with one more behind it has the same numbers at all other places
other_place : (xs : List ℕ) (x k : ℕ) → (k ≡ length xs → ⊥) → get_or (xs ++ (x ∷ [])) k 0 ≡ get_or xs k 0
other_place xs x k n =
    cases (ltb k (length xs))
    (λ e. get_or-append xs (x ∷ []) 0 k (ltb-true k (length xs) e))
    (λ e.
    let far : length xs ≤ k = ltb-false k (length xs) e in
    let past : length (xs ++ (x ∷ [])) ≤ k = rw length-append (omega arith) in
    get_or-eq_default (xs ++ (x ∷ [])) 0 past ∙ sym (get_or-eq_default xs 0 far))

pub one_more_in_front : (array xs : List ℕ) (n x : ℕ) → InFront array n xs → n < 64
    → InFront (set array n x) (n + 1) (xs ++ (x ∷ []))
one_more_in_front array xs n x f h =
    let within : n < length array = omega (arith, f.size) in
    record {
      size = simp length-set f.size;
      counted = rw length-append (omega (arith, f.counted));
      alike = λ k. cases (eqb k n)
          (λ e. rw (eqb-true k n e) (get_or-set_same array n x 0 within ∙ sym (get_or_at xs x [] 0 n (sym f.counted))))
          (λ e.
          let apart = eqb-false k n e in
          get_or-set_other array n k x 0 apart ∙ f.alike k
          ∙ sym (other_place xs x k (λ q. apart (q ∙ sym f.counted))));
    }
