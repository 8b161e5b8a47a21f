-- The new numbers: the members of a set, counted from below. The number of a member leads back to it, and counting the
-- numbers of the members gives the same numbers again. Assumes nothing.
use Rattle.grammar.proofs.Basics.{◌≡◌, refl, ap, true, Bool, ◌&&◌, cond, ℕ, ◌<◌, ◌≤◌, suc, zero, add-zero, le_refl}
use Rattle.grammar.proofs.Basics.{add-one, arith, eqb, ltb, eq-eqb, ne_eqb, eqb-true, eqb-false, ltb-true, lt-ltb}
use Rattle.grammar.proofs.Basics.{le-ltb, cases, and_false_right}
use Rattle.grammar.specs.Symbol.{IsTerminal}
use Rattle.grammar.specs.Counting.{one_if_lem, count}
use Rattle.grammar.proofs.Counting.{count_bound}
use Rattle.copies.specs.Copy.{new_number}

module _ (set : ℕ → Bool) where
  -- more members are below b than below a member that is below b
  pub count_past : (X b : ℕ) → set X ≡ true → X < b → count set X < count set b
  unfolding count
  count_past X zero e l = absurd (omega arith)
  count_past X (suc b) e l =
      cases (eqb X b)
      (λ q. let s : one_if_lem (set b) ≡ 1 = rw (← eqb-true X b q, e) in omega (arith, ap (count set) (eqb-true X b q)))
      (λ q. let d = eqb-false X b q in omega (arith, count_past X b e (omega arith)))

  -- the member with n members below it, sought below b; 0 if there is none
  unfoldable member : (b n : ℕ) → ℕ
  member zero n = 0
  member (suc b) n = cond (set b && eqb (count set b) n) b (member b n)

  member_found : (X b : ℕ) → set X ≡ true → X < b → member b (count set X) ≡ X
  unfolding member
  member_found X zero e l = absurd (omega arith)
  member_found X (suc b) e l =
      cases (eqb X b)
      (λ q. rw (← eqb-true X b q, e, eq-eqb (count set X) (count set X) refl))
      (λ q.
      let d = eqb-false X b q in
      let m : X < b = omega arith in
      rw (ne_eqb (count set b) (count set X) (λ s. omega (arith, count_past X b e m)), and_false_right (set b) _ refl)
      (member_found X b e m))

  -- from a new number back to the old one
  pub old_number : ℕ → ℕ
  old_number n = cond (ltb n 32) (member 32 n) n

  pub old_new : (X : ℕ) → set X ≡ true → old_number (new_number set X) ≡ X
  unfolding old_number
  old_new X e =
      cases (ltb X 32)
      (λ v.
      let l = ltb-true X 32 v in
      let m : count set X < 32 = omega (arith, count_bound set X) in
      rw (v, lt-ltb (count set X) 32 m) (member_found X 32 e l))
      (λ v. rw (v, v))

  -- both ways a terminal keeps its number
  pub new_terminal : (x : ℕ) → IsTerminal x → new_number set x ≡ x
  new_terminal x t = rw (le-ltb x 32 t.0)

  pub old_terminal : (x : ℕ) → IsTerminal x → old_number x ≡ x
  unfolding old_number
  old_terminal x t = rw (le-ltb x 32 t.0)

  -- no new number is greater than the old one
  pub new_at_most : (X : ℕ) → new_number set X ≤ X
  new_at_most X = cases (ltb X 32) (λ v. rw v (count_bound set X)) (λ v. rw v (le_refl X))

  -- another set, which has the new numbers of the members
  module _ (set' : ℕ → Bool) where
    count_again : (b : ℕ) → ((X : ℕ) → X < b → set X ≡ true → set' (count set X) ≡ true) →
        count set' (count set b) ≡ count set b
    unfolding count
    count_again zero has = refl
    count_again (suc b) has =
        let again = count_again b (λ X l. has X (omega arith)) in
        cases (set b)
        (λ e. rw (e, add-one) (omega (arith, ap one_if_lem (has b (omega arith) e))))
        (λ e. rw (e, add-zero) again)

    pub new_again : ((X : ℕ) → set X ≡ true → set' (new_number set X) ≡ true) →
        (X : ℕ) → new_number set' (new_number set X) ≡ new_number set X
    new_again has X =
        cases (ltb X 32)
        (λ v.
        let l = ltb-true X 32 v in
        let m : count set X < 32 = omega (arith, count_bound set X) in
        rw (v, lt-ltb (count set X) 32 m)
        (count_again X (λ Y k e. rw (lt-ltb Y 32 (omega arith)) at (has Y e))))
        (λ v. rw (v, v))
