-- The computed verdicts are what is meant, of a grammar and of a call that is not refused. Assumes nothing.
use Rattle.grammar.proofs.Basics.{◌≡◌, ap, subst, ◌↔◌, Iff·trans, true, false, not, List, ℕ, arith, not-true}
use Rattle.grammar.proofs.Basics.{not-false, cases, refuted, not_true_false}
use Rattle.grammar.specs.Rule.{Rule, Among}
use Rattle.grammar.specs.Useful.{Productive}
use Rattle.grammar.specs.Growing.{Growing}
use Rattle.grammar.specs.Language.{Infinite, Finite}
use Rattle.grammar.proofs.UsefulIsBoth.{useful_both, both_useful}
use Rattle.grammar.proofs.Growth.{growing_is_infinite_lem, not_growing_is_finite_lem}
use Rattle.job.specs.Job.{job_of}
use Rattle.job.proofs.AcceptedFacts.{in_range}
use Rattle.job.proofs.Filling.{written_at}
use Rattle.usefulness.specs.Usefulness.{productive, useful}
use Rattle.usefulness.proofs.Rounds.{Below}
use Rattle.usefulness.proofs.Bodies.{range_below}
use Rattle.usefulness.proofs.Papers.{productive_is, useful_is}
use Rattle.verdicts.specs.Verdicts.{growing, is_empty, is_named_lem, code_of}
use Rattle.verdicts.specs.Operation.{verdicts_check_lem, verdicts_on}
use Rattle.verdicts.specs.Meaning.{CodeIs, unnamed, useful_symbol, unproductive, out_of_context}
use Rattle.verdicts.specs.Theorems.Meant.{Meant}
use Rattle.verdicts.proofs.GrowingIsCycle.{growing_is}
use Rattle.verdicts.proofs.Outcome.{unrefused, verdicts_given}

module _ (rules : List Rule) (S : ℕ) (below : Below 64 rules) where
  -- a code is the code that the papers' sets give
  code_is : (X : ℕ) → CodeIs rules S X (code_of rules S X)
  code_is X =
      cases (is_named_lem rules S X)
      (λ n. rw n
      (cases (productive rules X)
      (λ p.
      let derives = (productive_is rules below X).0 p in
      rw p
      (cases (useful rules S X)
      (λ u. rw u (useful_symbol n derives (useful_both (Among rules) S X ((useful_is rules below S X).0 u)).1))
      (λ u. rw u (out_of_context n derives
      (λ c. refuted (useful_is rules below S X) u (both_useful (Among rules) S X derives c))))))
      (λ p. rw p (unproductive n (refuted (productive_is rules below X) p)))))
      (λ n. rw n (unnamed n))

  is_code : {X c : ℕ} → CodeIs rules S X c → code_of rules S X ≡ c
  is_code (unnamed n) = rw n
  is_code {X} (useful_symbol n p c) =
      rw (n, (productive_is rules below X).1 p, (useful_is rules below S X).1 (both_useful (Among rules) S X p c))
  is_code {X} (unproductive n p) =
      rw (n, not_true_false (productive rules X) (λ e. p ((productive_is rules below X).0 e)))
  is_code {X} (out_of_context n p c) =
      rw (
        n,
        (productive_is rules below X).1 p,
        not_true_false (useful rules S X) (λ e. c (useful_both (Among rules) S X ((useful_is rules below S X).0 e)).1),
      )

  pub code_meant : (X c : ℕ) → (code_of rules S X ≡ c) ↔ CodeIs rules S X c
  code_meant X c = (λ e. subst (CodeIs rules S X) e (code_is X), is_code)

  empty_meant : (is_empty rules S ≡ true) ↔ (Productive (Among rules) S → ⊥)
  empty_meant = (
    λ e. refuted (productive_is rules below S) (not-true (productive rules S) e),
    λ n. ap not (not_true_false (productive rules S) (λ e. n ((productive_is rules below S).0 e))),
  )

  not_empty_meant : (is_empty rules S ≡ false) ↔ Productive (Among rules) S
  not_empty_meant = (
    λ e. (productive_is rules below S).0 (not-false (productive rules S) e),
    λ p. ap not ((productive_is rules below S).1 p),
  )

  infinite_meant : (growing rules S ≡ true) ↔ Infinite (Among rules) S
  infinite_meant = Iff·trans (growing_is rules S below) (growing_is_infinite_lem rules S)

  not_growing_meant : (growing rules S ≡ false) ↔ (Growing (Among rules) S → ⊥)
  not_growing_meant = (
    refuted (growing_is rules S below),
    λ n. not_true_false (growing rules S) (λ e. n ((growing_is rules S below).0 e)),
  )

  finite_meant : (growing rules S ≡ false) ↔ Finite (Among rules) S
  finite_meant = Iff·trans not_growing_meant (not_growing_is_finite_lem rules S)

pub verdicts_meant : (job table codes : List ℕ) → (verdicts_check_lem job table codes).number ≡ 0 → Meant job table codes
unfolding verdicts_on
verdicts_meant job table codes z =
    let u = unrefused job table codes z in
    let rules = (job_of job).rules in
    let S = (job_of job).start in
    let below = range_below (in_range u.passes).rules in
    let given = verdicts_given job table codes z in
    record {
      code = λ X c l. rw (given, written_at (code_of rules S) 64 codes X l (omega (arith, u.codes_long)))
          (code_meant rules S below X c);
      empty = rw given (empty_meant rules S below);
      not_empty = rw given (not_empty_meant rules S below);
      growing = rw given (growing_is rules S below);
      infinite = rw given (infinite_meant rules S below);
      finite = rw given (finite_meant rules S below);
    }
