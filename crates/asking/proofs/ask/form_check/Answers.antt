-- `ask::form_check`: the first byte that is no symbol is the first over 63. Assumes nothing.
use Rattle.grammar.proofs.Basics.{◌≡◌, sym, List, ℕ, ◌<◌, ◌≤◌, arith, length, rules}
use Rattle.std.proofs.Common.{tests}
use Rattle.std.specs.List.{AllWithin, HoldsAt}
use Rattle.std.proofs.lemmas.Iterator.{IsFirst-from_position, YieldsList-from_slice}
use Rattle.std.proofs.lemmas.Option.{MatchOption-at_some, MatchOption-at_none}
use Rattle.job.specs.Check.{refused, accepted}
use Rattle.forms.specs.Operations.{form_check_lem}
use Rattle.forms.proofs.FormChecks.{form_too_long, form_over, form_fits}
use Rattle.asking.proofs.ask.form_check.Goals as goal

module _ (w : List ℕ) (short : length w ≤ 64) where
  found : (i : ℕ) → (i < length w) × HoldsAt (λ x. 63 < x) w i × AllWithin (λ x. x ≤ 63) w 0 i →
      refused 11 i ≡ form_check_lem w
  found i (l, over, fit) = sym (form_over w i short (λ k h. fit k 0 (omega arith) h) l (over 0))

  none : AllWithin (λ x. x ≤ 63) w 0 (length w) → accepted ≡ form_check_lem w
  none fit = sym (form_fits w short (λ k h. fit k 0 (omega arith) h))

pub returns-then-form-gt-FORM_SYMBOLS : goal.returns-then-form-gt-FORM_SYMBOLS
returns-then-form-gt-FORM_SYMBOLS c = record { checked = sym (form_too_long _ c.if-form-gt-FORM_SYMBOLS.true) }

pub returns-in-Some : goal.returns-in-Some
returns-in-Some c =
    let first = IsFirst-from_position _ _ c.position.result (λ x. 63 < x) (λ x. x ≤ 63) c.position.ensures.ran
    (YieldsList-from_slice c.args.form.now cc) (λ x q k. search (rules, tests)) (λ x q k. search (rules, tests)) in
    record { checked = found c.args.form.now c.if-form-gt-FORM_SYMBOLS.false _ (MatchOption-at_some _ _ _ c.in-Some.is first) }

pub returns-in-None : goal.returns-in-None
returns-in-None c =
    let first = IsFirst-from_position _ _ c.position.result (λ x. 63 < x) (λ x. x ≤ 63) c.position.ensures.ran
    (YieldsList-from_slice c.args.form.now cc) (λ x q k. search (rules, tests)) (λ x q k. search (rules, tests)) in
    record { checked = none c.args.form.now c.if-form-gt-FORM_SYMBOLS.false (MatchOption-at_none _ _ c.in-None.is first) }
