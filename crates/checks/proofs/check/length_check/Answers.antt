-- `check::length_check`: the two tests are the definition's. Assumes nothing.
use Rattle.grammar.proofs.Basics.{◌≡◌, ℕ, ◌<◌, ◌≤◌, ◌/◌, ◌%◌, eq-eqb, ne_eqb, lt-ltb, le-ltb, rules}
use Rattle.job.specs.Records.{refused, accepted, length_check_lem}
use Rattle.checks.proofs.check.length_check.Goals as goal

module _ (most size n : ℕ) where
  too_long : most < n → refused 2 n ≡ length_check_lem most size n
  unfolding length_check_lem
  too_long h = rw (lt-ltb most n h)

  module _ (within : n ≤ most) where
    no_whole_records : (n % size ≡ 0 → ⊥) → refused 1 (n / size) ≡ length_check_lem most size n
    unfolding length_check_lem
    no_whole_records z = rw (le-ltb most n within, ne_eqb (n % size) 0 z)

    whole_records : n % size ≡ 0 → accepted ≡ length_check_lem most size n
    unfolding length_check_lem
    whole_records e = rw (le-ltb most n within, eq-eqb (n % size) 0 e)

ruleset ways = (too_long, no_whole_records, whole_records, rules)

pub returns-then-most-n : goal.returns-then-most-n
returns-then-most-n c = record { checked = search ways }

pub nonzero_rem-n : goal.nonzero_rem-n
nonzero_rem-n c = search ways

pub nonzero_div-result : goal.nonzero_div-result
nonzero_div-result c = search ways

pub returns-then-n-size-ne0 : goal.returns-then-n-size-ne0
returns-then-n-size-ne0 c = record { checked = search ways }

pub returns : goal.returns
returns c = record { checked = search ways }
