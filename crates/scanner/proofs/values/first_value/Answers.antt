-- `values::first_value`: a dot ends the first number, else it is the only one. Assumes nothing.
use Rattle.grammar.proofs.Basics.{◌≤◌, ◌+◌, ◌*◌, arith, get_or}
use Rattle.abnf.specs.Bytes.{digit_value_lem}
use Rattle.scanner.proofs.Numbers.{first_ends, first_on, first_small, first_alone}
use Rattle.scanner.proofs.values.first_value.Goals as goal

pub returns-then-b-eq46-clause-values : goal.returns-then-b-eq46-clause-values
returns-then-b-eq46-clause-values c = search first_ends

pub overflow_mul-value : goal.overflow_mul-value
overflow_mul-value c =
    let l : 16 * c.loop-at.value + digit_value_lem (get_or c.args.text.now c.loop-at.at 0) ≤ 255 = search first_small in
    omega arith

pub overflow_add-value : goal.overflow_add-value
overflow_add-value c =
    let l : 16 * c.loop-at.value + c.digit_value.result ≤ 255 = search first_small in
    omega arith

pub loop-at-preserved : goal.loop-at-preserved
loop-at-preserved c = search first_on

pub returns-clause-values : goal.returns-clause-values
returns-clause-values c = search first_alone
