-- It calls itself with a tenth of the number, and the number is the measure. Assumes nothing.
use Rattle.std.proofs.Common.{◌≤◌, arith}
use Rattle.spelling.proofs.PlacedDigits.{one_digit, digit_room, digit_more}
use Rattle.spelling.proofs.page.Page.+put_decimal.Goals as goal

pub returns-then-n-lt10 : goal.returns-then-n-lt10
returns-then-n-lt10 t c =
    record { placed = one_digit _ (omega arith) (omega arith) c.digit.ensures.digit c.put.ensures.placed }

pub put-requires-2 : goal.put-requires-2
put-requires-2 t c =
    record { room = let m : 10 ≤ c.args.n = omega arith in omega (arith, digit_room _ (omega arith) m) }

pub returns : goal.returns
returns t c =
    record {
      placed = digit_more _ (omega arith) (omega arith) c.digit-2.ensures.digit c.put_decimal.ensures.placed
          c.put-2.ensures.placed;
    }
