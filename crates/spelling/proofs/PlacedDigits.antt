-- Writing a number: its digits but the last, then the last. Assumes nothing.
use mathlib.Core.Path.{◌≡◌}
use Prim.Native.Nat.{ℕ, ◌+◌, ◌/◌, ◌%◌, ◌≤◌, ◌<◌}
use native.Mathlib.Omega.{arith}
use mathlib.Core.List.{[], ◌∷◌}
use lib.ListN.{length, length-append}
use Rattle.spelling.specs.declared.page.Page.{Page}
use Rattle.spelling.specs.Words.{digit, decimal}
use Rattle.spelling.specs.Inside.Placed.{Placed}
use Rattle.spelling.proofs.Decimal.{decimal_one, decimal_more, decimal_short}
use Rattle.spelling.proofs.Placing.{then, within}

module _ (n : ℕ) (fits : n < 18446744073709551616) where
  pub one_digit : {b : ℕ} {before after : Page}
      → n < 10
      → b ≡ digit n
      → Placed (b ∷ []) 1 before after
      → Placed (decimal n) 20 before after
  one_digit l e a = rw (decimal_one n fits l) (within (rw e at a) (omega arith))

  pub digit_room : 10 ≤ n → length (decimal (n / 10)) + 1 ≤ 20
  digit_room l =
      let e : length (decimal n) ≡ length (decimal (n / 10)) + 1 = rw (decimal_more n fits l, length-append) in
      omega (arith, decimal_short n)

  pub digit_more : {b : ℕ} {before between after : Page}
      → 10 ≤ n
      → b ≡ digit (n % 10)
      → Placed (decimal (n / 10)) 20 before between
      → Placed (b ∷ []) 1 between after
      → Placed (decimal n) 20 before after
  digit_more l e a b =
      let w = rw (← decimal_more n fits l) at (then a (rw e at b)) in
      record { same = w.same; moved = w.moved; short = decimal_short n; written = w.written }
