use Rattle.grammar.proofs.Basics.{◌≡◌, sym, List, ℕ, ◌<◌, ◌≤◌, add-one, arith, length, get_or, take}
use Rattle.grammar.proofs.Basics.{length-take-le}
use Rattle.grammar.proofs.Basics.{get_or-take}
use lib.ListN.{length-replicate}
use Rattle.forms.proofs.ListAll.{pass_begins, next_done, pass_goes_on, pass_ends, may_visit}
use Rattle.listing.proofs.list_all.Goals as goal

-- the next place of the route
inside : (i n : ℕ) (route : List ℕ) → n ≤ length route → i < n → i < length (take n route)
inside i n route long h = omega (arith, length-take-le n route long)

next : (i n : ℕ) (route : List ℕ) → i < n → get_or route i 0 ≡ get_or (take n route) i 0
next i n route h = sym (get_or-take n _ _ 0 h)

pub loop-i-init : goal.loop-i-init
loop-i-init c =
    let can = c.requires.able in
    (length-replicate {A = ℕ} 32768 0, can, pass_begins can)

pub overflow_cast-p : goal.overflow_cast-p
overflow_cast-p c =
    let inv = c.loop-i.invariant in
    omega (
      arith,
      (next_done inv.1 (inside _ _ _ c.requires.sequence.1 c.loop-i-test.true) inv.2
          (next _ _ c.args.route.now c.loop-i-test.true)).within,
    )

pub visit-count-requires : goal.visit-count-requires
visit-count-requires c =
    record {
      able =
          let inv = c.loop-i.invariant in
          may_visit inv.1 (inside _ _ _ c.requires.sequence.1 c.loop-i-test.true) inv.2
          (next _ _ c.args.route.now c.loop-i-test.true) _ inv.0;
    }

pub loop-i-preserved : goal.loop-i-preserved
loop-i-preserved c =
    let inv = c.loop-i.invariant in (
      c.visit-count.ensures.path,
      inv.1,
      rw (
        c.visit-count.ensures.pass,
        add-one,
      ) (pass_goes_on inv.1 (inside _ _ _ c.requires.sequence.1 c.loop-i-test.true) inv.2
          (next _ _ c.args.route.now c.loop-i-test.true)),
    )

pub returns : goal.returns
returns c =
    record {
      listed =
          let size = length-take-le c.args.n c.args.route.now c.requires.sequence.1 in
          let end : c.loop-i.i ≡ length (take c.args.n c.args.route.now) =
          omega (arith, size)
          in
          pass_ends c.loop-i.invariant.1 end c.loop-i.invariant.2;
    }
