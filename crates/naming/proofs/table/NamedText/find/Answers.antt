use Rattle.grammar.proofs.Basics.{◌≡◌, ◌≤◌, suc, arith}
use Rattle.naming.proofs.Comparing.{compared_is}
use Rattle.naming.proofs.Chains.{look, is_entered, look_on, found, not_found}
use Rattle.naming.proofs.Viewed.{same_names}
use Rattle.naming.proofs.table.NamedText.find.Goals as goal

pub loop-i-init : goal.loop-i-init
loop-i-init c =
    let are = same_names c.self.view_is in
    rw c.from-k.ensures (look c.self.invariant are _ _ c.hash.ensures.hash c.hash.ensures.bucket)

pub name-requires : goal.name-requires
name-requires c =
    let are = same_names c.self.view_is in
    let more : c.loop-i.k ≡ suc c.in-Some.i = omega (arith, c.in-Some.ensures) in
    record { entered = is_entered c.self.invariant are c.loop-i.invariant more }

pub returns-then-eq_ignore_ascii_case : goal.returns-then-eq_ignore_ascii_case
returns-then-eq_ignore_ascii_case c =
    let are = same_names c.self.view_is in
    let more : c.loop-i.k ≡ suc c.in-Some.i = omega (arith, c.in-Some.ensures) in
    let says = rw c.name.ensures.name at (compared_is _ _ _ c.eq_ignore_ascii_case.ensures.test) in
    record {
      found = (
        found c.self.invariant are c.loop-i.invariant more says c.if-eq_ignore_ascii_case.true,
        is_entered c.self.invariant are c.loop-i.invariant more,
      );
    }

pub loop-i-preserved : goal.loop-i-preserved
loop-i-preserved c =
    let are = same_names c.self.view_is in
    let more : c.loop-i.k ≡ suc c.in-Some.i = omega (arith, c.in-Some.ensures) in
    let says = rw c.name.ensures.name at (compared_is _ _ _ c.eq_ignore_ascii_case.ensures.test) in
    rw c.from-k-in-Some.ensures
    (look_on c.self.invariant are c.loop-i.invariant more says c.if-eq_ignore_ascii_case.false)

pub returns : goal.returns
returns c =
    let are = same_names c.self.view_is in
    let none : c.loop-i.k ≤ 0 = omega (arith, c.in_default.ensures) in
    record { found = not_found c.self.invariant are c.loop-i.invariant none }
