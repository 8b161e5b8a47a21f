use Rattle.naming.proofs.NameFaults.{reached_start, fault_here, fault_later, past_line, no_fault}
use Rattle.naming.proofs.uses.name_fault.Goals as goal

pub loop-at-init : goal.loop-at-init
loop-at-init c = search reached_start

pub returns-then-above-is_defines : goal.returns-then-above-is_defines
returns-then-above-is_defines c =
    let e = c.edition-edition.ensures.edition in
    let t = c.text-text.ensures.text in
    record {
      fault =
          fault_here _ _ _ _ _ c.loop-at.invariant _ (rw (e, t) at c.head_at-head.ensures.read) _
          (rw t at c.number.ensures.number) _ c.is_defines.ensures.says c.if-above-is_defines.true;
    }

pub loop-at-preserved : goal.loop-at-preserved
loop-at-preserved c =
    let e = c.edition-edition.ensures.edition in
    let t = c.text-text.ensures.text in
    rw c.from-defined.ensures
    (past_line _ _ _ _ _ c.loop-at.invariant _ (rw (e, t) at c.head_at-head.ensures.read) _
    (rw t at c.number.ensures.number) _ c.is_defines.ensures.says c.if-above-is_defines.false _ c.in-Ok.ensures.looked)

pub returns-in-Err : goal.returns-in-Err
returns-in-Err c =
    let e = c.edition-edition.ensures.edition in
    let t = c.text-text.ensures.text in
    record {
      fault =
          fault_later _ _ _ _ _ c.loop-at.invariant _ (rw (e, t) at c.head_at-head.ensures.read) _
          (rw t at c.number.ensures.number) _ c.is_defines.ensures.says c.if-above-is_defines.false _
          c.in-Err.ensures.looked;
    }

pub returns : goal.returns
returns c =
    record { fault = no_fault _ _ _ _ _ c.loop-at.invariant (rw c.text-text.ensures.text at c.loop-at-test.false) }
