-- A status is absent, pending or done, and one of these alone. Assumes nothing.
use Rattle.grammar.proofs.Basics.{◌≡◌, refl, true, false, false≢true, true≢false}
use Rattle.machine.specs.Table.{Status, says_absent, says_pending, says_done}

pub pending_not_done : (s : Status) → says_pending s ≡ true → says_done s ≡ false
pending_not_done Status.absent e = refl
pending_not_done Status.pending e = refl
pending_not_done Status.done e = absurd (false≢true e)

pub pending_not_absent : (s : Status) → says_pending s ≡ true → says_absent s ≡ false
pending_not_absent Status.absent e = absurd (false≢true e)
pending_not_absent Status.pending e = refl
pending_not_absent Status.done e = refl

pub done_not_pending : (s : Status) → says_done s ≡ true → says_pending s ≡ false
done_not_pending Status.absent e = refl
done_not_pending Status.pending e = absurd (false≢true e)
done_not_pending Status.done e = refl

pub done_not_absent : (s : Status) → says_done s ≡ true → says_absent s ≡ false
done_not_absent Status.absent e = absurd (false≢true e)
done_not_absent Status.pending e = refl
done_not_absent Status.done e = refl

pub absent_not_done : (s : Status) → says_absent s ≡ true → says_done s ≡ false
absent_not_done Status.absent e = refl
absent_not_done Status.pending e = refl
absent_not_done Status.done e = absurd (false≢true e)

-- what is there and not pending is done
pub there_done : (s : Status) → says_absent s ≡ false → says_pending s ≡ false → says_done s ≡ true
there_done Status.absent e f = absurd (true≢false e)
there_done Status.pending e f = absurd (true≢false f)
there_done Status.done e f = refl
