-- `is_same` goes over pairs of bytes. The invariant: where none was different, the bytes passed are equal. Assumes
-- nothing.
use Rattle.grammar.proofs.Basics.{◌≡◌, false, ℕ, ◌<◌, length, get_or}
use Rattle.packing.proofs.merge.is_same.Given as goal

abbrev pub invariant-loop-x : goal.invariant-loop-x
invariant-loop-x l = l.different ≡ false → (k : ℕ) → k < length l.yielded → get_or l.a k 0 ≡ get_or l.b k 0
