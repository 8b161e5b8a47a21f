-- How much of the bytes that begin a text the definitions count, and what is taken of it. Assumes nothing.
use Rattle.grammar.proofs.Basics.{ℕ, zero, suc, ◌≤◌, List, [], ◌∷◌, ◌++◌, ◌≡◌, refl, ap, Bool, true, length, take}
use Rattle.grammar.proofs.Basics.{arith, or_left, suc-le-suc, false≢true}
use Prim.Native.Nat.{zero-le}
use native.Mathlib.Nat.{le_of_suc-le-suc}
use Rattle.abnf.specs.Text.{Many, no_more, one_more, OneOrMore, at_least_one}
use Rattle.abnf.specs.Pieces.{span, begins, dotted}
use Rattle.abnf.proofs.Spans.{counted}
use Rattle.abnf.proofs.Values.{Dotted, done, digit, point}

-- bytes that pass a test and begin a text are counted
pub span_reaches : (p : ℕ → Bool) (t rest : List ℕ) → Many p t → length t ≤ span p (t ++ rest)
unfolding span
span_reaches p t rest no_more = zero-le
span_reaches p t rest (one_more {s = s} h m) = rw h (suc-le-suc (span_reaches p s rest m))

-- and so are digits and dots with a digit after them
pub dotted_reaches : (t rest : List ℕ) → Dotted t → length t ≤ dotted (t ++ rest)
unfolding dotted begins
dotted_reaches t rest done = zero-le
dotted_reaches t rest (digit {s = s} h r) = rw (or_left _ _ h) (suc-le-suc (dotted_reaches s rest r))
dotted_reaches t rest (point {s = s} h r) = rw h (suc-le-suc (suc-le-suc (dotted_reaches s rest r)))

-- what is counted is one byte at least where the first passes the test
pub counted_some : (p : ℕ → Bool) (s : List ℕ) → begins p s ≡ true → OneOrMore p (take (span p s) s)
unfolding span begins
counted_some p [] h = absurd (false≢true h)
counted_some p (b ∷ s) h = rw h (at_least_one h (counted p s))

-- as many bytes or more, taken of a text, are at least as long as what it begins with
pub front_taken : (n : ℕ) (t rest : List ℕ) → length t ≤ n → length t ≤ length (take n (t ++ rest))
front_taken n [] rest l = zero-le
front_taken zero (b ∷ t) rest l = l
front_taken (suc n) (b ∷ t) rest l = suc-le-suc (front_taken n t rest (le_of_suc-le-suc l))

-- and where they are no longer, they are that
nothing_taken : (s : List ℕ) → length s ≤ 0 → s ≡ []
nothing_taken [] l = refl
nothing_taken (b ∷ s) l = absurd (omega arith)

pub same_front : (n : ℕ) (t rest : List ℕ) → length t ≤ n → length (take n (t ++ rest)) ≤ length t →
    take n (t ++ rest) ≡ t
same_front n [] rest l m = nothing_taken (take n rest) m
same_front zero (b ∷ t) rest l m = absurd (omega arith)
same_front (suc n) (b ∷ t) rest l m =
    ap (λ r. b ∷ r) (same_front n t rest (le_of_suc-le-suc l) (le_of_suc-le-suc m))
