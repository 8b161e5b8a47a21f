-- An array that is made of zeros has the length that it is made with; at any length, so that none is counted out.
-- Assumes nothing.
use mathlib.Core.Path.{◌≡◌, sym}
use Prim.Native.Nat.{ℕ}
use lib.ListN.{length, replicate, length-replicate}

pub made_long : (n : ℕ) → n ≡ length {A = ℕ} (replicate n 0)
made_long n = sym (length-replicate n 0)
