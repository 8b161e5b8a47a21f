-- Words of 64 bits by symbol that hold a set. Assumes nothing.
use Rattle.std.specs.Prelude.{◌≡◌, ℕ, ◌<◌, Bool, eqb}
use Rattle.std.specs.Int.{bit_at}

-- the set that a word holds: the symbols at which it has a 1
abbrev pub flagged : ℕ → ℕ → Bool
flagged word X = eqb (bit_at word X) 1

-- a word that holds a set: of the 64 bits, those of its symbols are 1, the others 0
pub record Flags (set : ℕ → Bool) (word : ℕ) : Type 0 where
  pub at : (X : ℕ) → X < 64 → flagged word X ≡ set X
