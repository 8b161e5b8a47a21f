-- The characters used, as marks by byte, and their numbers. Assumes nothing.
use Rattle.std.specs.Prelude.{ℕ, ◌<◌, ◌≡◌, Bool, false, List, length, get_or}
use Rattle.abnf_jobs.specs.Characters.{terminal_of}

-- the set that marks hold
abbrev pub marked : List Bool → ℕ → Bool
marked marks c = get_or marks c false

-- marks hold a set
pub record Marked (set : ℕ → Bool) (marks : List Bool) : Type 0 where
  pub at : (c : ℕ) → c < 256 → marked marks c ≡ set c

-- 256 numbers: the terminal of each character, by the set of those used
pub record Numbered (used : ℕ → Bool) (numbers : List ℕ) : Type 0 where
  pub size : length numbers ≡ 256
  pub at : (c : ℕ) → c < 256 → get_or numbers c 0 ≡ terminal_of used c
