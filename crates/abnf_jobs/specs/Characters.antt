-- ABNF text as a job: the characters used, and their numbers. Assumes nothing.
use Rattle.std.specs.Prelude.{ℕ, zero, suc, ◌+◌, Bool, false, cond, ◌||◌, List, [], ◌∷◌, ◌++◌, eqb, get_or}
use Rattle.grammar.specs.Counting.{count}
use Rattle.job.specs.Written.{written}
use Rattle.abnf.specs.Bytes.{lower}
use Rattle.abnf.specs.Text.{Line}
use Rattle.abnf_jobs.specs.Bodies.{Item, named, letter, character, Body, bodies_of}

-- an item stands for a character, a letter for both its cases
abbrev pub stands_for : Item → ℕ → Bool
stands_for (named n) c = false
stands_for (letter l) c = eqb (lower c) l
stands_for (character b) c = eqb b c

-- some item does
unfoldable pub some_for : List Item → ℕ → Bool
some_for [] c = false
some_for (x ∷ xs) c = stands_for x c || some_for xs c

-- ABNF text as a job: a character is used where an item of a body stands for it, whether the body is reached or not
unfoldable pub used_in : List Body → ℕ → Bool
used_in [] c = false
used_in (b ∷ bs) c = some_for b.items c || used_in bs c

-- ABNF text as a job: the characters used are the terminals from 32 on, in ascending order
abbrev pub terminal_of : (ℕ → Bool) → ℕ → ℕ
terminal_of used c = 32 + count used c

-- the characters below n that are used, in that order
unfoldable pub used_below : (ℕ → Bool) → ℕ → List ℕ
used_below used zero = []
used_below used (suc n) = used_below used n ++ cond (used n) (n ∷ []) []

abbrev pub characters_used : List Line → List ℕ
characters_used lines = used_below (used_in (bodies_of lines)) 256

-- ABNF text as a job: the map has the characters in its 32 bytes, and 0 past the last; what is lent past 32 bytes stays
abbrev pub mapped : List ℕ → List ℕ → List ℕ
mapped characters map = written (λ i. get_or characters i 0) 0 32 map
