-- What the methods that write a piece of what is printed promise. Assumes nothing.
use Rattle.std.specs.Prelude.{◌≡◌, ℕ, ◌+◌, ◌^◌, ◌<◌, ◌≤◌, List, length}
use Rattle.std.proofs.lemmas.List.Edits.{sets}
use Rattle.spelling.specs.declared.page.Page.{Page}

-- A piece of at most so many bytes is written where the page's bytes so far end, byte by byte, where the buffer has room
-- for it; the bytes are counted whether there was room or not, and the buffer is the one that was lent
pub record Placed (piece : List ℕ) (most : ℕ) (before after : Page) : Type 0 where
  pub same : after.out.ghost_name ≡ before.out.ghost_name
  pub moved : after.at ≡ before.at + length piece
  pub short : length piece ≤ most
  pub written : after.out.now ≡ sets before.out.now before.at piece

-- the count of so many bytes more is a number of 64 bits
abbrev pub Room : Page → ℕ → Type 0
Room page most = page.at + most < 2 ^ 64
