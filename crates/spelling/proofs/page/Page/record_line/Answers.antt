-- `Page::record_line`: the transition, then the reason, of the bytes that the definition reads. Assumes nothing.
use Rattle.std.proofs.Common.{◌≡◌, ℕ, ◌+◌, ◌-◌, ◌*◌, ◌<◌, List, take, drop, get_or, ◌∙◌, arith}
use Rattle.std.proofs.lemmas.List.{get_or-take, get_or-drop}
use Rattle.spelling.specs.Records.{record_line_lem}
use Rattle.spelling.proofs.Placing.{then}
use Rattle.spelling.proofs.page.Page.record_line.Goals as goal

-- a byte of the eight from a place on
byte : (s : List ℕ) (i j : ℕ) → j < 8 → get_or (take (i + 8 - i) (drop i s)) j 0 ≡ get_or s (i + j) 0
byte s i j l = get_or-take _ _ j 0 (omega arith) ∙ get_or-drop i s j 0

pub returns : goal.returns
unfolding record_line_lem
returns c = record {
  placed = let b = byte c.args.listing.now (8 * c.args.k) in
      rw (b 0 (omega arith), b 1 (omega arith), b 2 (omega arith), b 3 (omega arith), b 4 (omega arith), b 5 (omega arith), b 6 (omega arith))
      at (then c.put_transition.ensures.placed c.put_reason.ensures.placed);
}
