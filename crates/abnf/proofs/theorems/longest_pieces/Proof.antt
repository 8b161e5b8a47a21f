-- `abnf::theorems::longest_pieces` meets its contract: what is read is at least as long as any piece that begins the
-- text. Assumes nothing.
use Rattle.abnf.proofs.Longest.{longest_pieces_lem}
use Rattle.abnf.proofs.theorems.longest_pieces.Statement.{statement}
use Rattle.abnf.proofs.theorems.longest_pieces.Tie as tie

pub longest_pieces_spec : {M : Type 1} → statement M
longest_pieces_spec = tie.close (tie.spec (λ c. longest_pieces_lem))
