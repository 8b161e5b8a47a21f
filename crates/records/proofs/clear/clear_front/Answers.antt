-- `clear::clear_front` fills the first bytes with zeros. Assumes nothing.
use Rattle.job.proofs.Clearing.{filled_front}
use Rattle.records.proofs.clear.clear_front.Goals as goal

pub returns : goal.returns
returns c = record { cleared = rw (c.fill.ensures.after (λ y h. h)) (filled_front _ _) }
