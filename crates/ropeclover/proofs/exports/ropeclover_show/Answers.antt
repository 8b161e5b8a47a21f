-- `ropeclover::exports::ropeclover_show`: where the part stands, and the length of what showing returns, which is the
-- part's. Assumes nothing.
use Rattle.grammar.proofs.Basics.{◌∙◌, ap, length}
use Rattle.job.proofs.RefusedPlace.{shown_long}
use Rattle.ropeclover.proofs.exports.ropeclover_show.Goals as goal

pub returns : goal.returns
returns c =
    record {
      answered =
          rw (ap length c.shown.ensures.bytes ∙ shown_long _, c.shown.ensures.part);
    }
