-- Eight stores, at the next places one by one. Assumes nothing.
use Rattle.grammar.proofs.Basics.{◌∙◌}
use Rattle.forms.proofs.ReasonLaws.{record_stored}
use Rattle.listing.proofs.Reasons.write_record.Goals as goal

pub returns : goal.returns
returns c =
    record {
      written = record_stored c.requires.fits _ _ _ _ (c.bytes_of.ensures.bytes ∙ c.reason_of.ensures.bytes) _ _;
    }
