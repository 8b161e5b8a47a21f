-- One store, and the record behind those written. Assumes nothing.
use Rattle.forms.proofs.Passes.{listed_written, listed_counted}
use Rattle.listing.proofs.Reasons.list_one.Goals.{then-write, else-write}
use Rattle.listing.proofs.Reasons.list_one.Goals as goal

pub returns : goal.returns
returns c =
    let a = c.args in
    record {
      listed = elim c.if-write.branch [
        | then-write w ↦ rw (w.if-write.true, w.listing-is)
            (listed_written _ _ a.table.now _ a.count a.p w.write_record.ensures.written)
        | else-write w ↦ rw (w.if-write.false, w.listing-is) (listed_counted _ _ a.table.now _ a.count a.p)
      ];
    }
