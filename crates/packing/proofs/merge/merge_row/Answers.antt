-- `merge::merge_row` meets its contract: the new pending places get a 1, the new done ones a 2. Assumes nothing.
use Rattle.grammar.proofs.Basics.{◌∙◌, arith}
use Rattle.packing.proofs.Merged.{row_merged}
use Rattle.packing.proofs.merge.merge_row.Goals as goal

pub returns : goal.returns
returns c = record {
  merged = (λ before merges rows. row_merged _ _ before _ _ _ _ c.pending_row.result c.pending_row-2.result
      c.done_row.result c.done_row-2.result c.pending_row.ensures.pending
      c.pending_row-2.ensures.pending c.done_row.ensures.done c.done_row-2.ensures.done c.requires.within.0
      (omega arith)
      (omega arith) c.write_ones.ensures.written c.write_ones-2.ensures.written merges rows);
  long = c.write_ones-2.ensures.written.long ∙ c.write_ones.ensures.written.long;
}
