-- `pack::pack_row` meets its contract: a blank row needs no writing, another is written as its two words. Assumes
-- nothing.
use Rattle.grammar.proofs.Basics.{refl, ◌∙◌}
use Rattle.packing.proofs.Packed.{blank_row, row_packed}
use Rattle.packing.proofs.pack.pack_row.Goals as goal

pub returns-then-is_blank : goal.returns-then-is_blank
returns-then-is_blank c = record {
  long = refl;
  packed = blank_row _ (c.is_blank.ensures.blank c.if-is_blank.true);
}

pub returns : goal.returns
returns c = record {
  long = c.write_row-2.ensures.written.long ∙ c.write_row.ensures.written.long;
  packed = row_packed c.row_words-w.ensures.pending c.row_words-w.ensures.done c.write_row.ensures.written
      c.write_row-2.ensures.written;
}
