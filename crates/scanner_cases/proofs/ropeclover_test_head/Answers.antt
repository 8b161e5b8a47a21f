-- `ropeclover_test_head`: the edition is the one that was asked for. Assumes nothing.

use Rattle.grammar.proofs.Basics.{rules}
use Rattle.scanner_cases.proofs.ropeclover_test_head.Goals as goal

pub head_at-head-requires : goal.head_at-head-requires
head_at-head-requires c = record {
  inside = search rules;
  fine = rw c.edition_of.ensures.edition c.requires.fine;
}
