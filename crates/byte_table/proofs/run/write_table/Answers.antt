-- `run::write_table` meets its contract: into a cleared table anything can be merged. Assumes nothing.
use Rattle.grammar.proofs.Basics.{◌∙◌, ap, arith}
use Rattle.machine.specs.Theorems.Bytes.{rewritten}
use Rattle.byte_table.proofs.Runs.{from_nothing}
use Rattle.byte_table.proofs.run.write_table.Goals as goal

pub merge-requires : goal.merge-requires
merge-requires c = record {
  long = (omega arith, c.requires.long.0, omega arith);
  merges = rw c.clear_table.ensures.cleared (from_nothing _ _);
}

pub returns : goal.returns
returns c =
    record {
      written =
          c.merge.ensures.merged ∙ ap (rewritten _) c.clear_table.ensures.cleared;
    }
