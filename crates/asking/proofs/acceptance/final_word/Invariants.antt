-- `acceptance::final_word` meets its contract. The loop's invariant: the states noted, with those that the records
-- from i on have, are all final ones. Assumes nothing.
use Rattle.job.specs.Format.{records_of}
use Rattle.forms.proofs.FinalWord.{FinalFrom}
use Rattle.asking.proofs.acceptance.final_word.Given as goal

abbrev pub invariant-loop-i : goal.invariant-loop-i
invariant-loop-i l = FinalFrom (records_of l.job) l.word l.i
