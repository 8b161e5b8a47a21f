-- `Used::numbers`. The invariant: the first c numbers are written, and the next is the terminal of c. Assumes nothing.
use Rattle.grammar.proofs.Basics.{◌≡◌, replicate}
use Rattle.job.specs.Written.{written}
use Rattle.abnf_jobs.specs.Characters.{terminal_of}
use Rattle.text_symbols.specs.Marks.{marked}
use Rattle.text_symbols.proofs.characters.Used.numbers.Given as goal

abbrev pub invariant-loop-c : goal.invariant-loop-c
invariant-loop-c l = record {
  next : l.terminal ≡ terminal_of (marked l.self) l.c;
  written : l.numbers ≡ written (terminal_of (marked l.self)) 0 l.c (replicate 256 0);
}
