-- `values::dotted_length`: the walk stops where the digits and dots end. Assumes nothing.
use Rattle.grammar.proofs.Basics.{rules}
use Rattle.scanner.proofs.Stretches.{dotted_counts, at_the_end, stops, goes_on}
use Rattle.scanner.proofs.values.dotted_length.Goals as goal

pub returns-then-not-in_dotted-clause-length : goal.returns-then-not-in_dotted-clause-length
returns-then-not-in_dotted-clause-length c = search (stops dotted_counts)

pub loop-at-preserved : goal.loop-at-preserved
loop-at-preserved c = search (goes_on dotted_counts)

pub returns-clause-length : goal.returns-clause-length
returns-clause-length c = search (at_the_end dotted_counts, rules)
