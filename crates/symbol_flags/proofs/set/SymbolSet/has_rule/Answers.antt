-- `set::SymbolSet::has_rule` meets its contract: the head, then the body. Assumes nothing.
use Rattle.job.proofs.KeyRules.{from_head}
use Rattle.usefulness.specs.Sets.{all_in_lem}
use Rattle.symbol_flags.proofs.set.SymbolSet.has_rule.Goals as goal

pub returns-then-contains : goal.returns-then-contains
unfolding all_in_lem
returns-then-contains c =
    record {
      says = rw (from_head, ← c.contains.ensures.says, c.if-contains.true) c.has_body.ensures.says;
    }

pub returns-else-contains : goal.returns-else-contains
unfolding all_in_lem
returns-else-contains c = record { says = rw (from_head, ← c.contains.ensures.says, c.if-contains.false) }
