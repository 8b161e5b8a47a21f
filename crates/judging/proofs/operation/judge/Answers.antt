-- `operation::judge`: the sets are the computed ones, and the keys kept those of the useful rules, so the codes and the
-- answers are the computed ones. Assumes nothing.
use Rattle.judging.proofs.operation.judge.Goals as goal

pub returns : goal.returns
returns c = record {
  empty = rw (c.contains.ensures.says, c.productive_symbols-productive.ensures.flags.at c.args.start c.requires.start);
  growing = rw (
    c.any_cycle.ensures.says,
    c.as_slice.ensures,
    c.keep_rules-kept.ensures.rules _ c.useful_symbols-useful.ensures.flags,
  );
  codes = c.write_codes.ensures.codes _ _ _ c.named_symbols-named.ensures.flags
      c.productive_symbols-productive.ensures.flags c.useful_symbols-useful.ensures.flags;
}
