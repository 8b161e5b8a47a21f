-- `cycles::cycle_at` meets its contract: the rule of each key is tried. Assumes nothing.
use Rattle.grammar.proofs.Basics.{◌∙◌, rules}
use Rattle.std.proofs.Common.{tests}
use Rattle.std.proofs.lemmas.Iterator.{YieldsList-from_slice}
use Rattle.std.proofs.lemmas.Iterator.Adapters.{serves_from_places}
use Rattle.std.proofs.lemmas.Iterator.Search.{any_from_yields_List}
use Rattle.std.proofs.lemmas.List.{get_or_default}
use Rattle.job.specs.Inside.Keys.{KeyFits}
use Rattle.job.proofs.KeyRules.{read_fits}
use Rattle.verdicts.proofs.Cyclic.{pair_key, pairs_tried}
use Rattle.judging.proofs.cycles.cycle_at.Goals as goal

pub any-requires-clause-callable : goal.any-requires-clause-callable
any-requires-clause-callable c =
    let keys = c.args.keys.now in
    serves_from_places (YieldsList-from_slice keys c.iter.ensures.rest) (λ x q k. search (rules, tests))
    (λ x k l is.
    let fits : KeyFits x.now = rw (is, get_or_default keys k _ 0 l) (c.requires.rules.fit k l) in
    search (rules, read_fits))

pub returns : goal.returns
returns c =
    record {
      says =
          let back = c.leading_symbols-back.ensures.flags in
          any_from_yields_List (pair_key c.args.symbol c.requires.rules back c.requires.terminal) _ _ c.any.result
          c.any.ensures.ran (YieldsList-from_slice c.args.keys.now c.iter.ensures.rest)
          (λ x b q k. search (rules, tests))
          ∙ pairs_tried c.args.symbol c.requires.rules back c.requires.terminal;
    }
