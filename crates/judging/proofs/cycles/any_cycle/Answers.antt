-- `cycles::any_cycle` meets its contract: each variable is tried as a head. Assumes nothing.
use Rattle.grammar.proofs.Basics.{◌∙◌, refl, rules}
use Rattle.std.proofs.Common.{tests}
use Rattle.std.proofs.lemmas.Iterator.{YieldsList-from_range}
use Rattle.std.proofs.lemmas.Iterator.Search.{any_from_yields_List}
use Rattle.job.specs.Inside.Keys.{rules_of_keys}
use Rattle.job.proofs.KeyRules.{keys_in_range, head_below}
use Rattle.verdicts.specs.Inside.Cycles.{cycle_at_lem}
use Rattle.verdicts.proofs.Cyclic.{heads_tried}
use Rattle.judging.proofs.cycles.any_cycle.Goals as goal

pub returns : goal.returns
returns c =
    record {
      says =
          let keys = c.args.keys.now in
          any_from_yields_List (λ A. cycle_at_lem A (rules_of_keys keys)) _ _ c.any.result c.any.ensures.ran
          (YieldsList-from_range 0 32 32 refl refl) (λ x b q k. search (rules, tests))
          ∙ heads_tried _ 32 (λ ρ m. head_below ρ (keys_in_range keys c.requires.rules.fit ρ m));
    }
