-- `dialect::all_below`: each byte is tested as the definition tests it. Assumes nothing.
use Rattle.grammar.proofs.Basics.{◌∙◌, ltb, rules}
use Rattle.std.proofs.Common.{tests}
use Rattle.std.proofs.lemmas.Iterator.{YieldsList-from_slice}
use Rattle.std.proofs.lemmas.Iterator.Search.{all_from_yields_List}
use Rattle.long_jobs.proofs.Tests.{all_tested}
use Rattle.long_records.proofs.dialect.all_below.Goals as goal

pub returns : goal.returns
returns c =
    let tested = all_from_yields_List (λ x. ltb x c.args.bound) _ _ c.all.result c.all.ensures.ran
    (YieldsList-from_slice c.args.bytes.now cc) (λ x b q k. search (rules, tests)) in
    record { says = tested ∙ all_tested _ _ }
