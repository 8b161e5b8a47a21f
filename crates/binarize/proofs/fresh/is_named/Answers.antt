-- `fresh::is_named`: each record is tested in turn. Assumes nothing.
use Rattle.grammar.proofs.Basics.{◌∙◌, rules}
use Rattle.std.proofs.Common.{tests}
use Rattle.std.proofs.lemmas.Iterator.{YieldsList-from_slice}
use Rattle.std.proofs.lemmas.Iterator.Search.{any_from_yields_List}
use Rattle.long_jobs.specs.Dialect.{long_records_lem}
use Rattle.long_jobs.specs.Fresh.{names}
use Rattle.long_jobs.proofs.Tests.{named}
use Rattle.binarize.proofs.fresh.is_named.Goals as goal

pub returns : goal.returns
returns c =
    let rs = long_records_lem c.args.source.now in
    let tested = any_from_yields_List (λ r. names r c.args.v) _ _ c.any.result c.any.ensures.ran
    (YieldsList-from_slice rs cc) (λ x b q k. search (rules, tests)) in
    record { says = tested ∙ named rs c.args.v }
