-- `Used::count`: the marks are counted. Assumes nothing.
use Rattle.std.proofs.Common.{◌≡◌, ◌∙◌, rules}
use Rattle.std.specs.List.{count_by}
use Rattle.text_symbols.proofs.MarkedSets.{marks_counted}
use Rattle.text_symbols.proofs.characters.Used.count.Goals as goal

pub returns : goal.returns
returns c = record {
  count = let e : c.count.result ≡ count_by (λ x. x) c.self.inside.marks = search rules in
      rw c.self.view_is at (e ∙ marks_counted c.self.inside.marks c.self.invariant);
}
