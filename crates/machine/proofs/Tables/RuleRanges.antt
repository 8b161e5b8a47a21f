-- Rules whose symbols are in range. Assumes nothing.
use Rattle.grammar.proofs.Basics.{List, ◌<◌}
use Rattle.grammar.specs.Rule.{Rule, empty, unit, pair, Among}
use Rattle.grammar.proofs.Meetings.{PairsIn}
use Rattle.job.specs.Theorems.InRange.{RuleInRange}

abbrev pub RulesInRange : List Rule → Type 0
RulesInRange ρs = (ρ : Rule) → Among ρs ρ → RuleInRange ρ

pub pairs_in_range : (ρs : List Rule) → RulesInRange ρs → PairsIn (λ X. X < 64) ρs
pairs_in_range ρs range (empty A) member = tt
pairs_in_range ρs range (unit A X) member = tt
pairs_in_range ρs range (pair A X Y) member = let l = range _ member in (l.1, l.2)
