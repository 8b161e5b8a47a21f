-- Where the language is empty no symbol is useful, so that the copy is S 0 alone. Assumes nothing.
use Rattle.grammar.proofs.Basics.{◌≡◌, refl, true, List, ◌∷◌, [], List·Memᴰ·head, ℕ, ◌<◌, lt-ltb, not_true_false}
use Rattle.grammar.specs.Rule.{Rule, Among}
use Rattle.grammar.specs.Useful.{Useful}
use Rattle.grammar.specs.Language.{Language}
use Rattle.grammar.proofs.Derivations.{derives_trans}
use Rattle.grammar.proofs.Counting.{count_none}
use Rattle.job.specs.Job.{start_record}
use Rattle.usefulness.specs.Usefulness.{useful}
use Rattle.job.specs.Theorems.InRange.{RulesInRange}
use Rattle.usefulness.proofs.Bodies.{range_below}
use Rattle.usefulness.proofs.Papers.{useful_is}
use Rattle.copies.specs.Copy.{clean_start, clean_rules, clean_records}
use Rattle.copies.proofs.CleanRules.{start_useful, clean_rule_useful}

-- a list without members is empty
no_member : (rules : List Rule) → ((ρ : Rule) → Among rules ρ → ⊥) → rules ≡ []
no_member [] none = refl
no_member (ρ ∷ ρs) none = absurd (none ρ (List·Memᴰ·head refl))

module _ (rules : List Rule) (S : ℕ) (range : RulesInRange rules) (variable : S < 32)
    (no-string : (w : List ℕ) → Language (Among rules) S w → ⊥) where
  -- a useful start symbol derives a string
  start_useless : useful rules S S ≡ true → ⊥
  unfolding Useful
  start_useless e =
      let (α, β, w, t, d, d') = (useful_is rules (range_below range) S S).0 e in
      no-string w (t, derives_trans d d')

  no_rules : clean_rules rules S ≡ []
  no_rules = no_member (clean_rules rules S) (λ σ m. start_useless (clean_rule_useful rules S range σ m))

  start_zero : clean_start rules S ≡ 0
  unfolding clean_start
  start_zero =
      rw (lt-ltb S 32 variable)
      (count_none (useful rules S) S
      (λ X l. not_true_false (useful rules S X) (λ e. start_useless (start_useful rules S range X e))))

  -- the records of the copy of an empty language
  pub empty_records : clean_records rules S ≡ start_record 0 ∷ []
  unfolding clean_records
  empty_records = rw (start_zero, no_rules)
