-- A clean copy is its own clean copy: each useful symbol is useful in the copy under its new number, so that all rules
-- of the copy are kept, and counting gives the same numbers again. Assumes nothing.
use Rattle.grammar.proofs.Basics.{◌≡◌, refl, true, Bool, List, ◌∷◌, [], List·Memᴰ·head, List·Memᴰ·tail, map, ℕ}
use Rattle.grammar.specs.Rule.{Rule, Among}
use Rattle.grammar.specs.Useful.{UsefulRules}
use Rattle.usefulness.specs.Sets.{rule_in, within}
use Rattle.usefulness.specs.Usefulness.{useful}
use Rattle.job.specs.Theorems.InRange.{RulesInRange}
use Rattle.usefulness.proofs.Bodies.{range_below}
use Rattle.usefulness.proofs.Papers.{useful_is}
use Rattle.copies.specs.Copy.{new_number, renumbered, clean_start, clean_rules}
use Rattle.grammar.proofs.UsefulDerivations.{useful_by_useful}
use Rattle.copies.proofs.Renumbered.{renumbered_useful, renumbered_twice, renumbered_in}
use Rattle.copies.proofs.Numbering.{new_terminal, new_again}
use Rattle.copies.proofs.CleanRules.{each_clean, useful_clean}
use Rattle.copies.proofs.CleanRange.{clean_in_range}

-- a list of rules is the same again where all its rules are kept, and none is changed
kept_whole : (set : ℕ → Bool) (f : Rule → Rule) (rules : List Rule) →
    ((ρ : Rule) → Among rules ρ → (rule_in set ρ ≡ true) × (f ρ ≡ ρ)) → map f (within set rules) ≡ rules
unfolding within
kept_whole set f [] kept = refl
kept_whole set f (ρ ∷ ρs) kept =
    let (all, same) = kept ρ (List·Memᴰ·head refl) in
    rw (all, same, kept_whole set f ρs (λ σ m. kept σ (List·Memᴰ·tail m)))

module _ (rules : List Rule) (S : ℕ) (range : RulesInRange rules) where
  -- the useful symbols, their new numbers, and the useful symbols of the copy
  abbrev set : ℕ → Bool
  set = useful rules S

  abbrev number : ℕ → ℕ
  number = new_number set

  abbrev set' : ℕ → Bool
  set' = useful (clean_rules rules S) (clean_start rules S)

  -- a useful symbol is useful in the copy under its new number
  useful_again : (X : ℕ) → set X ≡ true → set' (number X) ≡ true
  unfolding clean_start
  useful_again X e =
      let old = useful_by_useful (Among rules) S X ((useful_is rules (range_below range) S X).0 e) in
      let clean = useful_clean rules S range in
      let new = renumbered_useful number (UsefulRules (Among rules) S) _ clean (new_terminal set) S X old in
      (useful_is (clean_rules rules S) (range_below (clean_in_range rules S range)) (number S) (number X)).1 new

  number_again : (X : ℕ) → new_number set' (number X) ≡ number X
  number_again = new_again set set' useful_again

  -- the copy of the copy has the same start symbol and the same rules
  pub start_again : clean_start (clean_rules rules S) (clean_start rules S) ≡ clean_start rules S
  unfolding clean_start
  start_again = number_again S

  pub rules_again : clean_rules (clean_rules rules S) (clean_start rules S) ≡ clean_rules rules S
  unfolding clean_rules
  rules_again =
      kept_whole set' (renumbered (new_number set')) (clean_rules rules S)
      (each_clean rules S (λ σ. (rule_in set' σ ≡ true) × (renumbered (new_number set') σ ≡ σ))
      (λ ρ m e. (
        renumbered_in set number set' useful_again ρ e,
        renumbered_twice set number (new_number set') number (λ X u. number_again X) ρ e,
      )))
