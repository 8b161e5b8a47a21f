-- A listing stays within the first 65,536 bytes, whatever the reasons say: a rule in range has premises at such
-- places. So all past them is kept. Assumes nothing.
use Rattle.grammar.proofs.Basics.{◌≡◌, refl, ◌∙◌, ⊎_elim, List, ◌∷◌, [], List·Memᴰ, List·Memᴰ·head, List·Memᴰ·tail}
use Rattle.grammar.proofs.Basics.{List·Memᴰ·not-nil, List·Memᴰ·cases-cons, List·Memᴰ·eq-of-singleton}
use Rattle.grammar.proofs.Basics.{List·Memᴰ·append-cases, ℕ, ◌<◌, suc, ◌-◌, zero, ◌/◌, arith, eqb, ltb, length, drop}
use Rattle.grammar.proofs.Basics.{length-set, ltb-false, ltb-true, cases}
use lib.ListN.{get_or-eq_default}
use lib.Seq.{drop-set-lt}
use Rattle.grammar.specs.Rule.{Rule, empty, unit, pair}
use Rattle.grammar.proofs.NoRepeat.{member_at}
use Rattle.job.specs.Theorems.InRange.{RuleInRange}
use Rattle.machine.specs.Table.{table_size, table_place, from_state, to_state, given_reason}
use Rattle.machine.proofs.Tables.RuleRanges.{RulesInRange}
use Rattle.machine.proofs.Tables.Places.{place_below, from_state_below, to_state_below}
use Rattle.forms.specs.Listing.{Listed, listing, in_turn, reason_at_lem, reason_rule, rule_premises, premises, is_listed}
use Rattle.forms.specs.Listing.{visit, depth_bound, list_all_lem}

-- all places of a list are in the first part of the table
abbrev pub Within : List ℕ → Type 0
Within ps = (p : ℕ) → List·Memᴰ p ps → p < table_size

rule_within : (q m r : ℕ) (ρ : Rule) → q < 32 → m < 32 → r < 32 → RuleInRange ρ → Within (rule_premises q m r ρ)
rule_within q m r (empty A) ql ml rl l p i = absurd (List·Memᴰ·not-nil i)
rule_within q m r (unit A X) ql ml rl l p i =
    let e : p ≡ table_place q X r = List·Memᴰ·eq-of-singleton i in rw e (place_below q X r ql l.1 rl)
rule_within q m r (pair A X Y) ql ml rl l p i =
    ⊎_elim
    (λ e. rw e (place_below q X m ql l.1 ml))
    (λ k. let e : p ≡ table_place m Y r = List·Memᴰ·eq-of-singleton k in rw e (place_below m Y r ml l.2 rl))
    (List·Memᴰ·cases-cons i)

module _ (ρs : List Rule) (range : RulesInRange ρs) where
  reason_rule_in_range : (n : ℕ) → RuleInRange (reason_rule ρs n)
  reason_rule_in_range n =
      cases (ltb ((n - 1) / 32) (length ρs))
      (λ t. range _ (member_at (empty 0) ρs _ (ltb-true _ (length ρs) t)))
      (λ t. rw (get_or-eq_default ρs (empty 0) (ltb-false _ (length ρs) t)) (omega arith))

  pub premises_within : (reasons : List ℕ) (p : ℕ) → p < table_size → Within (premises ρs reasons p)
  unfolding premises
  premises_within reasons p l =
      cases (eqb (reason_at_lem reasons p) given_reason)
      (λ t. rw t (λ q i. absurd (List·Memᴰ·not-nil i)))
      (λ t. rw t
      (rule_within (from_state p) _ (to_state p) (reason_rule ρs _)
      (from_state_below p l) (omega arith) (to_state_below p) (reason_rule_in_range _)))

-- what listing a place of the first part keeps, a visit of one keeps, and so do visits in turn
module _
    (ρs : List Rule) (range : RulesInRange ρs) (reasons : List ℕ) (P : Listed → Type 0)
    (keeps : (p : ℕ) (l : Listed) → p < table_size → P l → P (listing p l))
  where
    in_turn_keeps : (f : ℕ → Listed → Listed) → ((p : ℕ) (l : Listed) → p < table_size → P l → P (f p l)) →
        (ps : List ℕ) → Within ps → (l : Listed) → P l → P (in_turn f ps l)
    unfolding in_turn
    in_turn_keeps f each [] within l h = h
    in_turn_keeps f each (p ∷ ps) within l h =
        in_turn_keeps f each ps (λ q i. within q (List·Memᴰ·tail i)) _ (each p l (within p (List·Memᴰ·head refl)) h)

    visit_keeps : (n p : ℕ) (l : Listed) → p < table_size → P l → P (visit n ρs reasons p l)
    unfolding visit
    visit_keeps zero p l q h = h
    visit_keeps (suc n) p l q h =
        cases (is_listed l.table p)
        (λ t. rw t h)
        (λ t. rw t
        (keeps p _ q (in_turn_keeps _ (λ p' l'. visit_keeps n p' l') _ (premises_within ρs range reasons p q) l h)))

    pub list_all_keeps :
        (table ps : List ℕ) → Within ps → P (record { table = table; places = [] }) → P (list_all_lem ρs reasons table ps)
    unfolding list_all_lem
    list_all_keeps table ps within h =
        in_turn_keeps _ (visit_keeps depth_bound) ps within (record { table = table; places = [] }) h

module _ (ρs : List Rule) (range : RulesInRange ρs) (reasons table ps : List ℕ) (within : Within ps) where
  pub listed_length : length (list_all_lem ρs reasons table ps).table ≡ length table
  listed_length =
      list_all_keeps ρs range reasons (λ l. length l.table ≡ length table)
      (λ p l below e. length-set l.table p 3 ∙ e) table ps within refl

  pub listed_rest : drop table_size (list_all_lem ρs reasons table ps).table ≡ drop table_size table
  listed_rest =
      list_all_keeps ρs range reasons (λ l. drop table_size l.table ≡ drop table_size table)
      (λ p l below e. drop-set-lt table_size l.table p 3 below ∙ e) table ps within refl

  pub listed_within : Within (list_all_lem ρs reasons table ps).places
  listed_within =
      list_all_keeps ρs range reasons (λ l. Within l.places)
      (λ p l below w q i. ⊎_elim (w q) (λ k. let e : q ≡ p = List·Memᴰ·eq-of-singleton k in rw e below)
      (List·Memᴰ·append-cases l.places i)) table ps within
      (λ q i. absurd (List·Memᴰ·not-nil i))
