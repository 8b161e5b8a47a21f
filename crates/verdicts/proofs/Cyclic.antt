-- The search for a pair rule on a cycle that grows, head by head and key by key, finds one where there is one. Assumes
-- nothing.
use Rattle.grammar.proofs.Basics.{◌≡◌, refl, ◌∙◌, ap, ap₂, ⊎_elim, true, Bool, ◌||◌, false≢true, List, [], ◌∷◌}
use Rattle.grammar.proofs.Basics.{ℕ, ◌<◌, suc, zero-add, arith, eqb, length, get_or, eq-eqb, eqb-true, same_test}
use Rattle.grammar.proofs.Basics.{and_left, and_right, or_split}
use Rattle.std.specs.List.{list_any, range_with_len}
use Rattle.std.proofs.lemmas.List.Folds.{list_any_at}
use Rattle.std.proofs.lemmas.List.FromFn.{get_or-range_with_len, length-range_with_len}
use Rattle.grammar.specs.Rule.{Rule, Among, head, body, empty, unit, pair}
use Rattle.grammar.proofs.Strings.{All, cons}
use Rattle.job.specs.Inside.Keys.{unpacked, rule_of_key, Keys, rules_of_keys, rule_from}
use Rattle.job.proofs.KeyRules.{read_rule, read_fits}
use Rattle.usefulness.specs.Sets.{any_rule}
use Rattle.usefulness.specs.Usefulness.{leads, to_terminal}
use Rattle.usefulness.specs.Inside.Flags.{Flags, flagged}
use Rattle.usefulness.proofs.Tests.{any_rule_lem, rule_any}
use Rattle.usefulness.proofs.Bodies.{from_below}
use Rattle.verdicts.specs.Verdicts.{on_cycle, cyclic}
use Rattle.verdicts.specs.Inside.Cycles.{pair_to_lem, leads_back, cycle_at_lem}

-- the test of a pair depends on the 64 symbols alone
pair_same : (Z : ℕ) {s t s' t' : ℕ → Bool} → ((X : ℕ) → X < 64 → s X ≡ t X) → ((X : ℕ) → X < 64 → s' X ≡ t' X) →
    (ρ : Rule) → All (λ X. X < 64) (head ρ ∷ body ρ) → pair_to_lem Z s s' ρ ≡ pair_to_lem Z t t' ρ
pair_same Z same same' (empty A) below = refl
pair_same Z same same' (unit A X) below = refl
pair_same Z same same' (pair A X Y) (cons a (cons x (cons y none))) =
    rw (same X x, same Y y, same' X x, same' Y y)

-- a test of keys that says of each what another says of its rule
any_of_keys : (test : ℕ → Bool) (p : Rule → Bool) (keys : List ℕ) →
    ((k : ℕ) → k < length keys → test (get_or keys k 0) ≡ p (rule_of_key (get_or keys k 0))) →
    list_any test keys ≡ any_rule p (rules_of_keys keys)
unfolding any_rule
any_of_keys test p [] same = refl
any_of_keys test p (x ∷ xs) same =
    ap₂ ◌||◌ (same 0 (omega arith)) (any_of_keys test p xs (λ k l. same (suc k) (omega arith)))

-- the rules of some keys, tried one after the other by two sets
module _ (Z : ℕ) {keys : List ℕ} {back terminal : ℕ} (ks : Keys keys)
    (b : Flags (leads (rules_of_keys keys) (λ X. eqb Z X)) back) (t : Flags (to_terminal (rules_of_keys keys)) terminal)
  where
    abbrev pub pair_key : ℕ → Bool
    pair_key k = pair_to_lem Z (flagged back) (flagged terminal) (rule_from (unpacked k))

    tried : (k : ℕ) → k < length keys →
        pair_key (get_or keys k 0) ≡ leads_back (rules_of_keys keys) Z (rule_of_key (get_or keys k 0))
    tried k l =
        let key = get_or keys k 0 in
        let below = from_below (unpacked key) (read_fits key refl (ks.fit k l)) in
        pair_same Z b.at t.at (rule_from (unpacked key)) below
        ∙ ap (leads_back (rules_of_keys keys) Z) (read_rule key refl)

    pub pairs_tried : list_any pair_key keys ≡ cycle_at_lem Z (rules_of_keys keys)
    pairs_tried = any_of_keys pair_key (leads_back (rules_of_keys keys) Z) keys tried

pair_cycle : (rules : List Rule) (Z : ℕ) (ρ : Rule) → leads_back rules Z ρ ≡ true → on_cycle rules ρ ≡ true
pair_cycle rules Z (empty A) e = e
pair_cycle rules Z (unit A X) e = e
pair_cycle rules Z (pair A X Y) e = rw (eqb-true A Z (and_left _ _ e)) (and_right (eqb A Z) _ e)

cycle_pair : (rules : List Rule) (ρ : Rule) → on_cycle rules ρ ≡ true → leads_back rules (head ρ) ρ ≡ true
cycle_pair rules (empty A) e = e
cycle_pair rules (unit A X) e = e
cycle_pair rules (pair A X Y) e = rw (eq-eqb A A refl) e

-- each number below n tried as a head
module _ (rules : List Rule) where
  abbrev at_head : ℕ → Bool
  at_head Z = cycle_at_lem Z rules

  cyclic_found : (Z : ℕ) → at_head Z ≡ true → cyclic rules ≡ true
  unfolding cyclic
  cyclic_found Z e =
      let (ρ, m, t) = any_rule_lem _ rules e in
      rule_any _ rules ρ m (pair_cycle rules Z ρ t)

  any_found : (Zs : List ℕ) → list_any at_head Zs ≡ true → cyclic rules ≡ true
  any_found [] e = absurd (false≢true e)
  any_found (Z ∷ Zs) e = ⊎_elim (cyclic_found Z) (any_found Zs) (or_split _ _ e)

  pub heads_tried : (n : ℕ) → ((ρ : Rule) → Among rules ρ → head ρ < n) →
      list_any at_head (range_with_len 0 n) ≡ cyclic rules
  unfolding cyclic
  heads_tried n below =
      same_test _ _ (any_found (range_with_len 0 n))
      (λ e.
      let (ρ, m, t) = any_rule_lem _ rules e in
      let l = below ρ m in
      list_any_at at_head (range_with_len 0 n) (head ρ) 0 (rw length-range_with_len l)
      (rw (get_or-range_with_len 0 n (head ρ) 0 l, zero-add) (rule_any _ rules ρ m (cycle_pair rules ρ t))))
