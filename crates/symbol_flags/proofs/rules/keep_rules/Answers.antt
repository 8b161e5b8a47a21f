use Rattle.grammar.proofs.Basics.{◌≡◌, refl, ◌∙◌, sym, ap, true, false, Bool, List, ◌∷◌, [], ◌++◌, ℕ, ◌<◌, ◌≤◌, ◌+◌}
use Rattle.grammar.proofs.Basics.{arith, get_or, length, take, length-append}
use lib.Seq.{take_all}
use Rattle.job.specs.Inside.Keys.{Keys, rules_of_keys, rule_of_key}
use Rattle.job.proofs.KeyRules.{read_rule, rules_more}
use Rattle.usefulness.specs.Sets.{rule_in, within}
use Rattle.usefulness.specs.Inside.Flags.{flagged}
use Rattle.usefulness.proofs.Tests.{within_append}
use Rattle.usefulness.proofs.Bodies.{keys_below}
use Rattle.usefulness.proofs.KeptKeys.{within_same, left_out, key_behind, keys_more}
use Rattle.symbol_flags.proofs.rules.keep_rules.Goals as goal
use Rattle.symbol_flags.proofs.rules.keep_rules.Goals.{then-has_rule, else-has_rule}

pub loop-key-init : goal.loop-key-init
unfolding within
loop-key-init c =
    rw c.new-kept.ensures (omega arith, record { few = omega arith; fit = λ k l. absurd (omega arith) }, refl)

-- the keys kept of one key more
module _ (s : ℕ → Bool) (keys : List ℕ) (k : ℕ) (l : k < length keys) (ks : Keys keys) (kept : List ℕ)
    (few : length kept ≤ k) (fit : Keys kept)
    (are : rules_of_keys kept ≡ within s (rules_of_keys (take k keys)))
  where
    abbrev KeptOf : List ℕ → Type 0
    KeptOf more =
        (length more ≤ k + 1) × Keys more × (rules_of_keys more ≡ within s (rules_of_keys (take (k + 1) keys)))

    one_kept : rule_in s (rule_of_key (get_or keys k 0)) ≡ true → KeptOf (kept ++ (get_or keys k 0 ∷ []))
    one_kept on = (
      rw length-append (omega arith),
      keys_more fit (ks.fit k l) (omega (arith, ks.few)),
      key_behind s kept (get_or keys k 0) on ∙ rw (are, rules_more keys k l, within_append),
    )

    one_left : rule_in s (rule_of_key (get_or keys k 0)) ≡ false → KeptOf kept
    one_left off = (
      omega arith,
      fit,
      left_out s (rules_of_keys kept) (rule_of_key (get_or keys k 0)) off ∙ rw (are, rules_more keys k l, within_append),
    )

pub loop-key-preserved : goal.loop-key-preserved
loop-key-preserved c =
    let keys = c.args.keys.now in
    let k = c.loop-key.key-index in
    let s = flagged c.args.set.word in
    let old = c.loop-key.invariant in
    let says = c.has_rule.ensures.says ∙ ap (rule_in s) (read_rule (get_or keys k 0) c.unpack.ensures.rule) in
    elim c.if-has_rule.branch [
      | then-has_rule w ↦ rw (w.kept-is, w.push.ensures)
          (one_kept s keys k c.loop-key-test.true c.requires.rules c.loop-key.kept old.0 old.1 old.2
          (sym says ∙ w.if-has_rule.true))
      | else-has_rule w ↦ rw w.kept-is
          (one_left s keys k c.loop-key-test.true c.requires.rules c.loop-key.kept old.0 old.1 old.2
          (sym says ∙ w.if-has_rule.false))
    ]

pub returns-clause-rules : goal.returns-clause-rules
returns-clause-rules c s held =
    let keys = c.args.keys.now in
    (rw (take_all c.loop-key.key-index keys (omega arith)) at c.loop-key.invariant.2)
    ∙ within_same (flagged c.args.set.word) s held.at (rules_of_keys keys) (keys_below c.requires.rules)
