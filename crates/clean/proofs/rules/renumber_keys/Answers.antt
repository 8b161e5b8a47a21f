use Rattle.grammar.proofs.Basics.{◌∙◌, sym, ap, ap₂, ◌∷◌, [], ◌++◌, List, ℕ, arith, length, take, length-map}
use Rattle.grammar.proofs.Basics.{length-take}
use Rattle.job.specs.Job.{sort_key_lem}
use Rattle.job.proofs.KeyRules.{read_rule, mapped_more}
use Rattle.copies.specs.Inside.Parts.{renumbered_record, renumbered_key}
use Rattle.clean.proofs.rules.renumber_keys.Goals as goal

pub push-requires : goal.push-requires
push-requires c =
    let kept = c.args.kept.now in
    let k = c.loop-key.key-index in
    omega (
      arith,
      ap length c.loop-key.invariant,
      length-map (take k kept) (renumbered_key c.args.numbers.now),
      length-take k kept,
      c.requires.rules.few,
    )

pub loop-key-preserved : goal.loop-key-preserved
loop-key-preserved c =
    let numbers = c.args.numbers.now in
    let key = c.sort_key.ensures.key
    ∙ ap sort_key_lem
    (c.renumber-record.ensures.record ∙ ap (renumbered_record numbers) (read_rule _ c.unpack.ensures.rule)) in
    c.push.ensures ∙ ap₂ (λ (xs : List ℕ) (v : ℕ). xs ++ (v ∷ [])) c.loop-key.invariant key
    ∙ sym (mapped_more (renumbered_key numbers) c.args.kept.now c.loop-key.key-index c.loop-key-test.true)
