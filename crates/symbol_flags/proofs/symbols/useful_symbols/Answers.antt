-- `symbols::useful_symbols` meets its contract: by the rules whose symbols are all productive, the start symbol, if it is
-- productive, grows downwards. Assumes nothing.
use Rattle.grammar.proofs.Basics.{◌≡◌, ◌∙◌, sym, true, false, Bool, ◌&&◌, ℕ, ◌<◌, eqb, eqb-true, cases}
use Rattle.usefulness.specs.Usefulness.{useful}
use Rattle.usefulness.specs.Inside.Flags.{Flags, flagged}
use Rattle.usefulness.proofs.Raising.{flags_alike}
use Rattle.symbol_flags.proofs.symbols.useful_symbols.Goals as goal
use Rattle.symbol_flags.proofs.symbols.useful_symbols.Goals.{then-contains, else-contains}

-- the start symbol alone, where it is in the set
module _ (S : ℕ) {set : ℕ → Bool} {known first : ℕ} (l : S < 64) (k : Flags set known) where
  started : flagged known S ≡ true → Flags (λ X. eqb S X) first → Flags (λ X. eqb S X && set X) first
  started on held =
      flags_alike held
      (λ X _. cases (eqb S X) (λ e. rw (e, ← eqb-true S X e) (sym (sym (k.at S l) ∙ on))) (λ e. rw e))

  not_started : flagged known S ≡ false → Flags (λ X. false) first → Flags (λ X. eqb S X && set X) first
  not_started off held =
      flags_alike held
      (λ X _. cases (eqb S X) (λ e. rw (e, ← eqb-true S X e) (sym (sym (k.at S l) ∙ off))) (λ e. rw e))

pub returns : goal.returns
unfolding useful
returns c =
    record {
      flags =
          let S = c.args.start in
          let k = c.requires.productive in
          let says = sym c.contains.ensures.says in
          rw (← c.keep_rules-kept.ensures.rules _ k, ← c.as_slice.ensures)
          (c.grow.ensures.grown _
          (elim c.if-contains.branch [
            | then-contains w ↦ rw w.first-is
                (started S c.requires.start k (says ∙ w.if-contains.true) w.single-first.ensures.flags)
            | else-contains w ↦ rw w.first-is
                (not_started S c.requires.start k (says ∙ w.if-contains.false) w.empty-first.ensures.flags)
          ]));
    }
