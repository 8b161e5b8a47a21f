-- A given reason has no rule; any other says the rule at its rank. Assumes nothing.
use Rattle.grammar.proofs.Basics.{◌∙◌, sym, subst}
use Rattle.forms.specs.Grounded.{ReasonFits}
use Rattle.job.specs.Inside.Keys.{rules_of_keys}
use Rattle.forms.proofs.ReasonLaws.{bytes_given, bytes_of_key, key_below}
use Rattle.listing.proofs.Reasons.reason_of.Goals as goal

pub returns-then-reason : goal.returns-then-reason
returns-then-reason c = record { bytes = bytes_given _ _ _ _ c.reason_at-reason.ensures.reason c.if-reason.true }

pub overflow_sub-n : goal.overflow_sub-n
overflow_sub-n c =
    (key_below c.args.self.now.keys.now _
    (subst (ReasonFits (rules_of_keys c.args.self.now.keys.now)) (sym c.reason_at-reason.ensures.reason) c.requires.fits.fits)
    c.if-reason.false).0

pub bounds-self-rank : goal.bounds-self-rank
bounds-self-rank c =
    (key_below c.args.self.now.keys.now _
    (subst (ReasonFits (rules_of_keys c.args.self.now.keys.now)) (sym c.reason_at-reason.ensures.reason) c.requires.fits.fits)
    c.if-reason.false).1

pub returns : goal.returns
returns c =
    record {
      bytes =
          c.rule_reason.ensures.bytes
          ∙ bytes_of_key c.args.self.now.keys.now _ _ _ c.reason_at-reason.ensures.reason c.requires.fits.fits
          c.if-reason.false;
    }
