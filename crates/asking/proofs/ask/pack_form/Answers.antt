use Rattle.grammar.proofs.Basics.{◌∙◌, ap, ℕ, arith, length}
use lib.ListN.{length-replicate}
use Rattle.asking.proofs.FormPacked.{packing_begins, packing_ends}
use Rattle.asking.proofs.ask.pack_form.Goals as goal

pub loop-symbol-init : goal.loop-symbol-init
loop-symbol-init c =
    let zeros = c.requires.zeros in
    (ap length zeros ∙ length-replicate {A = ℕ} 16384 0, packing_begins _ _ _ zeros)

pub returns-clause-agree : goal.returns-clause-agree
returns-clause-agree c = packing_ends c.loop-symbol.invariant.1 (omega arith) c.requires.fits.1
