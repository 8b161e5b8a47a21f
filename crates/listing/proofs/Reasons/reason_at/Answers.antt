-- The symbol of the place decides, as in the definition. Assumes nothing.
use Rattle.grammar.proofs.Basics.{◌∙◌, sym, arith, leb-false}
use Rattle.machine.specs.Table.{symbol_at}
use Rattle.listing.proofs.Reasons.reason_at.Goals as goal

pub returns-then-terminal_at : goal.returns-then-terminal_at
returns-then-terminal_at c = record { reason = rw (sym c.terminal_at.ensures.terminal ∙ c.if-terminal_at.true) }

pub bounds-self-p : goal.bounds-self-p
bounds-self-p c =
    let below = leb-false 32 (symbol_at c.args.p) (sym c.terminal_at.ensures.terminal ∙ c.if-terminal_at.false) in
    omega (arith, below, c.requires.within)

pub returns : goal.returns
returns c = record { reason = rw (sym c.terminal_at.ensures.terminal ∙ c.if-terminal_at.false) }
