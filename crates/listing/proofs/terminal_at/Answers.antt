-- A symbol of the table is below 64, so it is a terminal where it is not below 32. Assumes nothing.
use Rattle.grammar.proofs.Basics.{◌≡◌, ◌∙◌, ◌&&◌, and-true, ℕ, arith, ltb, leb, lt-ltb}
use Rattle.machine.specs.Table.{symbol_at}
use Rattle.listing.proofs.terminal_at.Goals as goal

first_test : (p : ℕ) → (leb 32 (symbol_at p) && ltb (symbol_at p) 64) ≡ leb 32 (symbol_at p)
first_test p = rw (lt-ltb (symbol_at p) 64 (omega arith)) (and-true _)

pub returns : goal.returns
returns c = record { terminal = c.is_terminal.ensures.terminal ∙ first_test c.args.p }
