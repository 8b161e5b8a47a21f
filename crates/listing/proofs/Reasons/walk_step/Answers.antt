-- The three returns are the three moves: the tests on the next premise are those of the definition. Assumes nothing.
use Rattle.grammar.proofs.Basics.{refl, ◌∙◌, sym, arith, leb-true, leb-false}
use Rattle.forms.proofs.Moves.{may_list, lists_top, lists_terminal, goes_down, next_done}
use Rattle.listing.proofs.Reasons.walk_step.Goals as goal

pub list_one-count-requires : goal.list_one-count-requires
list_one-count-requires c = let s = c.requires.able in
    let m = may_list s s.top_done in
    record { fits = m.0; room = m.1 }

pub returns-in-None : goal.returns-in-None
returns-in-None c =
    record { moved = lists_top c.requires.able c.in-None.ensures.next refl c.list_one-count.ensures.listed }

pub list_one-count-requires-then-terminal_at : goal.list_one-count-requires-then-terminal_at
list_one-count-requires-then-terminal_at c =
    let s = c.requires.able in
    let next = c.in-Some.ensures.next in
    let m = may_list s (next_done s next.0 (λ e. omega arith)) in
    record { fits = m.0; room = m.1 }

pub returns-then-terminal_at : goal.returns-then-terminal_at
returns-then-terminal_at c =
    let next = c.in-Some.ensures.next in
    record {
      moved =
          lists_terminal c.requires.able next.0 (λ e. omega arith)
          (leb-true 32 _ (sym c.terminal_at.ensures.terminal ∙ c.if-terminal_at.true))
          c.list_one-count-then-terminal_at.ensures.listed;
    }

pub returns-else-terminal_at : goal.returns-else-terminal_at
returns-else-terminal_at c =
    let next = c.in-Some.ensures.next in
    record {
      moved =
          goes_down c.requires.able next.0 (λ e. omega arith)
          (leb-false 32 _ (sym c.terminal_at.ensures.terminal ∙ c.if-terminal_at.false));
    }
