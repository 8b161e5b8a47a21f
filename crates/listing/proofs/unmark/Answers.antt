use Rattle.grammar.proofs.Basics.{◌≡◌, ◌∙◌, ap, List, ℕ, arith, length}
use Rattle.machine.specs.Table.{each}
use Rattle.machine.proofs.Tables.Each.{length_each}
use Rattle.forms.proofs.Unmarking.{unmarked_to, unmarked_none, unmarked_next}
use Rattle.listing.proofs.unmark.Goals as goal

-- the table has the size that it had
same_size : (n : ℕ) (t t₀ : List ℕ) → t ≡ each (unmarked_to n) 0 t₀ → length t ≡ length t₀
same_size n t t₀ e = ap length e ∙ length_each _ 0 _

pub loop-i-init : goal.loop-i-init
loop-i-init c = unmarked_none _

pub loop-i-preserved : goal.loop-i-preserved
loop-i-preserved c =
    unmarked_next _ (omega (arith, c.requires.long)) c.loop-i.invariant c.without_mark.ensures.byte

pub returns : goal.returns
returns c =
    record {
      unmarked =
          c.loop-i.invariant ∙ ap (λ n. each (unmarked_to n) 0 c.args.table.now) (omega arith);
    }
