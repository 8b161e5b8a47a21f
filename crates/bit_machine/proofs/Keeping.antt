-- `Kept` holds where nothing is written, and of one write after the other; where no place is done, none is after a
-- place becomes pending. Assumes nothing.
use Rattle.grammar.proofs.Basics.{◌≡◌, refl, ◌∙◌, List, ℕ, ◌<◌, arith, eqb, set, get_or-set_other, get_or-set_same}
use Rattle.grammar.proofs.Basics.{eqb-true, eqb-false, cases}
use Rattle.machine.specs.Table.{table_size}
use Rattle.bit_machine.specs.BitTable.{table_of_bits}
use Rattle.bit_machine.specs.Inside.Change.{Kept, NoneDone}
use Rattle.bit_machine.proofs.ByteTables.{bytes_length}

pub kept_same : (bits : List ℕ) → Kept bits bits
kept_same bits = record { long = refl; rest = refl; both = λ p h. refl }

pub kept_then : (a b c : List ℕ) → Kept a b → Kept b c → Kept a c
kept_then a b c k l =
    record { long = l.long ∙ k.long; rest = l.rest ∙ k.rest; both = λ p h. l.both p h ∙ k.both p h }

pub none_done_pending : (bits bits' : List ℕ) (p : ℕ) → p < table_size → table_of_bits bits' ≡ set (table_of_bits bits) p 1 →
    NoneDone bits → NoneDone bits'
none_done_pending bits bits' p h e none i l =
    rw e
    (cases (eqb i p)
    (λ s. rw (eqb-true i p s, get_or-set_same (table_of_bits bits) p 1 0 (omega (arith, bytes_length bits))))
    (λ s. rw (get_or-set_other (table_of_bits bits) p i 1 0 (eqb-false i p s)) (none i l)))
