-- The rows of a form's symbols packed one after the other: where all are, the bits have the done transitions that the
-- table has for these symbols. Assumes nothing.
use Rattle.grammar.proofs.Basics.{◌≡◌, refl, ◌∙◌, ap, true, false, Bool, ◌&&◌, ◌||◌, List, ℕ, ◌<◌, ◌+◌, ◌*◌, ◌/◌, ◌%◌}
use Rattle.grammar.proofs.Basics.{arith}
use Rattle.grammar.proofs.Basics.{eqb, ltb, get_or, replicate, length, eqb-true, eqb-false, eq-eqb, cases, or_left}
use Rattle.grammar.proofs.Basics.{or_right}
use Rattle.machine.specs.Table.{table_place, says_done, statuses, done_in, done_at_lem, is_done_lem}
use Rattle.bit_machine.specs.BitTable.{bit_at, bit_status, bit_statuses}
use Rattle.packing.specs.Packing.{PackedRows}
use Rattle.packing.proofs.Packed.{none_packed}
use Rattle.forms.specs.Acceptance.{SymbolsFit}
use Rattle.forms.specs.Inside.AcceptanceParts.{AgreeOn}

-- some rows are packed, among them those of the first symbols
pub record Packing (table form bits : List ℕ) (i : ℕ) : Type 0 where
  pub rows : ℕ → Bool
  pub packed : PackedRows rows table bits
  pub has : (k q : ℕ) → k < i → q < 32 → rows (q * 64 + get_or form k 0) ≡ true

pub packing_begins : (table form bits : List ℕ) → bits ≡ replicate 16384 0 → Packing table form bits 0
packing_begins table form bits zeros =
    record { rows = λ r. ltb r 0; packed = rw zeros (none_packed table); has = λ k q l. absurd (omega arith) }

-- one symbol more
pub packing_goes : {table form bits bits' : List ℕ} {i : ℕ} → Packing table form bits i → get_or form i 0 < 64 →
    ((rows : ℕ → Bool) → PackedRows rows table bits →
    PackedRows (λ r. eqb (r % 64) (get_or form i 0) || rows r) table bits') → Packing table form bits' (i + 1)
packing_goes {form = form} {i = i} p below more =
    record {
      rows = λ r. eqb (r % 64) (get_or form i 0) || p.rows r;
      packed = more p.rows p.packed;
      has = λ k q l h. cases (eqb k i)
          (λ e.
          let same = eqb-true k i e in
          let column : (q * 64 + get_or form i 0) % 64 ≡ get_or form i 0 = omega arith in
          rw same (or_left _ _ (eq-eqb _ _ column)))
          (λ e. let other = eqb-false k i e in or_right (eqb ((q * 64 + get_or form k 0) % 64) (get_or form i 0)) _
          (p.has k q (omega arith) h));
    }

says_done_lem : (a d : Bool) → says_done (bit_status a d) ≡ d
says_done_lem true true = refl
says_done_lem true false = refl
says_done_lem false true = refl
says_done_lem false false = refl

pub packing_ends : {table form bits : List ℕ} {i : ℕ} → Packing table form bits i → length form ≡ i → SymbolsFit form →
    AgreeOn (done_in (bit_statuses bits)) (done_at_lem table) form
unfolding done_in bit_statuses statuses
packing_ends {table} {form} {bits} p end fit k q r l ql rl =
    let symbol : get_or form k 0 < 64 = omega (arith, fit k l) in
    let at = table_place q (get_or form k 0) r in
    let row : at / 32 ≡ q * 64 + get_or form k 0 = omega arith in
    says_done_lem (bit_at bits 0 at) (bit_at bits 1 at) ∙ p.packed.done at (omega arith)
    ∙ ap (λ b. b && is_done_lem (get_or table at 0)) (ap p.rows row ∙ p.has k q (omega arith) ql)
