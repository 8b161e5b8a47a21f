-- The lowest pending place: it is pending and none before it is, and there is none exactly where the table is
-- finished. Assumes nothing.
use Rattle.grammar.proofs.Basics.{◌≡◌, true, false, List, ℕ, ◌<◌, ◌≤◌, arith, get_or, leb-true, leb-false, lt-leb, cases}
use Rattle.grammar.proofs.Basics.{true_and_false}
use Rattle.machine.specs.Table.{table_size, Statuses, is_pending_at, is_pending_lem, statuses}
use Rattle.machine.specs.Step.{lowest, is_finished}
use Rattle.machine.proofs.Tables.FirstFrom.{first_within, first_passes, first_cong, none_before_first}

module _ (v : Statuses) where
  pub lowest_within : lowest v ≤ table_size
  lowest_within = omega (arith, first_within (is_pending_at v) 0 table_size)

  pub unfinished_below : is_finished v ≡ false → lowest v < table_size
  unfinished_below e = leb-false table_size (lowest v) e

  pub lowest_is_pending : is_finished v ≡ false → is_pending_at v (lowest v) ≡ true
  lowest_is_pending e = first_passes (is_pending_at v) 0 table_size (omega (arith, unfinished_below e))

  pub before_lowest : (p : ℕ) → p < lowest v → is_pending_at v p ≡ false
  before_lowest = none_before_first (is_pending_at v) table_size

  pub finished_none_pending : is_finished v ≡ true → (p : ℕ) → p < table_size → is_pending_at v p ≡ false
  finished_none_pending e p h = before_lowest p (omega (arith, leb-true table_size (lowest v) e))

  pub none_pending_finished : ((p : ℕ) → p < table_size → is_pending_at v p ≡ false) → is_finished v ≡ true
  none_pending_finished none =
      cases (is_finished v) (λ e. e) (λ e. true_and_false (lowest_is_pending e) (none (lowest v) (unfinished_below e)))

-- where a search finds it, it is pending in the table of bytes
pub found_pending : (t : List ℕ) (p : ℕ) → p ≡ lowest (statuses t) → (p ≡ table_size → ⊥) →
    (p < table_size) × (is_pending_lem (get_or t p 0) ≡ true)
unfolding statuses
found_pending t p low found =
    let v = statuses t in
    let below : p < table_size = omega (arith, found, lowest_within v) in
    (below, rw low (lowest_is_pending v (lt-leb table_size (lowest v) (omega arith))))

-- it depends on which places are pending alone
pub lowest_cong :
    (v v' : Statuses) → ((p : ℕ) → p < table_size → is_pending_at v p ≡ is_pending_at v' p) → lowest v ≡ lowest v'
lowest_cong v v' same = first_cong (is_pending_at v) (is_pending_at v') 0 table_size (λ p l. same p (omega arith))
