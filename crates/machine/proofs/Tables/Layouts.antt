-- Transitions laid out in a list: each has a place, and a place has its three parts. The bytes of the table and the
-- reasons are two layouts, read and written by the same laws. Assumes nothing.
use Rattle.grammar.proofs.Basics.{◌≡◌, ◌∙◌, sym, cond, List, ℕ, ◌<◌, ◌≤◌, arith, leb, length, get_or, set, leb-true}
use Rattle.grammar.proofs.Basics.{leb-false, lt-leb, cases}
use Rattle.job.specs.Written.{cleared}
use Rattle.job.proofs.Clearing.{cleared_length, cleared_front, cleared_rest}
use Rattle.machine.specs.Table.{table_size, reasons_size, table_place, from_state, symbol_at, to_state, reason_place_lem}
use Rattle.machine.specs.Table.{reason_state, reason_variable, each}
use Rattle.machine.proofs.Tables.Each.{get_or_each_0, each_is, set_each}

-- the place of a transition, and the state and the symbol of a place
pub record Layout : Type 0 where
  pub size : ℕ
  pub symbols : ℕ
  pub at : ℕ → ℕ → ℕ → ℕ
  pub from : ℕ → ℕ
  pub symbol : ℕ → ℕ
  pub whole : (k : ℕ) → k < size → at (from k) (symbol k) (to_state k) ≡ k
  pub parts : (q X r : ℕ) → q < 32 → X < symbols → r < 32 →
      (at q X r < size) × (from (at q X r) ≡ q) × (symbol (at q X r) ≡ X) × (to_state (at q X r) ≡ r)

abbrev pub bytes : Layout
bytes =
    record {
      size = table_size;
      symbols = 64;
      at = table_place;
      from = from_state;
      symbol = symbol_at;
      whole = λ k h. omega arith;
      parts = λ q X r ql xl rl. omega arith;
    }

abbrev pub reasons : Layout
reasons =
    record {
      size = reasons_size;
      symbols = 32;
      at = reason_place_lem;
      from = reason_state;
      symbol = reason_variable;
      whole = λ k h. omega arith;
      parts = λ q X r ql xl rl. omega arith;
    }

-- a change of a list by the transitions of its places
abbrev pub laid : Layout → (ℕ → ℕ → ℕ → ℕ → ℕ) → ℕ → ℕ → ℕ
laid L f k old = cond (leb L.size k) old (f (L.from k) (L.symbol k) (to_state k) old)

module _ (L : Layout) (f : ℕ → ℕ → ℕ → ℕ → ℕ) (l : List ℕ) where
  -- where all becomes 0, the list is cleared
  pub laid_cleared : ((q X r old : ℕ) → f q X r old ≡ 0) → cleared L.size l ≡ each (laid L f) 0 l
  laid_cleared none =
      sym
      (each_is _ l _ (sym (cleared_length L.size l))
      (λ k h. cases (leb L.size k)
      (λ e. rw e (sym (cleared_rest L.size l k (leb-true L.size k e))))
      (λ e. rw e (none _ _ _ _ ∙ sym (cleared_front L.size l k (leb-false L.size k e))))))

  module _ (q X r : ℕ) (long : L.size ≤ length l) (ql : q < 32) (xl : X < L.symbols) (rl : r < 32) where
    pub laid_at : get_or (each (laid L f) 0 l) (L.at q X r) 0 ≡ f q X r (get_or l (L.at q X r) 0)
    laid_at =
        let (below, from, symbol, to) = L.parts q X r ql xl rl in
        get_or_each_0 _ l _ (omega arith)
        ∙ rw (lt-leb, from, symbol, to)

    -- a write is a change that differs at one transition
    pub set_laid : (f' : ℕ → ℕ → ℕ → ℕ → ℕ) (v : ℕ) → ((old : ℕ) → f' q X r old ≡ v) →
        ((a Y b old : ℕ) → (a ≡ q → Y ≡ X → b ≡ r → ⊥) → f' a Y b old ≡ f a Y b old) →
        set (each (laid L f) 0 l) (L.at q X r) v ≡ each (laid L f') 0 l
    set_laid f' v here elsewhere =
        let (below, from, symbol, to) = L.parts q X r ql xl rl in
        set_each _ _ l _ v (omega arith) (rw (lt-leb, from, symbol, to) (here _))
        (λ k x d. cases (leb L.size k)
        (λ e. rw e)
        (λ e. rw e (elsewhere _ _ _ x (λ a b c. d (cc (L.whole k (leb-false L.size k e)))))))
