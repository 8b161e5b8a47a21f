-- The words of the states from which the rest of a form can finish: filled from the form's end on, and the next state
-- of a route as the first one of a word. Assumes nothing.
use Rattle.grammar.proofs.Basics.{◌≡◌, ◌∙◌, ap, ap₂, Bool, ◌&&◌, List, ℕ, ◌<◌, ◌≤◌, ◌+◌, ◌*◌, suc, add-one, arith}
use Rattle.grammar.proofs.Basics.{length, get_or, set, drop, drop-cons, drop-length}
use lib.Bits.{bit_and}
use Rattle.grammar.specs.Counting.{some}
use Rattle.grammar.proofs.Some.{some_cong}
use Rattle.machine.specs.Table.{is_done_lem, done_in}
use Rattle.machine.proofs.Tables.FirstFrom.{first_cong, is_first}
use Rattle.bit_machine.specs.BitTable.{bit_of, bit_statuses, table_of_bits}
use Rattle.bit_machine.specs.Inside.Word.{First}
use Rattle.bit_machine.proofs.BitLaws.{bit_and_lem}
use Rattle.bit_machine.proofs.StateWords.{done_bit}
use Rattle.forms.specs.Acceptance.{can_finish, next_state}
use Rattle.forms.specs.Inside.AcceptanceParts.{FinishWords}
use Rattle.forms.proofs.Runs.{set_cases}

-- the words of the positions from i on are right
pub record WordsFrom (final : ℕ → Bool) (bits form finish : List ℕ) (i : ℕ) : Type 0 where
  pub right : (j q : ℕ) → i ≤ j → j ≤ length form → q < 32 →
      bit_of (get_or finish j 0) q ≡ can_finish final (done_in (bit_statuses bits)) (drop j form) q

module _ (bits form finish : List ℕ) (room : length form < length finish) where
  -- at the end of the form it is that of the final states
  pub words_of_end : (finals : ℕ) →
      WordsFrom (bit_of finals) bits form (set finish (length form) finals) (length form)
  unfolding can_finish
  words_of_end finals =
      record {
        right = λ j q l m below.
            let end : j ≡ length form = omega arith in
            set_cases (λ w. bit_of w q ≡ can_finish (bit_of finals) (done_in (bit_statuses bits)) (drop j form) q)
            finish _ j finals room (λ same. rw (end, drop-length form)) (λ other. absurd (other end));
      }

  -- and before it each follows from that of the next position
  pub words_before : {final : ℕ → Bool} (new i n : ℕ) → n ≡ suc i → i < length form →
      WordsFrom final bits form finish n →
      ((q : ℕ) → q < 32 → bit_of new q
      ≡ some (λ r. done_in (bit_statuses bits) q (get_or form i 0) r && bit_of (get_or finish n 0) r) 32) →
      WordsFrom final bits form (set finish i new) i
  unfolding can_finish
  words_before {final} new i n next l words New-is =
      record {
        right = λ j q from m below.
            set_cases (λ w. bit_of w q ≡ can_finish final (done_in (bit_statuses bits)) (drop j form) q) finish i j new
            (omega arith)
            (λ same. rw (same, drop-cons form i 0 l)
            (New-is q below
            ∙ some_cong _ _ 32 (λ r k. ap (λ b. done_in (bit_statuses bits) q (get_or form i 0) r && b)
            (words.right n r (omega arith) (omega arith) k
            ∙ ap (λ (x : ℕ). can_finish final (done_in (bit_statuses bits)) (drop x form) r) next))))
            (λ other. words.right j q (omega arith) m below);
      }

-- the first one of a row of done transitions and the word of the next position is the next state
pub next_found : (final : ℕ → Bool) (bits form finish : List ℕ) → FinishWords final bits form finish →
    (i at row r : ℕ) → i < length form → at < 32 → get_or form i 0 < 64 →
    ((j : ℕ) → j < 32 → bit_of row j ≡ is_done_lem (get_or (table_of_bits bits) ((at * 64 + get_or form i 0) * 32 + j) 0)) →
    First (bit_and row (get_or finish (i + 1) 0)) r →
    r ≡ next_state final (done_in (bit_statuses bits)) (get_or form i 0) (drop (suc i) form) at
unfolding next_state
next_found final bits form finish words i at row r l below symbol says first =
    is_first (bit_of (bit_and row (get_or finish (i + 1) 0))) 32 r first.within first.one first.none
    ∙ first_cong _ _ 0 32
    (λ s k. bit_and_lem row (get_or finish (i + 1) 0) s
    ∙ ap₂ ◌&&◌ (done_bit bits at (get_or form i 0) row 0 below symbol says s (omega arith))
    (words (i + 1) s (omega arith) (omega arith)
    ∙ ap (λ k. can_finish final (done_in (bit_statuses bits)) (drop k form) s) (add-one i)))
