-- The machine on bits reads and writes only the first 16,384 bytes and 32,768 reasons: what start and steps leave
-- there depends on what stands there alone, and all past them is kept. The bytes of the bit table carry this over from
-- the machine on bytes, and a started table is read back as it was written. Assumes nothing.
use Rattle.grammar.proofs.Basics.{◌≡◌, ◌∙◌, sym, ap, ap₂, false, false≢true, Bool, ◌&&◌, List, ℕ, ◌<◌, ◌≤◌, ◌+◌}
use Rattle.grammar.proofs.Basics.{◌*◌, ◌/◌, ◌%◌, arith, length, take, get_or-take, ext_get_or, lt-leb, cases}
use Rattle.grammar.specs.Rule.{Rule}
use Rattle.job.specs.Job.{Job}
use Rattle.machine.specs.Table.{Lent, lent_of, KeepsRest, table_size, reasons_size, from_state, symbol_at, to_state, Status}
use Rattle.machine.specs.Table.{statuses, status_byte}
use Rattle.machine.specs.Start.{is_empty_at, started}
use Rattle.machine.specs.Advance.{steps}
use Rattle.machine.proofs.Tables.Each.{rest_kept}
use Rattle.machine.proofs.Tables.RuleRanges.{RulesInRange}
use Rattle.machine.proofs.Starts.StartLaws.{started_keeps_rest, started_length}
use Rattle.machine.proofs.Steps.FirstPart.{first_of, first, said_first, started_alike, steps_first}
use Rattle.machine.proofs.Steps.StepLaws.{steps_keep_rest}
use Rattle.bit_machine.specs.BitTable.{bits_size, half_size, pending_half, done_half, bit_of, bit_at, bit_status}
use Rattle.bit_machine.specs.BitTable.{bit_statuses, has_both, write_bits, saying, table_of_bits}
use Rattle.bit_machine.specs.Machine.{as_bytes, in_bits, started_bits, steps_bits}
use Rattle.bit_machine.proofs.ByteTables.{bytes_length, byte_at}
use Rattle.bit_machine.proofs.Rewriting.{Plain, rewritten_length, write_alike, bytes_again}
use Rattle.bit_machine.proofs.Alongside.{started_byte}

-- here the first bytes are 16,384
abbrev first_bits : Lent → Lent
first_bits = first_of bits_size

-- the bits of a place stand there
module _ (bits : List ℕ) (p : ℕ) (l : p < table_size) where
  bit_first : (half : ℕ) → half < 2 → bit_at bits half p ≡ bit_at (take bits_size bits) half p
  unfolding bit_at
  bit_first half h =
      let i : half * half_size + p / 8 < bits_size = omega arith in
      ap (λ (x : ℕ). bit_of x (p % 8)) (sym (get_or-take bits_size bits (half * half_size + p / 8) 0 i))

  status_first : bit_statuses bits p ≡ bit_statuses (take bits_size bits) p
  unfolding bit_statuses
  status_first = ap₂ bit_status (bit_first pending_half (omega arith)) (bit_first done_half (omega arith))

  both_first : has_both bits p ≡ has_both (take bits_size bits) p
  unfolding has_both
  both_first = ap₂ ◌&&◌ (bit_first pending_half (omega arith)) (bit_first done_half (omega arith))

-- so the byte table that says the same depends on them alone
bytes_first : (bits : List ℕ) → table_of_bits bits ≡ table_of_bits (take bits_size bits)
bytes_first bits =
    ext_get_or 0 _ _ (bytes_length bits ∙ sym (bytes_length (take bits_size bits)))
    (λ p h.
    let l : p < table_size = omega (arith, bytes_length bits) in
    byte_at bits p l ∙ ap status_byte (status_first bits p l) ∙ sym (byte_at (take bits_size bits) p l))

pub bytes_alike : (m n : Lent) → first_bits m ≡ first_bits n → table_of_bits m.table ≡ table_of_bits n.table
bytes_alike m n e =
    bytes_first m.table ∙ ap (λ (l : Lent). table_of_bits l.table) e ∙ sym (bytes_first n.table)

pub as_bytes_alike : (m n : Lent) → first_bits m ≡ first_bits n → first (as_bytes m) ≡ first (as_bytes n)
as_bytes_alike m n e = ap₂ lent_of (ap (take table_size) (bytes_alike m n e)) (ap (λ (l : Lent). l.reasons) e)

-- what byte tables with one first part say is written alike
module _ (both both' : ℕ → Bool) (agree : (p : ℕ) → p < table_size → both p ≡ both' p) (bits bits' : List ℕ)
    (long : length bits ≡ length bits') (m n : Lent) (same : first m ≡ first n) where
  in_bits_alike : first_bits (in_bits both bits m) ≡ first_bits (in_bits both' bits' n)
  in_bits_alike =
      ap₂ lent_of
      (write_alike (saying both (statuses m.table)) (saying both' (statuses n.table))
      (λ half p h l.
      ap₂ (λ (s : Status) (b : Bool). saying (λ _. b) (λ _. s) half p)
      (said_first m.table p l ∙ ap (λ (x : Lent). statuses x.table p) same ∙ sym (said_first n.table p l))
      (agree p l))
      bits bits' long)
      (ap (λ (x : Lent). x.reasons) same)

-- and what lies past both is kept
in_bits_keep : (both : ℕ → Bool) (m n : Lent) → KeepsRest table_size (as_bytes m) n →
    KeepsRest bits_size m (in_bits both m.table n)
unfolding write_bits
in_bits_keep both m n kept =
    record {
      long_table = rewritten_length (saying both (statuses n.table)) m.table;
      long_reasons = kept.long_reasons;
      rest_table = rest_kept bits_size _ m.table;
      rest_reasons = kept.rest_reasons;
    }

pub started_bits_keep : (J : Job) (m : Lent) → KeepsRest bits_size m (started_bits J m)
unfolding started_bits
started_bits_keep J m = in_bits_keep (λ p. false) m (started J (as_bytes m)) (started_keeps_rest J (as_bytes m))

pub steps_bits_keep : (ρs : List Rule) (k : ℕ) (m : Lent) → KeepsRest bits_size m (steps_bits ρs k m)
unfolding steps_bits
steps_bits_keep ρs k m =
    in_bits_keep (has_both m.table) m (steps ρs k (as_bytes m)) (steps_keep_rest ρs k (as_bytes m))

module _ (m n : Lent) (long : length m.table ≡ length n.table) where
  -- a start writes all of the first part, whatever was there
  pub started_bits_alike : (J : Job) → reasons_size ≤ length m.reasons → reasons_size ≤ length n.reasons →
      first_bits (started_bits J m) ≡ first_bits (started_bits J n)
  unfolding started_bits
  started_bits_alike J lm ln =
      in_bits_alike (λ p. false) (λ p. false) (λ p l i. false) m.table n.table long
      (started J (as_bytes m)) (started J (as_bytes n))
      (started_alike J (as_bytes m) (as_bytes n) (omega (arith, bytes_length m.table))
      (omega (arith, bytes_length n.table)) lm ln)

  pub steps_bits_alike : (ρs : List Rule) → RulesInRange ρs → (k : ℕ) → first_bits m ≡ first_bits n →
      first_bits (steps_bits ρs k m) ≡ first_bits (steps_bits ρs k n)
  unfolding steps_bits
  steps_bits_alike ρs range k e =
      in_bits_alike (has_both m.table) (has_both n.table)
      (λ p l.
      both_first m.table p l ∙ ap (λ (x : Lent). has_both x.table p) e ∙ sym (both_first n.table p l))
      m.table n.table long (steps ρs k (as_bytes m)) (steps ρs k (as_bytes n))
      (steps_first ρs range k (as_bytes m) ∙ ap (steps ρs k) (as_bytes_alike m n e)
      ∙ sym (steps_first ρs range k (as_bytes n)))

-- a started table has bytes 0 and 1 alone, so it is read back
started_plain : (J : Job) (m : Lent) → Plain (started J (as_bytes m)).table
started_plain J m =
    record {
      size = started_length J (as_bytes m) ∙ bytes_length m.table;
      small = λ p l.
          rw (started_byte J (as_bytes m) p l (omega (arith, bytes_length m.table)), lt-leb table_size p l)
          (cases (J.given (from_state p) (symbol_at p) (to_state p)) (λ e. rw e (omega arith))
          (λ e. rw e
          (cases (is_empty_at J (from_state p) (symbol_at p) (to_state p)) (λ f. rw f (omega arith))
          (λ f. rw f (omega arith)))));
    }

pub started_bytes : (J : Job) (m : Lent) → bits_size ≤ length m.table →
    as_bytes (started_bits J m) ≡ started J (as_bytes m)
unfolding started_bits
started_bytes J m long =
    ap (λ t. lent_of t (started J (as_bytes m)).reasons)
    (bytes_again (λ p. false) _ m.table long (λ p l e. absurd (false≢true e)) (started_plain J m))
