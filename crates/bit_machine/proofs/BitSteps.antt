-- Steps on a bit table, read back: its bytes are those of the byte machine, which keeps to bytes 0, 1 and 2; places
-- with both bits stay done and keep both. So steps add up, and one step is told bit by bit. Assumes nothing.
use Rattle.grammar.proofs.Basics.{◌≡◌, refl, ◌∙◌, sym, ap, ap₂, true, false, false≢true, Bool, ◌&&◌, ◌||◌, cond}
use Rattle.grammar.proofs.Basics.{List, ℕ, ◌<◌, ◌≤◌, ◌+◌, arith, eqb, leb, length, eqb-true, and_left}
use Rattle.grammar.specs.Rule.{Rule}
use Rattle.machine.specs.Table.{Lent, lent_of, table_size, table_place, from_state, symbol_at, to_state, Status, Statuses}
use Rattle.machine.specs.Table.{says_absent, says_pending, says_done, is_absent_at, is_done_at, statuses}
use Rattle.machine.specs.Step.{lowest, is_finished, comes_in, status_after, taking}
use Rattle.machine.specs.Advance.{steps, steps_made, meetings_made}
use Rattle.machine.proofs.Tables.Each.{get_or_each_0}
use Rattle.machine.proofs.Tables.Lowest.{lowest_is_pending}
use Rattle.machine.proofs.Steps.Taking.{taking_length, taking_says}
use Rattle.machine.proofs.Steps.StepLaws.{step_taking, steps_keep, steps_done_kept, steps_add, steps_made_add}
use Rattle.machine.proofs.Steps.MeetingsMade.{meetings_made_add}
use Rattle.bit_machine.specs.BitTable.{bits_size, pending_half, done_half, bit_at, bit_status, bit_statuses, has_both}
use Rattle.machine.specs.Table.{status_byte}
use Rattle.bit_machine.specs.BitTable.{saying, table_of_bits}
use Rattle.bit_machine.specs.Machine.{as_bytes, steps_bits}
use Rattle.bit_machine.specs.Theorems.Steps.{StepInBits, JoinedBits}
use Rattle.bit_machine.proofs.ByteTables.{bytes_length, byte_at, bytes_say}
use Rattle.bit_machine.proofs.Rewriting.{Plain, rewritten_length, bit_rewritten, write_again, said_again, both_kept}
use Rattle.bit_machine.proofs.Rewriting.{bytes_again}

-- bytes 0, 1 and 2 alone, at first and after each step
small_byte : (s : Status) → status_byte s < 3
small_byte Status.absent = omega arith
small_byte Status.pending = omega arith
small_byte Status.done = omega arith

pub bytes_plain : (bits : List ℕ) → Plain (table_of_bits bits)
bytes_plain bits =
    record { size = bytes_length bits; small = λ p l. rw (byte_at bits p l) (small_byte (bit_statuses bits p)) }

small_after : (past taken comes : Bool) (old : ℕ) → old < 3 → cond past old (cond taken 2 (cond comes 1 old)) < 3
small_after true taken comes old l = l
small_after false true comes old l = omega arith
small_after false false true old l = omega arith
small_after false false false old l = l

taking_plain : (ρs : List Rule) (p : ℕ) (m : Lent) → Plain m.table → Plain (taking ρs p m).table
unfolding taking
taking_plain ρs p m plain =
    record {
      size = taking_length ρs p m ∙ plain.size;
      small = λ i l.
          rw (get_or_each_0 _ m.table i (omega (arith, plain.size)))
          (small_after (leb table_size i) (eqb i p) (comes_in ρs (statuses m.table) p (from_state i) (symbol_at i)
          (to_state i)) _ (plain.small i l));
    }

-- a place with both bits is done
both_says_done : (pending done : Bool) → (pending && done) ≡ true → says_done (bit_status pending done) ≡ true
both_says_done true true e = refl
both_says_done true false e = absurd (false≢true e)
both_says_done false done e = absurd (false≢true e)

both_done : (bits : List ℕ) (p : ℕ) → p < table_size → has_both bits p ≡ true →
    is_done_at (statuses (table_of_bits bits)) p ≡ true
unfolding has_both bit_statuses
both_done bits p l e =
    ap says_done (bytes_say bits p l) ∙ both_says_done (bit_at bits pending_half p) (bit_at bits done_half p) e

module _ (ρs : List Rule) (m : Lent) (long : bits_size ≤ length m.table) (n : ℕ) where
  kept_done : (p : ℕ) → p < table_size → has_both m.table p ≡ true →
      is_done_at (statuses (steps ρs n (as_bytes m)).table) p ≡ true
  kept_done p l e = steps_done_kept ρs n (as_bytes m) p (both_done m.table p l e)

  pub steps_bits_length : length (steps_bits ρs n m).table ≡ length m.table
  unfolding steps_bits
  steps_bits_length = rewritten_length _ m.table

  pub steps_say : (p : ℕ) → p < table_size →
      bit_statuses (steps_bits ρs n m).table p ≡ statuses (steps ρs n (as_bytes m)).table p
  unfolding steps_bits
  steps_say = said_again (has_both m.table) _ m.table long kept_done

  pub steps_both : (p : ℕ) → p < table_size → has_both (steps_bits ρs n m).table p ≡ has_both m.table p
  unfolding steps_bits
  steps_both = both_kept (has_both m.table) (statuses (steps ρs n (as_bytes m)).table) m.table long kept_done

  pub steps_bytes : as_bytes (steps_bits ρs n m) ≡ steps ρs n (as_bytes m)
  unfolding steps_bits
  steps_bytes =
      ap (λ t. lent_of t (steps ρs n (as_bytes m)).reasons)
      (bytes_again (has_both m.table) _ m.table long kept_done
      (steps_keep (λ m'. Plain m'.table) ρs (λ m' f k. taking_plain ρs _ m' k) n (as_bytes m)
      (bytes_plain m.table)))

-- a steps and then b are a + b steps, and their counts add up
module _ (ρs : List Rule) (m : Lent) (long : bits_size ≤ length m.table) (a b : ℕ) where
  then_bytes : steps ρs b (as_bytes (steps_bits ρs a m)) ≡ steps ρs (a + b) (as_bytes m)
  then_bytes = ap (steps ρs b) (steps_bytes ρs m long a) ∙ sym (steps_add ρs a b (as_bytes m))

  then_bits : (half p : ℕ) → half < 2 → p < table_size →
      saying (has_both (steps_bits ρs a m).table) (statuses (steps ρs b (as_bytes (steps_bits ρs a m))).table) half p
      ≡ saying (has_both m.table) (statuses (steps ρs (a + b) (as_bytes m)).table) half p
  then_bits half p h l =
      ap₂ (λ (x : Lent) (both : Bool). saying (λ _. both) (statuses x.table) half p) then_bytes
      (steps_both ρs m long a p l)

  steps_bits_add : steps_bits ρs (a + b) m ≡ steps_bits ρs b (steps_bits ρs a m)
  unfolding steps_bits
  steps_bits_add =
      sym (ap₂ lent_of (write_again _ _ then_bits _ m.table) (ap (λ x. x.reasons) then_bytes))

  pub joined_bits : JoinedBits ρs m a b
  joined_bits =
      let bytes = sym (steps_bytes ρs m long a) in
      record {
        lent = steps_bits_add;
        made = steps_made_add ρs a b (as_bytes m) ∙ ap (λ x. steps_made ρs a (as_bytes m) + steps_made ρs b x) bytes;
        met = meetings_made_add ρs a b (as_bytes m)
            ∙ ap (λ x. meetings_made ρs a (as_bytes m) + meetings_made ρs b x) bytes;
      }

-- the bits of a place after a step, by those before: the place that is taken is pending, and what comes in is absent
pending_after : (taken comes pending done : Bool) → (taken ≡ true → says_pending (bit_status pending done) ≡ true) →
    (says_pending (cond taken Status.done (cond comes Status.pending (bit_status pending done))) || (pending && done))
    ≡ cond taken false (cond comes true pending)
pending_after true comes true true lowest = absurd (false≢true (lowest refl))
pending_after true comes true false lowest = refl
pending_after true comes false done lowest = refl
pending_after false true pending done lowest = refl
pending_after false false true true lowest = refl
pending_after false false true false lowest = refl
pending_after false false false true lowest = refl
pending_after false false false false lowest = refl

done_after : (taken comes pending done : Bool) → (comes ≡ true → says_absent (bit_status pending done) ≡ true) →
    says_done (cond taken Status.done (cond comes Status.pending (bit_status pending done))) ≡ cond taken true done
done_after true comes pending done absent = refl
done_after false true pending true absent = absurd (false≢true (absent refl))
done_after false true pending false absent = refl
done_after false false true true absent = refl
done_after false false true false absent = refl
done_after false false false true absent = refl
done_after false false false false absent = refl

module _ (ρs : List Rule) (m : Lent) (long : bits_size ≤ length m.table)
    (unfinished : is_finished (statuses (as_bytes m).table) ≡ false) where
  abbrev v : Statuses
  v = statuses (table_of_bits m.table)

  -- what the step says
  says_after : (p : ℕ) → p < table_size → statuses (steps ρs 1 (as_bytes m)).table p ≡ status_after ρs v (lowest v) p
  unfolding steps
  says_after p l =
      ap (λ (x : Lent). statuses x.table p) (step_taking ρs (as_bytes m) unfinished)
      ∙ taking_says ρs (lowest v) (as_bytes m) p l (omega (arith, bytes_length m.table))

  module _ (p : ℕ) (l : p < table_size) where
    taken_pending : eqb p (lowest v) ≡ true → says_pending (bit_statuses m.table p) ≡ true
    taken_pending e =
        sym (ap says_pending (bytes_say m.table p l)) ∙ rw (eqb-true p _ e) (lowest_is_pending v unfinished)

    abbrev comes : Bool
    comes = comes_in ρs v (lowest v) (from_state p) (symbol_at p) (to_state p)

    comes_absent : comes ≡ true → says_absent (bit_statuses m.table p) ≡ true
    comes_absent e =
        let back : table_place (from_state p) (symbol_at p) (to_state p) ≡ p = omega arith in
        sym (ap says_absent (bytes_say m.table p l)) ∙ ap (is_absent_at v) (sym back) ∙ and_left _ _ e

    after_now : statuses (steps ρs 1 (as_bytes m)).table p
        ≡ cond (eqb p (lowest v)) Status.done (cond comes Status.pending (bit_statuses m.table p))
    after_now = says_after p l ∙ rw (bytes_say m.table p l)

    -- its two bits
    abbrev pending_bit : Bool
    pending_bit = bit_at m.table pending_half p

    abbrev done_bit : Bool
    done_bit = bit_at m.table done_half p

    pending_now : bit_at (steps_bits ρs 1 m).table pending_half p
        ≡ cond (eqb p (lowest v)) false (cond comes true pending_bit)
    unfolding steps_bits has_both bit_statuses
    pending_now =
        bit_rewritten _ m.table long pending_half p (omega arith) l
        ∙ ap (λ s. says_pending s || has_both m.table p) after_now
        ∙ pending_after (eqb p (lowest v)) comes pending_bit done_bit taken_pending

    done_now : bit_at (steps_bits ρs 1 m).table done_half p ≡ cond (eqb p (lowest v)) true done_bit
    unfolding steps_bits bit_statuses
    done_now =
        bit_rewritten _ m.table long done_half p (omega arith) l ∙ ap says_done after_now
        ∙ done_after (eqb p (lowest v)) comes pending_bit done_bit comes_absent

  pub step_in_bits : StepInBits ρs v m.table (steps_bits ρs 1 m).table
  step_in_bits = record { pending = pending_now; done = done_now }
