-- The word of the final states, record by record: what is noted so far and what the records from i on say are all.
-- Assumes nothing.
use Rattle.grammar.proofs.Basics.{◌≡◌, refl, ◌∙◌, sym, ap, true, false, Bool, ◌&&◌, ◌||◌, List, ℕ, ◌<◌, ◌≤◌, ◌+◌, ◌*◌}
use Rattle.grammar.proofs.Basics.{◌%◌, arith, eqb, length, add-one, get_or, drop, drop-cons, drop_of_length-le, or_assoc}
use Rattle.grammar.proofs.Basics.{or-false, or-true, eq-eqb, ne_eqb, eqb-true, eqb-false, cases}
use Prim.Native.Nat.{◌^◌}
use lib.Bits.{bit_or}
use Rattle.job.specs.declared.JobRecord.{JobRecord}
use Rattle.job.specs.Format.{byte_f, records_of, no_record, same, has}
use Rattle.job.specs.Job.{final_record, job_of, job_of_records}
use Rattle.bit_machine.specs.BitTable.{bit_of}
use Rattle.bit_machine.proofs.BitLaws.{bit_zero}
use Rattle.bit_machine.proofs.BitBytes.{bit_after_set}

-- the states noted so far, with those that the records from i on have
abbrev pub FinalFrom : List JobRecord → ℕ → ℕ → Type 0
FinalFrom rs word i =
    (q : ℕ) → q < 32 → (bit_of word q || has (drop i rs) (final_record q)) ≡ has rs (final_record q)

pub final_none : (rs : List JobRecord) → FinalFrom rs 0 0
final_none rs q l = ap (λ b. b || has rs (final_record q)) (bit_zero q)

pub final_more : (rs : List JobRecord) (word new i : ℕ) {r : JobRecord} → i < length rs → FinalFrom rs word i →
    r ≡ get_or rs i no_record → ((q : ℕ) → q < 32 → bit_of new q ≡ (bit_of word q || same r (final_record q))) →
    FinalFrom rs new (i + 1)
unfolding has
final_more rs word new i h before at one q l =
    ap (λ b. b || has (drop (i + 1) rs) (final_record q)) (one q l)
    ∙ or_assoc (bit_of word q) _ (has (drop (i + 1) rs) (final_record q))
    ∙ rw (at, add-one) (rw (drop-cons rs i no_record h) at (before q l))

pub final_all : (job : List ℕ) (word i : ℕ) → length (records_of job) ≤ i → FinalFrom (records_of job) word i →
    (q : ℕ) → q < 32 → bit_of word q ≡ (job_of job).final q
unfolding has job_of job_of_records
final_all job word i h all q l =
    sym (or-false (bit_of word q)) ∙ rw (drop_of_length-le (records_of job) {i = i} h) at (all q l)

-- a record that is no F record of the state notes nothing
module _ (word : ℕ) (r : JobRecord) where
  nothing : (q : ℕ) → same r (final_record q) ≡ false → bit_of word q ≡ (bit_of word q || same r (final_record q))
  nothing q e = sym (ap (λ b. bit_of word q || b) e ∙ or-false (bit_of word q))

  second_false : (a b c d : Bool) → b ≡ false → (a && b && c && d) ≡ false
  second_false true b c d e = rw e
  second_false false b c d e = refl

  third_false : (a b c d : Bool) → c ≡ false → (a && b && c && d) ≡ false
  third_false true true c d e = rw e
  third_false true false c d e = refl
  third_false false b c d e = refl

  fourth_false : (a b c d : Bool) → d ≡ false → (a && b && c && d) ≡ false
  fourth_false true true true d e = e
  fourth_false true true false d e = refl
  fourth_false true false c d e = refl
  fourth_false false b c d e = refl

  pub other_kind : (r.kind ≡ byte_f → ⊥) → (q : ℕ) → q < 32 → bit_of word q ≡ (bit_of word q || same r (final_record q))
  other_kind d q l = nothing q (rw (ne_eqb r.kind byte_f d))

  pub other_second : (r.second ≡ 0 → ⊥) → (q : ℕ) → q < 32 → bit_of word q ≡ (bit_of word q || same r (final_record q))
  other_second d q l = nothing q (third_false (eqb r.kind byte_f) (eqb r.first q) _ _ (ne_eqb r.second 0 d))

  pub other_third : (r.third ≡ 0 → ⊥) → (q : ℕ) → q < 32 → bit_of word q ≡ (bit_of word q || same r (final_record q))
  other_third d q l =
      nothing q
      (fourth_false (eqb r.kind byte_f) (eqb r.first q) (eqb r.second 0) _ (ne_eqb r.third 0 d))

  pub no_state : 32 ≤ r.first → (q : ℕ) → q < 32 → bit_of word q ≡ (bit_of word q || same r (final_record q))
  no_state d q l =
      nothing q (second_false (eqb r.kind byte_f) _ _ _ (ne_eqb r.first q (λ e. omega arith)))

  -- one that is notes its state
  pub noted : r.kind ≡ byte_f → r.second ≡ 0 → r.third ≡ 0 → r.first < 32 → (q : ℕ) → q < 32 →
      bit_of (bit_or word (1 * 2 ^ r.first % 2 ^ 32)) q ≡ (bit_of word q || same r (final_record q))
  noted kind second third below q l =
      bit_after_set 32 word r.first q below
      ∙ cases (eqb q r.first)
      (λ e.
      let same-state = eqb-true q r.first e in
      rw (
        e,
        eq-eqb r.kind byte_f kind,
        eq-eqb r.first q (omega arith),
        eq-eqb r.second 0 second,
        eq-eqb r.third 0 third,
        or-true,
      ))
      (λ e.
      let other = eqb-false q r.first e in
      rw e (nothing q (second_false (eqb r.kind byte_f) _ _ _ (ne_eqb r.first q (λ s. other (sym s))))))
