-- Records in front of a buffer, one put behind the other. Assumes nothing.
use Rattle.grammar.proofs.Basics.{◌≡◌, refl, ◌∙◌, sym, ap, List, ◌∷◌, [], ◌++◌, ℕ, ◌≤◌, ◌+◌, ◌*◌, ◌-◌, arith, length, take}
use Rattle.grammar.proofs.Basics.{drop, add-zero, append_assoc, length-append, length-drop, length-take-le, take_at}
use lib.ListN.{take-append-drop}
use lib.Seq.{drop_at, drop-drop}
use Rattle.job.specs.declared.JobRecord.{JobRecord}
use Rattle.job.specs.Format.{records_of, bytes_of}
use Rattle.job.proofs.Records.{records_counted}
use Rattle.job.proofs.Bytes.{bytes_counted, bytes_append, records_of_bytes, bytes_of_records}

-- the buffer begins with the bytes of these records and goes on as it was before
pub record InFront (rs : List JobRecord) (before out : List ℕ) : Type 0 where
  pub is : out ≡ bytes_of rs ++ drop (4 * length rs) before

module _ {rs : List JobRecord} {before out : List ℕ} (f : InFront rs before out) where
  -- it is as long as it was
  pub front_size : 4 * length rs ≤ length before → length out ≡ length before
  front_size h =
      ap length f.is ∙ length-append (bytes_of rs) _
      ∙ omega (arith, bytes_counted rs, length-drop (4 * length rs) before)

  -- the records are read again
  pub front_read : records_of (take (4 * length rs) out) ≡ rs
  front_read =
      rw (f.is, take_at (bytes_of rs) (drop (4 * length rs) before) (4 * length rs) (bytes_counted rs))
      (records_of_bytes rs)

  -- past them it is as it was
  rest : (k : ℕ) → drop (4 * length rs + k) out ≡ drop (4 * length rs + k) before
  rest k =
      let m = 4 * length rs in
      rw f.is
      (sym (drop-drop k m (bytes_of rs ++ drop m before))
      ∙ ap (drop k) (drop_at (bytes_of rs) (drop m before) m (bytes_counted rs)) ∙ drop-drop k m before)

  pub front_again : InFront rs out out
  front_again = record { is = f.is ∙ ap (λ (l : List ℕ). bytes_of rs ++ l) (sym (rw add-zero at (rest 0))) }

  -- more records, written over them
  pub front_over : (ss : List JobRecord) {after : List ℕ} → length rs ≤ length ss → InFront ss out after →
      InFront ss before after
  front_over ss h g =
      let k = 4 * length ss - 4 * length rs in
      let n : 4 * length rs + k ≡ 4 * length ss = omega arith in
      record { is = g.is ∙ ap (λ (l : List ℕ). bytes_of ss ++ l) (rw n at (rest k)) }

  -- one record more
  pub front_more : (n : ℕ) (r : JobRecord) {after : List ℕ} → n ≡ length rs →
      after ≡ take (4 * n) out ++ (bytes_of (r ∷ []) ++ drop (4 * n + 4) out) → InFront (rs ++ (r ∷ [])) before after
  front_more n r e put =
      let m = 4 * length rs in
      let front = bytes_of rs in
      let long : length front ≡ m = bytes_counted rs in
      let next : 4 * length (rs ++ (r ∷ [])) ≡ m + 4 = rw length-append (omega arith) in
      let first : take m out ≡ front = rw f.is (take_at front (drop m before) m long) in
      record {
        is = put
            ∙ rw (e, rest 4, first, next, bytes_append)
            (sym (append_assoc front (bytes_of (r ∷ [])) (drop (m + 4) before)));
      }

-- at first there are none, and what a buffer holds in front are records
pub front_none : (before : List ℕ) → InFront [] before before
unfolding bytes_of
front_none before = record { is = refl }

pub front_held : (n : ℕ) (out : List ℕ) → 4 * n ≤ length out → InFront (records_of (take (4 * n) out)) out out
front_held n out h =
    let long = length-take-le (4 * n) out h in
    let count : length (records_of (take (4 * n) out)) ≡ n = records_counted (take (4 * n) out) ∙ rw long (omega arith) in
    record {
      is = rw (count, bytes_of_records n (take (4 * n) out) long) (sym (take-append-drop (4 * n) out));
    }
