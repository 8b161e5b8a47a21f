-- The second walk keeps: what is written is sound, and has as many S and I records as there were so far. An L record
-- adds rules that fit, any other record itself. Assumes nothing.
use Rattle.grammar.proofs.Basics.{◌≡◌, refl, true, false, List, map, ◌∷◌, [], ◌++◌, append-nil, append_assoc, ℕ, ◌<◌}
use Rattle.grammar.proofs.Basics.{suc, eqb, ltb, length, eqb-true, eqb-false, cases}
use lib.Seq.{take-append_seam, drop-append_seam}
use Rattle.job.specs.declared.JobRecord.{JobRecord}
use Rattle.job.specs.Format.{field_classes, byte_i, byte_s}
use Rattle.job.specs.Records.{first_fault}
use Rattle.job.specs.Check.{full_limits, count_kind, is_second_lem}
use Rattle.job.proofs.Shapes.{test_passed}
use Rattle.job.proofs.RecordChecks.{walks_on}
use Rattle.job.proofs.Sound.{Sound}
use Rattle.job.proofs.Accepted.{empty_sound}
use Rattle.long_jobs.specs.Dialect.{is_long_lem, short_of}
use Rattle.long_jobs.specs.Check.{fault, long_format}
use Rattle.long_jobs.specs.Convert.{Conversion, convert}
use Rattle.long_jobs.specs.Walk.{written_fault_lem, fault_from, convert_fault, convert_all, none_converted}
use Rattle.long_jobs.proofs.Formed.{WellFormed, well_formed, long_fits, short_fits}
use Rattle.long_jobs.proofs.FirstWalk.{faultless}
use Rattle.long_jobs.proofs.Adds.{Each, split_adds}
use Rattle.long_jobs.proofs.RulesAdded.{FittingRule, shapes_fit, writes_on, one_more_sound, rules_sound}
use Rattle.long_jobs.proofs.KindsCounted.{short_kind, long_kind}

-- what is written for the records seen
pub record Alike (seen : List (List ℕ)) (written : List JobRecord) : Type 0 where
  pub sound : Sound field_classes full_limits written
  pub start : count_kind byte_s written ≡ count_kind byte_s (map short_of seen)
  pub initial : count_kind byte_i written ≡ count_kind byte_i (map short_of seen)

module _ {seen : List (List ℕ)} {written : List JobRecord} (a : Alike seen written) (r : List ℕ) where
  long_alike : {new : List JobRecord} → is_long_lem r ≡ true → Each FittingRule new → written_fault_lem written new ≡ 0
      → Alike (seen ++ (r ∷ [])) (written ++ new)
  long_alike long fit e =
      record {
        sound = rules_sound a.sound fit e;
        start = long_kind byte_s (refl, refl, refl, refl) seen written a.start r long fit;
        initial = long_kind byte_i (refl, refl, refl, refl) seen written a.initial r long fit;
      }

  short_alike : is_long_lem r ≡ false → WellFormed r → is_second_lem (map short_of seen) (short_of r) ≡ false
      → written_fault_lem written (short_of r ∷ []) ≡ 0
      → Alike (seen ++ (r ∷ [])) (written ++ (short_of r ∷ []))
  short_alike short f second e =
      let (known, fits) = short_fits r short f in
      let (old, full, e) = writes_on written (short_of r) [] e in
      record {
        sound = one_more_sound (short_of r) a.sound known fits old (rw (a.start, a.initial) second) full;
        start = short_kind byte_s seen written a.start r;
        initial = short_kind byte_i seen written a.initial r;
      }

-- 5 and 7 are tried for the records that are new
behind_passed : (free : ℕ) (c d : Conversion) (new : List JobRecord) → d.written ≡ c.written ++ new
    → convert_fault free c d ≡ 0
    → written_fault_lem c.written new ≡ 0
unfolding convert_fault
behind_passed free c d new is e =
    let e = (test_passed (ltb free d.taken) 13 (fault_from (length c.written) d.written) e).1 in
    rw (is, take-append_seam c.written new, drop-append_seam c.written new) at e

-- the numbers that are given in turn are variables
module _ (fresh : ℕ → ℕ) (variable : (k : ℕ) → fresh k < 32) (free : ℕ) where
  convert_keeps : {seen : List (List ℕ)} (c : Conversion) (r : List ℕ) → Alike seen c.written → fault seen r ≡ 0
      → convert_fault free c (convert fresh r c) ≡ 0
      → Alike (seen ++ (r ∷ [])) (convert fresh r c).written
  unfolding convert
  convert_keeps {seen} c r s tried e =
      let (formed, second) = faultless seen r tried in
      let f = well_formed r formed in
      cases (is_long_lem r)
      (λ t.
      let (a, hs) = long_fits r t f in
      let adds = split_adds (shapes_fit variable) c a hs in
      let passed = behind_passed free c _ adds.new adds.is (rw t at e) in
      rw (t, adds.is) (long_alike s r t adds.each passed))
      (λ t. rw t (short_alike s r t f second (behind_passed free c _ (short_of r ∷ []) refl (rw t at e))))

  walk_keeps : (i : ℕ) (seen rs : List (List ℕ)) (c : Conversion) → Alike seen c.written
      → (first_fault long_format seen rs).number ≡ 0 → (convert_all free fresh i rs c).refusal.number ≡ 0
      → Alike (seen ++ rs) (convert_all free fresh i rs c).written
  unfolding convert_all
  walk_keeps i seen [] c s p e = rw append-nil s
  walk_keeps i seen (r ∷ rs) c s p e =
      let (tried, p) = walks_on long_format seen r rs p in
      let d = convert fresh r c in
      cases (eqb (convert_fault free c d) 0)
      (λ t.
      let kept = convert_keeps c r s tried (eqb-true _ _ t) in
      rw t (rw append_assoc at (walk_keeps (suc i) (seen ++ (r ∷ [])) rs d kept p (rw t at e))))
      (λ t. absurd (eqb-false _ _ t (rw t at e)))

  pub walked_alike : (rs : List (List ℕ)) → (first_fault long_format [] rs).number ≡ 0
      → (convert_all free fresh 0 rs none_converted).refusal.number ≡ 0
      → Alike rs (convert_all free fresh 0 rs none_converted).written
  unfolding count_kind
  walked_alike rs p e =
      walk_keeps 0 [] rs none_converted
      (record { sound = empty_sound field_classes full_limits; start = refl; initial = refl }) p e
