-- What each named symbol derives in terminals is the same by the long job and by the job. Each production of the long job is a
-- derivation by the job; and where each taken variable stands for its string, each rule of the job is a derivation by
-- the long job. Named symbols and terminals stand for themselves. Assumes nothing.
use Rattle.grammar.proofs.Basics.{◌≡◌, refl, true, false, List, ◌∷◌, [], List·Memᴰ, List·Memᴰ·not-nil, List·Memᴰ·head}
use Rattle.grammar.proofs.Basics.{List·Memᴰ·tail, ℕ, ◌≤◌, zero-add, arith, length, true_and_false, ◌↔◌}
use Rattle.grammar.specs.Symbol.{Terminals}
use Rattle.grammar.specs.Rule.{head, body, ProductionsOf, Among}
use Rattle.grammar.specs.Derivation.{Derives, none}
use Rattle.grammar.proofs.Derivations.{derives_production}
use Rattle.grammar.proofs.Standing.{each_derives, string_of, standing_derives}
use Rattle.grammar.proofs.StandFor.{stand_for, other_stands, member_stands, self_string}
use Rattle.job.specs.Job.{rule_of, job_of, job_of_records}
use Rattle.long_jobs.specs.Dialect.{long_records_lem, is_long_lem, head_of, body_of, short_of}
use Rattle.long_jobs.specs.Fresh.{names, is_named_lem, free_in}
use Rattle.long_jobs.specs.Convert.{Conversion}
use Rattle.long_jobs.specs.Walk.{next_free, none_converted, walked}
use Rattle.long_jobs.specs.Productions.{LongProductions, of_long, of_short}
use Rattle.long_jobs.specs.Theorems.Written.{SameStrings}
use Rattle.long_jobs.proofs.Converted.{converts, converts_written}
use Rattle.long_jobs.proofs.Taken.{Stand, all_strings, all_taken}
use Rattle.long_jobs.proofs.Meaning.{Meant, Right, Says, all_right}
use Rattle.long_jobs.proofs.Deriving.{Derived, all_derived}
use Rattle.long_jobs.proofs.FreeVariables.{free_member, free_distinct}
use Rattle.long_jobs.proofs.Naming.{names_named, long_names, rule_not_long, rule_names}
use Rattle.long_jobs.proofs.JobRules.{record_production, production_record}
use Rattle.long_jobs.proofs.Success.{success_passes, records_left}

module _ (rs : List (List ℕ)) where
  abbrev fresh : ℕ → ℕ
  fresh = next_free (free_in rs)

  abbrev converted : Conversion
  converted = converts fresh rs none_converted

  abbrev P : ℕ → List ℕ → Type 0
  P = LongProductions rs

  abbrev Q : ℕ → List ℕ → Type 0
  Q = ProductionsOf (Among (job_of_records converted.written).rules)

  derived : (r : List ℕ) → List·Memᴰ r rs → Derived converted.written Q r
  derived =
      all_derived converted.written fresh Q (record_production converted.written) rs none_converted (λ x m. m)

  production_derives : (A : ℕ) (β : List ℕ) → P A β → Derives Q (A ∷ []) β
  production_derives A β (of_long r m t) = (derived r m).production t
  production_derives A β (of_short r m t) =
      derives_production
      (record_production converted.written (short_of r) ((derived r m).rule (rule_not_long r t)) t) none

  module _ (enough : converted.taken ≤ length (free_in rs)) where
    abbrev strings : List (List ℕ)
    strings = all_strings rs

    abbrev σ : ℕ → List ℕ
    σ = stand_for (free_in rs) strings

    named_stands : (X : ℕ) → is_named_lem rs X ≡ true → σ X ≡ X ∷ []
    named_stands X t = other_stands (free_in rs) strings X (λ m. true_and_false t (free_member rs 32 X m).1)

    terminal_stands : (X : ℕ) → 32 ≤ X → σ X ≡ X ∷ []
    terminal_stands X h = other_stands (free_in rs) strings X (λ m. omega (arith, (free_member rs 32 X m).0))

    -- the rule of a record as it is
    rule_meant : (r : List ℕ) → List·Memᴰ r rs → is_long_lem r ≡ false → Meant P σ (short_of r)
    unfolding names
    rule_meant r m l t =
        let rule = rule_of (short_of r) in
        let self : (X : ℕ) → List·Memᴰ X (head rule ∷ body rule) → σ X ≡ X ∷ [] =
        λ X n. named_stands X (names_named X m (rw l (rule_names (short_of r) X t n))) in
        rw (self (head rule) (List·Memᴰ·head refl), self_string σ (body rule) (λ X n. self X (List·Memᴰ·tail n)))
        (derives_production (of_short r m t) none)

    says : (r : List ℕ) → List·Memᴰ r rs → Says P σ r
    says r m =
        let self : is_long_lem r ≡ true → (X : ℕ) → List·Memᴰ X (head_of r ∷ body_of r) → σ X ≡ X ∷ [] =
        λ t X n. named_stands X (names_named X m (long_names r X t n)) in
        record {
          symbols = λ t X n. self t X (List·Memᴰ·tail n);
          production = λ t.
              rw (self t (head_of r) (List·Memᴰ·head refl)) (derives_production (of_long r m t) none);
          rule = rule_meant r m;
        }

    taken_stand : Stand σ fresh 0 strings
    taken_stand =
        let free : length strings ≤ length (free_in rs) =
        omega (arith, enough, all_taken fresh rs none_converted) in
        record { at = λ j h. rw zero-add (member_stands (free_in rs) strings j (free_distinct rs 32) free h) }

    right : Right P σ converted
    right = all_right P σ fresh rs none_converted says (λ r m. absurd (List·Memᴰ·not-nil m)) taken_stand

    terminals_stand : (w : List ℕ) → Terminals w → (X : ℕ) → List·Memᴰ X w → σ X ≡ X ∷ []
    unfolding Terminals
    terminals_stand (Y ∷ w) t X (List·Memᴰ·head e) = terminal_stands X (omega (arith, e, t.0.0))
    terminals_stand (Y ∷ w) t X (List·Memᴰ·tail m) = terminals_stand w t.1 X m
    terminals_stand [] t X x'' = elim x'' [ ]

    same_by_records : (A : ℕ) → is_named_lem rs A ≡ true → (w : List ℕ) → Terminals w →
        Derives P (A ∷ []) w ↔ Derives Q (A ∷ []) w
    unfolding string_of
    same_by_records A n w t = (
      each_derives production_derives,
      λ d.
          let stands = production_record converted.written (λ B β. Derives P (σ B) (string_of σ β)) right in
          let e = standing_derives σ stands d in
          rw (named_stands A n, self_string σ w (terminals_stand w t)) at e,
    )

pub same_strings_lem : SameStrings
unfolding job_of walked
same_strings_lem longJob out s A n w t =
    let p = success_passes longJob out s in
    let rs = long_records_lem longJob in
    let (e, enough) = converts_written (length (free_in rs)) (next_free (free_in rs)) 0 rs none_converted (omega arith)
    p.second_walk in
    rw (records_left p, e) (same_by_records rs enough A n w t)
