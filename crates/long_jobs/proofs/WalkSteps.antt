-- The steps of the second walk over plain arguments: what one record makes of where the walk stands. Assumes nothing.
use Rattle.grammar.proofs.Basics.{◌≡◌, refl, ◌∙◌, sym, ap, ap₂, List, [], ◌∷◌, ℕ, ◌<◌, ◌≤◌, ◌+◌, ◌*◌, ◌%◌}
use Rattle.grammar.proofs.Basics.{add-one, arith, length, get_or, take, drop, drop-cons, drop_of_length-le}
use Rattle.grammar.proofs.Basics.{length-take-le, eqb, eqb-true, eqb-false, cases, lt-ltb, le-ltb}
use mathlib.Core.Path.{fun_ext}
use Rattle.std.specs.Prelude.{Ok, Err}
use Rattle.job.specs.declared.Cause.{Cause}
use Rattle.job.specs.declared.Cause.TheVariants.{TooFewVariables}
use Rattle.job.specs.declared.Refusal.{Refusal}
use Rattle.job.specs.Format.{records_of}
use Rattle.job.specs.Check.{count_rules, accepted}
use Rattle.job.specs.Refusals.{number_of, refused_by}
use Rattle.job.proofs.Refusals.{is_number, not_zero}
use Rattle.long_jobs.specs.declared.Progress.{Progress}
use Rattle.long_jobs.specs.declared.WalkState.{WalkState}
use Rattle.long_jobs.specs.Convert.{Conversion, convert}
use Rattle.long_jobs.specs.Fresh.{free_in}
use Rattle.long_jobs.specs.Walk.{convert_fault, fault_from, convert_all, none_converted, next_free, walked}
use Rattle.long_jobs.specs.Inside.Parts.{written_size, conversion_of, InFront, Reached, Underway}
use Rattle.long_jobs.specs.Inside.Parts.{refused_there, Stepped, WalkedTo}
use Rattle.long_jobs.proofs.LongRecords.{few_records}
use Rattle.long_jobs.proofs.Front.{unnamed_few}
use Rattle.long_jobs.proofs.Buffer.{first_counted}
use Rattle.long_jobs.proofs.AddedRules.{Added, front_kept, no_fewer, added_counted, convert_adds}

-- a record is converted
module _ (free i : ℕ) (fresh : ℕ → ℕ) (bytes : List ℕ) (s : WalkState) (out : List ℕ) (underway : Underway free i s out)
    (p : Progress) (out' : List ℕ)
    (reached : Reached s.progress p out' (convert fresh bytes (conversion_of s.progress out))) where
  abbrev before : Conversion
  before = conversion_of s.progress out

  abbrev after : Conversion
  after = convert fresh bytes before

  taken : p.taken ≡ after.taken
  taken = ap (λ c. c.taken) reached.is

  -- more variables are taken than are free
  pub stepped_too_far : free < p.taken → Stepped free i before after (Err (record { cause = TooFewVariables; place = i })) out'
  unfolding convert_fault
  stepped_too_far h =
      let found : 14 ≡ convert_fault free before after = rw (← taken, lt-ltb free p.taken h) in
      record { refusal = rw (← found); is = tt; underway = tt }

  module _ (early : i < 4096) where
    added : Added before.written after.written
    added = convert_adds fresh bytes before

    few_before : s.progress.count ≤ 4351
    few_before = omega (arith, underway.count_few, underway.rules_few)

    counted_before : length before.written ≡ s.progress.count
    counted_before = first_counted out s.progress.count (omega (arith, few_before, underway.out_size))

    within : 4 * p.count ≤ length out'
    within = omega (arith, few_before, reached.count_more, reached.out_size)

    counted_after : p.count ≡ length after.written
    counted_after = sym (first_counted out' p.count within) ∙ ap (λ c. length c.written) reached.is

    -- the part of the buffer that is looked at
    abbrev part : List ℕ
    part = take (4 * p.count) out'

    looked_at : records_of part ≡ after.written
    looked_at = ap (λ c. c.written) reached.is

    pub part_ready : ((length part % 4 ≡ 0) × (s.progress.count ≤ length (records_of part)))
        × ((s.rules ≡ count_rules (take s.progress.count (records_of part))) × (s.rules ≤ 256))
    part_ready =
        let whole : length part ≡ 4 * p.count = length-take-le (4 * p.count) out' within in
        let kept : take s.progress.count after.written ≡ before.written
        = ap (λ n. take n after.written) (sym counted_before) ∙ front_kept added in (
          (omega arith, rw looked_at (omega (arith, counted_before, no_fewer added))),
          (rw (looked_at, kept) underway.rules, underway.rules_few),
        )

    module _ (h : p.taken ≤ free) where
      -- what is found in the part is what refuses the record
      decided : (n : ℕ) → n ≡ fault_from s.progress.count (records_of part) → n ≡ convert_fault free before after
      unfolding convert_fault
      decided n fault = rw (← taken, le-ltb free p.taken h, counted_before, ← looked_at) fault

      pub stepped_refused : (cause : Cause) → number_of cause ≡ fault_from s.progress.count (records_of part) →
          Stepped free i before after (Err (record { cause = cause; place = i })) out'
      stepped_refused cause fault =
          record { refusal = rw (← decided _ fault, is_number cause); is = tt; underway = tt }

      pub stepped : (rules : ℕ) → 0 ≡ fault_from s.progress.count (records_of part) →
          rules ≡ count_rules (records_of part) → rules ≤ 256 →
          Stepped free i before after (Ok (record { progress = p; rules = rules })) out'
      stepped rules fault all few =
          let counted : rules ≡ count_rules after.written = rw (← looked_at) all in
          record {
            refusal = rw (← decided 0 fault);
            is = reached.is;
            underway = record {
              out_size = reached.out_size;
              free_few = underway.free_few;
              taken_few = h;
              rules = counted ∙ ap (λ d. count_rules d.written) (sym reached.is);
              rules_few = few;
              count_few = omega (
                arith,
                added_counted added,
                counted,
                counted_before,
                counted_after,
                underway.rules,
                underway.count_few,
              );
            };
          }

-- no number was found where nothing is refused
none_found : (n i : ℕ) → refused_there n i ≡ accepted → n ≡ 0
none_found n i e =
    cases (eqb n 0) (λ t. eqb-true n 0 t) (λ t. absurd (eqb-false n 0 t (ap (λ c. c.number) (rw t at e))))

-- one record of the definition's walk: it goes on past it, or is refused there
module _ (free : ℕ) (fresh : ℕ → ℕ) (i : ℕ) (r : List ℕ) (rs : List (List ℕ)) (c : Conversion) where
  converts_on : convert_fault free c (convert fresh r c) ≡ 0 →
      convert_all free fresh i (r ∷ rs) c ≡ convert_all free fresh (i + 1) rs (convert fresh r c)
  unfolding convert_all
  converts_on e = rw (e, add-one)

  refused_first : (k : Refusal) → refused_by k ≡ refused_there (convert_fault free c (convert fresh r c)) i →
      refused_by k ≡ (convert_all free fresh i (r ∷ rs) c).refusal
  unfolding convert_all
  refused_first k e =
      cases (eqb (convert_fault free c (convert fresh r c)) 0)
      (λ t. absurd (not_zero k.cause (ap (λ x. x.number) (rw t at e))))
      (λ t. rw t (rw t at e))

-- where the walk over a long job stands at record i
pub record Walking (rs : List (List ℕ)) (array : List ℕ) (free i : ℕ) (s : WalkState) (out : List ℕ) : Type 0 where
  pub underway : Underway free i s out
  pub rest : walked rs ≡ convert_all free (next_free array) i (drop i rs) (conversion_of s.progress out)

pub walking_none : (rs : List (List ℕ)) (array : List ℕ) (free : ℕ) (out : List ℕ) →
    InFront array free (free_in rs) → length out ≡ written_size →
    Walking rs array free 0 (record { progress = record { taken = 0; count = 0 }; rules = 0 }) out
unfolding walked records_of count_rules
walking_none rs array free out front size =
    record {
      underway = record {
        out_size = size;
        free_few = omega (arith, front.counted, unnamed_few rs 32);
        taken_few = omega arith;
        rules = refl;
        rules_few = omega arith;
        count_few = omega arith;
      };
      rest =
          ap₂ (λ n fresh. convert_all n fresh 0 rs none_converted) (sym front.counted)
          (sym (fun_ext front.alike));
    }

module _ (rs : List (List ℕ)) (array : List ℕ) (free i : ℕ) (s : WalkState) (out : List ℕ)
    (w : Walking rs array free i s out) where
  module _ (bytes : List ℕ) (out' : List ℕ) (h : i < length rs) (at : bytes ≡ get_or rs i []) where
    abbrev before' : Conversion
    before' = conversion_of s.progress out

    abbrev after' : Conversion
    after' = convert (next_free array) bytes before'

    here : walked rs ≡ convert_all free (next_free array) i (bytes ∷ drop (i + 1) rs) before'
    here = w.rest ∙ rw (drop-cons rs i [] h, at, add-one)

    pub walking_more : (s' : WalkState) → Stepped free i before' after' (Ok s') out' →
        Walking rs array free (i + 1) s' out'
    walking_more s' step =
        record {
          underway = step.underway;
          rest =
              here ∙ converts_on free (next_free array) i bytes _ _ (none_found _ i (sym step.refusal))
              ∙ ap (convert_all free (next_free array) (i + 1) (drop (i + 1) rs)) (sym step.is);
        }

    pub walked_refused : (r : Refusal) → Stepped free i before' after' (Err r) out' → length out' ≡ written_size →
        WalkedTo rs (Err r) out'
    walked_refused r step size =
        record {
          out_size = size;
          refusal = rw here (refused_first free (next_free array) i bytes _ _ r step.refusal);
          written = tt;
          few = tt;
        }

  pub walked_all : length rs ≤ i → i ≤ 4096 → WalkedTo rs (Ok s.progress.count) out
  unfolding convert_all
  walked_all h few =
      let u = w.underway in
      let c = conversion_of s.progress out in
      let end : walked rs ≡ record { refusal = accepted; written = c.written } = rw (w.rest, drop_of_length-le rs) in
      record {
        out_size = u.out_size;
        refusal = sym (ap (λ v. v.refusal) end);
        written = sym (ap (λ v. v.written) end);
        few = omega (arith, u.count_few, u.rules_few);
      }

-- what the second walk needs
pub ruleset steps = (few_records, walking_none, walking_more, walked_refused, walked_all, stepped_too_far, stepped_refused)
