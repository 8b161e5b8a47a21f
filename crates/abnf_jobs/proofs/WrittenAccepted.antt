-- The job of a text passes the checks of the verdicts: S and then distinct rules in range, no more than 256 of them.
-- Assumes nothing.
use Rattle.grammar.proofs.Basics.{◌≡◌, refl, ap, false, List, ◌∷◌, [], ℕ, ◌≤◌, arith, List·Memᴰ·head, List·Memᴰ·tail}
use Rattle.grammar.proofs.Basics.{eqb, length, false≢true, true_and_false}
use Rattle.grammar.specs.Counting.{NoRepeat}
use Rattle.job.specs.declared.JobRecord.{JobRecord}
use Rattle.job.specs.Format.{bytes_of, bad_field_lem, byte_e, byte_u, byte_p, byte_i, byte_s}
use Rattle.job.specs.Check.{count_kind}
use Rattle.job.specs.Accepted.{Accepted}
use Rattle.job.specs.Job.{start_record}
use Rattle.job.proofs.Accepted.{accepted_check}
use Rattle.job.proofs.Bytes.{records_of_bytes, bytes_counted}
use Rattle.job.proofs.Insertion.{rules_counted}
use Rattle.long_jobs.proofs.RuleKinds.{for_rule}
use Rattle.long_jobs.proofs.Kept.{IsRule}
use Rattle.abnf.specs.Text.{Line}
use Rattle.abnf.specs.Reading.{lines_of}
use Rattle.abnf_jobs.specs.Rules.{rules_of_lines, distinct_rules, records_of_lines}
use Rattle.abnf_jobs.specs.Theorems.Written.{WrittenAccepted}
use Rattle.abnf_jobs.proofs.EveryMember.{Every, every_more}
use Rattle.abnf_jobs.proofs.Success.{success}
use Rattle.abnf_jobs.proofs.DistinctRules.{ordered_member, rules_once}
use Rattle.abnf_jobs.proofs.RuleOrigins.{lines_rules}
use Rattle.abnf_jobs.proofs.WrittenRules.{records_sorted}
use Rattle.abnf_jobs.proofs.RuleRange.{Fits, Numbered, rules_fit}
use Rattle.abnf_jobs.proofs.KnownNames.{names_known}
use Rattle.abnf_jobs.proofs.ByteCharacters.{characters_bytes}

-- rules are of no other kind
none_of_kind : (k : ℕ) → eqb byte_e k ≡ false → eqb byte_u k ≡ false → eqb byte_p k ≡ false → (rs : List JobRecord) →
    Every IsRule rs → count_kind k rs ≡ 0
unfolding count_kind
none_of_kind k e u p [] rules = refl
none_of_kind k e u p (r ∷ rs) rules =
    rw (
      for_rule (λ j. eqb j k ≡ false) r (rules r (List·Memᴰ·head refl)) e u p,
      none_of_kind k e u p rs (λ x m. rules x (List·Memᴰ·tail m)),
    )

start_fits : Fits (start_record 0)
unfolding bad_field_lem
start_fits = (omega arith, refl)

module _ (lines : List Line) (it : Numbered lines) (few : length (distinct_rules lines) ≤ 256) where
  are_rules : Every IsRule (distinct_rules lines)
  are_rules r m = lines_rules lines r ((ordered_member (rules_of_lines lines) r).0 m)

  records_fit : Every Fits (records_of_lines lines)
  unfolding records_of_lines
  records_fit = every_more Fits start_fits (λ r m. rules_fit it r ((ordered_member (rules_of_lines lines) r).0 m))

  records_accepted : Accepted false (bytes_of (records_of_lines lines))
  unfolding records_of_lines count_kind NoRepeat
  records_accepted =
      let rs = records_of_lines lines in
      let counted = bytes_counted rs in
      let read = records_of_bytes rs in
      record {
        within = omega arith;
        whole = omega arith;
        known = rw read (λ r m. (records_fit r m).0);
        fitting = rw read (λ r m. (records_fit r m).1);
        distinct = rw read (λ m. true_and_false (are_rules (start_record 0) m) refl, (rules_once lines).once);
        one_start = rw read (omega (arith, none_of_kind byte_s refl refl refl (distinct_rules lines) are_rules));
        one_initial = rw read (omega (arith, none_of_kind byte_i refl refl refl (distinct_rules lines) are_rules));
        initial_if_needed = λ t. absurd (false≢true t);
        few_rules = rw read (omega (arith, rules_counted rs, ap length (records_sorted lines)));
      }

pub written_accepted_lem : WrittenAccepted
written_accepted_lem e text map job s =
    let it = success e text map job s in
    let numbered : Numbered (lines_of e text) =
    record {
      variables = it.variables;
      characters = it.characters;
      known = names_known e text it.in_the_part it.names_fine;
      bytes = characters_bytes e text it.in_the_part;
    } in
    rw it.job_is (accepted_check (records_accepted (lines_of e text) numbered it.rules))
