-- The job of a text says the rules of its bodies and letters, and the start symbol 0; its rules are sorted as they
-- stand. Assumes nothing.
use Rattle.grammar.proofs.Basics.{◌≡◌, ◌↔◌, List, List·Memᴰ, Memᴰ·cast, Memᴰ·of-map, map, sym}
use mathlib.Core.List.Memᴰ
use Rattle.grammar.specs.Rule.{Rule}
use Rattle.job.specs.declared.JobRecord.{JobRecord}
use Rattle.job.specs.Format.{bytes_of}
use Rattle.job.specs.Job.{sorted_rules_lem, rule_of, field_of, job_of, job_of_records}
use Rattle.job.proofs.Bytes.{records_of_bytes}
use Rattle.abnf.specs.Text.{Line}
use Rattle.abnf_jobs.specs.Rules.{rules_of_lines, distinct_rules, records_of_lines}
use Rattle.abnf_jobs.proofs.DistinctRules.{ordered_member, ordered_sorted}
use Rattle.abnf_jobs.proofs.RuleOrigins.{lines_rules}

module _ (lines : List Line) where
  pub records_sorted : sorted_rules_lem (records_of_lines lines) ≡ distinct_rules lines
  unfolding records_of_lines sorted_rules_lem
  records_sorted = ordered_sorted (rules_of_lines lines) (lines_rules lines)

  pub written_rules : (job_of (bytes_of (records_of_lines lines))).rules ≡ map rule_of (distinct_rules lines)
  unfolding job_of job_of_records
  written_rules = rw (records_of_bytes (records_of_lines lines), records_sorted)

  pub written_start : (job_of (bytes_of (records_of_lines lines))).start ≡ 0
  unfolding job_of job_of_records field_of records_of_lines
  written_start = rw (records_of_bytes (records_of_lines lines))

  pub rule_written : (ρ : Rule) →
      List·Memᴰ ρ (job_of (bytes_of (records_of_lines lines))).rules
      ↔ ((r : JobRecord) × List·Memᴰ r (rules_of_lines lines) × (rule_of r ≡ ρ))
  rule_written ρ =
      rw written_rules (
        λ m.
            let (r, n, e) = Memᴰ·of-map rule_of (distinct_rules lines) m in
            (r, (ordered_member (rules_of_lines lines) r).0 n, e),
        λ (r, m, e). Memᴰ·cast (sym e) (Memᴰ.map rule_of ((ordered_member (rules_of_lines lines) r).1 m)),
      )
