-- Long bodies: what a long job with long bodies means. Assumes nothing.
use Rattle.std.specs.Prelude.{◌≡◌, true, ℕ}
use mathlib.Core.List.{List, Memᴰ}
use Rattle.grammar.specs.Rule.{head, body}
use Rattle.job.specs.Format.{is_rule_lem}
use Rattle.job.specs.Job.{rule_of}
use Rattle.long_jobs.specs.Dialect.{is_long_lem, head_of, body_of, short_of}

-- Long bodies: an L record is a production with its body, and the records of a job's rules are those rules
pub data LongProductions (rs : List (List ℕ)) : ℕ → List ℕ → Type 0 where
  of_long : (r : List ℕ) → Memᴰ r rs → is_long_lem r ≡ true → LongProductions rs (head_of r) (body_of r)
  of_short : (r : List ℕ) → Memᴰ r rs → is_rule_lem (short_of r) ≡ true →
      LongProductions rs (head (rule_of (short_of r))) (body (rule_of (short_of r)))
