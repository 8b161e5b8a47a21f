-- What the order of the records does not change, nor records that are no rules. Assumes nothing.
use Rattle.std.specs.Prelude.{◌≡◌, Bool, false, List, ℕ}
use Rattle.job.specs.declared.Limits.{Limits}
use Rattle.job.specs.Format.{ClassTable, field_classes}
use Rattle.job.specs.Check.{check_of, job_check, accepted}
use Rattle.job.specs.Job.{job_of}
use Rattle.job.specs.Order.{SameRecords, SameGrammar}

-- of two jobs with the same records each is accepted if the other is, whether an I is needed or not
abbrev pub AcceptedAlike : Type 0
AcceptedAlike =
    (classes : ClassTable) (limits : Limits) (needed : Bool) (a b : List ℕ) → SameRecords a b →
    check_of classes limits needed a ≡ accepted → check_of classes limits needed b ≡ accepted

-- and the two say the same
abbrev pub SameJob : Type 0
SameJob =
    (limits : Limits) (a b : List ℕ) → SameRecords a b → check_of field_classes limits false a ≡ accepted →
    job_of a ≡ job_of b

-- two accepted jobs with the same grammar say the same rules, in the same order, and the same start symbol
abbrev pub SameRules : Type 0
SameRules =
    (a b : List ℕ) → job_check false a ≡ accepted → job_check false b ≡ accepted → SameGrammar a b →
    ((job_of a).rules ≡ (job_of b).rules) × ((job_of a).start ≡ (job_of b).start)
