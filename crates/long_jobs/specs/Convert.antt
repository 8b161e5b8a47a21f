-- Long bodies: what each record of a long job is written as. Assumes nothing.
use Rattle.std.specs.Prelude.{ℕ, suc, cond, List, [], ◌∷◌, ◌++◌}
use Rattle.job.specs.declared.JobRecord.{JobRecord}
use Rattle.job.specs.Job.{empty_record, unit_record, pair_record}
use Rattle.long_jobs.specs.Dialect.{is_long_lem, head_of, body_of, short_of}

-- how far a conversion is: how many of the free variables are taken, and the records written
pub record Conversion : Type 0 where
  pub taken : ℕ
  pub written : List JobRecord

-- one record more is written
abbrev pub write : JobRecord → Conversion → Conversion
write r c = record { taken = c.taken; written = c.written ++ (r ∷ []) }

-- the free variable that is next, where `fresh` gives the free variables in turn; and the conversion that has taken it
abbrev pub next : (ℕ → ℕ) → Conversion → ℕ
next fresh c = fresh c.taken

abbrev pub take_one : Conversion → Conversion
take_one c = record { taken = suc c.taken; written = c.written }

-- Long bodies: a body of none, one or two symbols is a rule's. A longer one is its first symbol and a variable that is
-- taken for the rest, its tail, which is split in turn.
unfoldable pub split : (ℕ → ℕ) → ℕ → List ℕ → Conversion → Conversion
split fresh A [] c = write (empty_record A) c
split fresh A (X ∷ []) c = write (unit_record A X) c
split fresh A (X ∷ Y ∷ []) c = write (pair_record A X Y) c
split fresh A (X ∷ Y ∷ Z ∷ β) c =
    split fresh (next fresh c) (Y ∷ Z ∷ β) (take_one (write (pair_record A X (next fresh c)) c))

-- Long bodies: an L record is split, any other record is written as it is
unfoldable pub convert : (ℕ → ℕ) → List ℕ → Conversion → Conversion
convert fresh r c = cond (is_long_lem r) (split fresh (head_of r) (body_of r) c) (write (short_of r) c)
