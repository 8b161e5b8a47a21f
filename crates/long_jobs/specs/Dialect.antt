-- Long bodies: twelve bytes a record, and what they hold. Assumes nothing.
use Rattle.std.specs.Prelude.{ℕ, zero, suc, ◌+◌, ◌/◌, min, Bool, true, cond, ◌&&◌, List, [], ◌∷◌, eqb, ltb, length, get_or, take, drop}
use Rattle.job.specs.declared.JobRecord.{JobRecord}

-- the first n records of a long job
unfoldable pub twelves : ℕ → List ℕ → List (List ℕ)
twelves zero longJob = []
twelves (suc n) longJob = take 12 longJob ∷ twelves n (drop 12 longJob)

-- Long bodies: a record is twelve bytes. Up to eleven bytes past the last whole record are none.
unfoldable pub long_records_lem : List ℕ → List (List ℕ)
long_records_lem longJob = twelves (length longJob / 12) longJob

-- the kind byte L
abbrev pub byte_l : ℕ
byte_l = 76

abbrev pub kind_of : List ℕ → ℕ
kind_of r = get_or r 0 0

abbrev pub is_long_lem : List ℕ → Bool
is_long_lem r = eqb (kind_of r) byte_l

-- Long bodies: an L record has the head, the length of the body, eight bytes for the body and a closing byte. A length
-- over 8, which is refused, is read as 8.
abbrev pub head_of : List ℕ → ℕ
head_of r = get_or r 1 0

abbrev pub length_byte : List ℕ → ℕ
length_byte r = get_or r 2 0

abbrev pub body_length_lem : List ℕ → ℕ
body_length_lem r = min (length_byte r) 8

abbrev pub body_of : List ℕ → List ℕ
body_of r = take (body_length_lem r) (drop 3 r)

-- Long bodies: any other record is one of a job, in the first four bytes
abbrev pub short_of : List ℕ → JobRecord
short_of r = record { kind = get_or r 0 0; first = get_or r 1 0; second = get_or r 2 0; third = get_or r 3 0 }

-- what stands past the body or past the four bytes, the closing byte included
abbrev pub padding_of : List ℕ → List ℕ
padding_of r = drop (cond (is_long_lem r) (3 + body_length_lem r) 4) r

-- each number of a list is below a bound
unfoldable pub all_below : ℕ → List ℕ → Bool
all_below n [] = true
all_below n (x ∷ xs) = ltb x n && all_below n xs
