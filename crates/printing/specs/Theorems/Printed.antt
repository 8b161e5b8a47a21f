-- Some outputs, as people read them. Assumes nothing.
use Rattle.std.specs.Prelude.{◌≡◌, true, false, ℕ, List, [], ◌∷◌}
use Prim.Native.Char.{code}
use Rattle.spelling.specs.Words.{ascii, decimal}
use Rattle.printing.specs.Outputs.{report_output_lem, codes_output_lem, explain_output_lem}

-- a listing of four records: a given transition, and one by each kind of rule
abbrev pub four_records : List ℕ
four_records =
    0 ∷ 32 ∷ 1 ∷ code "G" ∷ 0 ∷ 0 ∷ 0 ∷ 0
    ∷ 0 ∷ 0 ∷ 1 ∷ code "U" ∷ 32 ∷ 0 ∷ 0 ∷ 0
    ∷ 2 ∷ 5 ∷ 2 ∷ code "E" ∷ 0 ∷ 0 ∷ 0 ∷ 0
    ∷ 0 ∷ 1 ∷ 2 ∷ code "P" ∷ 0 ∷ 1 ∷ 1 ∷ 0
    ∷ []

-- The report program: what is printed, as people read it
pub record AsPrinted : Type 0 where
  pub largest : decimal 18446744073709551615 ≡ ascii "18446744073709551615"
  pub reported :
      report_output_lem
      (record {
        number = 0;
        place = 0;
        states = 3;
        examined = 11;
        joins = 8;
        start = true;
        empty = false;
        growing = true;
      })
      ≡ ascii "states 3\nexamined 11\njoins 8\nstart yes\nempty no\ngrowing yes\n"
  pub refused : codes_output_lem 2 16385 [] ≡ ascii "refused 2 at 16385\n"
  pub coded : codes_output_lem 0 0 (1 ∷ 3 ∷ 0 ∷ []) ≡ ascii "0 1\n1 3\n2 0\n"
  pub explained :
      explain_output_lem 0 0 true 4 four_records
      ≡ ascii "accepted yes\nrecords 4\n0 32 1 given\n0 0 1 by 0 -> 32\n2 5 2 by 5 -> empty\n0 1 2 by 1 -> 0 1 at 1\n"
  pub not_accepted : explain_output_lem 0 0 false 0 four_records ≡ ascii "accepted no\nrecords 0\n"
