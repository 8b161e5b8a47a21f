-- What the parts of the listing give, and what its walk down the reasons needs. Assumes nothing.
use Rattle.std.specs.Prelude.{◌≡◌, Bool, true, not, cond, ℕ, ◌+◌, ◌-◌, ◌*◌, ◌≤◌, ◌<◌, eqb, leb, length, get_or, set, drop}
use mathlib.Core.List.{List, [], ◌∷◌, ◌++◌, Memᴰ}
use Rattle.std.proofs.lemmas.List.Edits.{sets}
use Rattle.grammar.specs.Rule.{Rule}
use Rattle.grammar.specs.Counting.{count}
use Rattle.machine.specs.Table.{table_size, reasons_size, symbol_at}
use Rattle.job.specs.Format.{byte_e, byte_u, byte_p}
use Rattle.forms.specs.declared.Reason.{Reason}
use Rattle.forms.specs.declared.Reason.TheVariants.{Given, Empty, Unit, Pair}
use Rattle.forms.specs.Listing.{Listed, listing, reason_at_lem, premises, records_at, is_listed, visit, depth_bound}
use Rattle.forms.specs.Listing.{list_all_lem, byte_g}
use Rattle.forms.specs.Grounded.{DonePlace, ReasonFits, Grounded}

-- Forms and listings: the last five bytes of a record; the fifth is 0
abbrev pub five_bytes : Reason → List ℕ
five_bytes Given = byte_g ∷ 0 ∷ 0 ∷ 0 ∷ 0 ∷ []
five_bytes Empty = byte_e ∷ 0 ∷ 0 ∷ 0 ∷ 0 ∷ []
five_bytes (Unit X) = byte_u ∷ X ∷ 0 ∷ 0 ∷ 0 ∷ []
five_bytes (Pair B C m) = byte_p ∷ B ∷ C ∷ m ∷ 0 ∷ []

-- how many places are not listed yet
unfoldable pub unlisted_count : List ℕ → ℕ
unlisted_count t = count (λ p. not (is_listed t p)) table_size

-- what reading the reason of a place asks
pub record HasReason (rules : List Rule) (reasons : List ℕ) (p : ℕ) : Type 0 where
  pub within : p < table_size
  pub reasons_long_lem : reasons_size ≤ length reasons
  pub fits : ReasonFits rules (reason_at_lem reasons p)

-- the first of a list of places that is not listed, 65,536 where there is none
unfoldable pub first_unlisted_lem : List ℕ → List ℕ → ℕ
first_unlisted_lem t [] = table_size
first_unlisted_lem t (p ∷ ps) = cond (is_listed t p) (first_unlisted_lem t ps) p

-- what a pass of the listing has come to: the table with its marks, how many transitions are listed, and the listing
-- buffer
pub record ListingPass : Type 0 where
  pub table : List ℕ
  pub count : ℕ
  pub out : List ℕ

abbrev pub pass_of : List ℕ → ℕ → List ℕ → ListingPass
pass_of t n out = record { table = t; count = n; out = out }

-- nothing is listed yet on a table
abbrev pub fresh : List ℕ → Listed
fresh t = record { table = t; places = [] }

-- a listing after n records: more of them are counted and, if it writes, written
unfoldable pub shown : Bool → List Rule → List ℕ → ℕ → List ℕ → Listed → ListingPass
shown write rules reasons n out l =
    record {
      table = l.table;
      count = n + length l.places;
      out = cond write (sets out (8 * n) (records_at rules reasons l.places)) out;
    }

-- one more transition is listed
abbrev pub list_one_lem : Bool → List Rule → List ℕ → ℕ → ListingPass → ListingPass
list_one_lem write rules reasons p a = shown write rules reasons a.count a.out (listing p (fresh a.table))

-- a transition is listed after its premises
abbrev pub visit_one : Bool → List Rule → List ℕ → ℕ → ListingPass → ListingPass
visit_one write rules reasons p a =
    shown write rules reasons a.count a.out (visit depth_bound rules reasons p (fresh a.table))

-- if the pass writes, there is room for so many records
abbrev pub RoomFor : Bool → ℕ → List ℕ → Type 0
RoomFor write n out = write ≡ true → 8 * n ≤ length out

-- what a pass over these lists asks: full sizes, and reasons that lead down
pub record CanList (rules : List Rule) (reasons t : List ℕ) : Type 0 where
  pub long : table_size ≤ length t
  pub reasons_long_lem : reasons_size ≤ length reasons
  pub grounded : Grounded rules reasons t

-- what a visit asks besides: a done place, a path to walk on, no more listed than the table has places, and room for
-- what it lists
pub record CanVisit (write : Bool) (rules : List Rule) (reasons path : List ℕ) (p : ℕ) (a : ListingPass) : Type
    0 where
  pub listable : CanList rules reasons a.table
  pub is_done_lem' : DonePlace a.table p
  pub path_full : length path ≡ reasons_size
  pub counted : a.count + unlisted_count a.table ≤ table_size
  pub room :
      RoomFor write (a.count + length (visit depth_bound rules reasons p (fresh a.table)).places) a.out

-- where a walk stands: the pass, the path, and how long it is
pub record Walking : Type 0 where
  pub pass : ListingPass
  pub path : List ℕ
  pub depth : ℕ

abbrev pub walking_of : List ℕ → ℕ → List ℕ → List ℕ → ℕ → Walking
walking_of t n out path depth = record { pass = pass_of t n out; path = path; depth = depth }

-- the last place of the path
abbrev pub top_of : Walking → ℕ
top_of s = get_or s.path (s.depth - 1) 0

-- its first premise that is not listed
abbrev pub next_of : List Rule → List ℕ → Walking → ℕ
next_of rules reasons s = first_unlisted_lem s.pass.table (premises rules reasons (top_of s))

-- One move of a walk: the last place of its path is listed if each premise is; else the first premise that is not is
-- listed if it is a terminal's, and goes onto the path if it is a variable's.
unfoldable pub moved : Bool → List Rule → List ℕ → Walking → Walking
moved write rules reasons s =
    cond (eqb (next_of rules reasons s) table_size)
    (record { pass = list_one_lem write rules reasons (top_of s) s.pass; path = s.path; depth = s.depth - 1 })
    (cond (leb 32 (symbol_at (next_of rules reasons s)))
    (record {
      pass = list_one_lem write rules reasons (next_of rules reasons s) s.pass;
      path = s.path;
      depth =
          s.depth;
    })
    (record { pass = s.pass; path = set s.path s.depth (next_of rules reasons s); depth = s.depth + 1 }))

-- what a move asks: a path that ends at a done place and has room for a variable's premise, and room for a record
pub record CanMove (write : Bool) (rules : List Rule) (reasons : List ℕ) (s : Walking) : Type 0 where
  pub listable : CanList rules reasons s.pass.table
  pub deep : 0 < s.depth
  pub bounded : s.depth ≤ reasons_size
  pub top_done : DonePlace s.pass.table (top_of s)
  pub uncounted : s.pass.count < table_size
  pub room : RoomFor write (s.pass.count + 1) s.pass.out
  pub deeper : next_of rules reasons s < table_size → symbol_at (next_of rules reasons s) < 32 → s.depth < reasons_size

-- what listing a sequence of places asks: full sizes, reasons that lead down, done places, and room
pub record CanListAll (write : Bool) (rules : List Rule) (reasons t ps out : List ℕ) : Type 0 where
  pub listable : CanList rules reasons t
  pub done : (p : ℕ) → Memᴰ p ps → DonePlace t p
  pub room : RoomFor write (length (list_all_lem rules reasons t ps).places) out

-- the transitions of a sequence are listed, their records are counted and, if the pass writes, stand at the front of
-- the listing buffer
unfoldable pub pass_over : Bool → List Rule → List ℕ → List ℕ → List ℕ → List ℕ → ListingPass
pass_over write rules reasons t ps out =
    record {
      table = (list_all_lem rules reasons t ps).table;
      count = length (list_all_lem rules reasons t ps).places;
      out =
          cond write
          (records_at rules reasons (list_all_lem rules reasons t ps).places
          ++ drop (8 * length (list_all_lem rules reasons t ps).places) out)
          out;
    }
