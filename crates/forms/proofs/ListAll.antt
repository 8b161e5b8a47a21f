-- A pass over a sequence is on the way to the whole listing with the places from the i-th on left to visit; each visit
-- may be made, as the rest of the sequence only lists more. Assumes nothing.
use Rattle.grammar.proofs.Basics.{◌≡◌, refl, ◌∙◌, ap, true, false, Bool, cond, List, [], List·Memᴰ, ◌++◌}
use Rattle.grammar.proofs.Basics.{Memᴰ·append-right, ℕ, ◌<◌, suc, ◌*◌, zero-add, arith, length, get_or, take, drop}
use Rattle.grammar.proofs.Basics.{drop-cons, drop-length}
use lib.ListN.{take-append-drop}
use lib.Seq.{sets-eq}
use Rattle.grammar.specs.Rule.{Rule}
use Rattle.machine.specs.Table.{reasons_size}
use Rattle.forms.specs.Listing.{Listed, in_turn, records_at, list_all_lem}
use Rattle.forms.specs.Grounded.{DonePlace}
use Rattle.forms.specs.Inside.ListingParts.{CanVisit, CanListAll, RoomFor, ListingPass, pass_of, shown, visit_one}
use Rattle.forms.specs.Inside.ListingParts.{pass_over}
use Rattle.grammar.proofs.NoRepeat.{member_at}
use Rattle.forms.proofs.Runs.{Run}
use Rattle.forms.proofs.RunLaws.{run_places, run_counts, unlisted_bound, done_kept}
use Rattle.forms.proofs.Passes.{records_length}
use Rattle.forms.proofs.Walks.{Way, out_kept, counted_so_far, can_now, rest_runs, visits_one}
use Rattle.forms.proofs.WalkStarts.{nothing_shown}

-- a whole pass from the front of the buffer
shown_whole :
    (write : Bool) (ρs : List Rule) (reasons out : List ℕ) (l : Listed) → RoomFor write (length l.places) out →
    shown write ρs reasons 0 out l
    ≡ pass_of l.table (length l.places)
    (cond write (records_at ρs reasons l.places ++ drop (8 * length l.places) out) out)
unfolding shown
shown_whole true ρs reasons out l room =
    let size = records_length ρs reasons l.places in
    simp (zero-add, sets-eq (records_at ρs reasons l.places) out 0 (omega (arith, room refl)), size)
shown_whole false ρs reasons out l room = rw zero-add

-- a pass over the sequence
module _
    {write : Bool} {ρs : List Rule} {reasons t ps out : List ℕ} (can : CanListAll write ρs reasons t ps out)
  where
    -- the places from i on are left
    abbrev pub Passing : ℕ → ListingPass → Type 0
    Passing i a = Way write (pass_of t 0 out) can.listable (list_all_lem ρs reasons t ps) (drop i ps) a

    pub pass_begins : Passing 0 (pass_of t 0 out)
    unfolding list_all_lem
    pass_begins =
        record {
          places = [];
          run = Run.nothing can.listable.long;
          to_come = refl;
          stands = nothing_shown write ρs reasons _;
        }

    -- the next place
    module _ {i : ℕ} (h : i < length ps) {a : ListingPass} (way : Passing i a) {p : ℕ} (next : p ≡ get_or ps i 0) where
      pub next_done : DonePlace t p
      next_done = rw next (can.done _ (member_at 0 ps i h))

      pub pass_goes_on : Passing (suc i) (visit_one write ρs reasons p a)
      pass_goes_on = visits_one next_done (rw (drop-cons ps i 0 h, ← next) at way)

      pub may_visit : (path : List ℕ) → length path ≡ reasons_size → CanVisit write ρs reasons path p a
      unfolding shown
      may_visit path full =
          record {
            listable = can_now way;
            is_done_lem' = done_kept way.run p next_done;
            path_full = full;
            counted = omega (arith, counted_so_far way, run_counts way.run, unlisted_bound t);
            room = λ w.
                omega (
                  arith,
                  can.room w,
                  out_kept way,
                  counted_so_far pass_goes_on,
                  run_places (rest_runs pass_goes_on (λ q m. can.done q (in_drop m))).0,
                );
          }
        where
          in_drop : {q : ℕ} → List·Memᴰ q (drop (suc i) ps) → List·Memᴰ q ps
          in_drop m = rw (take-append-drop (suc i) ps) at (Memᴰ·append-right (take (suc i) ps) m)

    -- what the whole pass leaves
    pub pass_ends : {i : ℕ} {a : ListingPass} → i ≡ length ps → Passing i a → a ≡ pass_over write ρs reasons t ps out
    unfolding pass_over in_turn
    pass_ends e way =
        way.stands
        ∙ ap (shown write ρs reasons 0 out) (rw (e, drop-length ps) at way.to_come)
        ∙ shown_whole write ρs reasons out _ can.room
