-- The way to a listing: what is listed so far, with the places left visited in turn, comes to the whole. It is kept as
-- the first of them is visited, and as a place is listed whose turn it is. Assumes nothing.
use Rattle.grammar.proofs.Basics.{◌≡◌, ◌∙◌, ap, true, Bool, List, ◌∷◌, [], List·Memᴰ, ◌++◌, ℕ, ◌+◌, length}
use Rattle.grammar.specs.Rule.{Rule}
use Rattle.forms.specs.Listing.{Listed, in_turn, visit, is_listed, depth_bound}
use Rattle.forms.specs.Grounded.{DonePlace}
use Rattle.forms.specs.Inside.ListingParts.{fresh, shown, list_one_lem, visit_one, CanList, ListingPass}
use Rattle.forms.proofs.Visits.{bound_enough}
use Rattle.forms.proofs.Runs.{Due, Run, run_trans, run_length, run_long, visit_runs, visits_run}
use Rattle.forms.proofs.RunLaws.{grounded_kept}
use Rattle.forms.proofs.Passes.{shows_on, shown_out_length, visit_after}
use Rattle.forms.proofs.Premises.{visited, premises_listed}

-- a table, and what was listed on it
abbrev pub listed_by : ListingPass → List ℕ → Listed
listed_by a places = record { table = a.table; places = places }

-- a pass that began as b is at a
pub record Way (write : Bool) {ρs : List Rule} {reasons : List ℕ} (b : ListingPass)
    (can : CanList ρs reasons b.table) (final : Listed) (rest : List ℕ) (a : ListingPass) : Type 0 where
  pub places : List ℕ
  pub run : Run can.grounded depth_bound (fresh b.table) (listed_by a places)
  pub to_come : in_turn (visit depth_bound ρs reasons) rest (listed_by a places) ≡ final
  pub stands : a ≡ shown write ρs reasons b.count b.out (listed_by a places)

module _ {write : Bool} {ρs : List Rule} {reasons : List ℕ} {b : ListingPass} {can : CanList ρs reasons b.table}
    {final : Listed} {rest : List ℕ} {a : ListingPass} (way : Way write b can final rest a) where
  -- the listing so far
  abbrev pub now : Listed
  now = listed_by a way.places

  -- lengths do not change, and the places are counted
  pub table_kept : length a.table ≡ length b.table
  table_kept = run_length way.run

  pub out_kept : length a.out ≡ length b.out
  out_kept = ap (λ z. length z.out) way.stands ∙ shown_out_length write ρs reasons b.count b.out now

  pub counted_so_far : a.count ≡ b.count + length way.places
  unfolding shown
  counted_so_far = ap (λ z. z.count) way.stands

  pub can_now : CanList ρs reasons a.table
  can_now =
      record { long = run_long way.run; reasons_long_lem = can.reasons_long_lem; grounded = grounded_kept way.run }

  -- the rest of the way
  pub rest_runs : ((p : ℕ) → List·Memᴰ p rest → DonePlace b.table p) →
      Run can.grounded depth_bound now final × ((q : ℕ) → List·Memᴰ q rest → is_listed final.table q ≡ true)
  rest_runs done = rw way.to_come at (visits_run can.grounded rest done now (run_long way.run))

  -- a place listed whose turn it is
  pub lists_one : {p : ℕ} {rest' : List ℕ} → Due ρs reasons b.table a.table p →
      in_turn (visited can.grounded) rest' (visited can.grounded p now) ≡ final →
      Way write b can final rest' (list_one_lem write ρs reasons p a)
  unfolding shown
  lists_one {p} due comes =
      record {
        places = way.places ++ (p ∷ []);
        run = Run.more p way.run due (bound_enough can.grounded p due.done);
        to_come = rw (premises_listed can.grounded now due) at comes;
        stands = shows_on write ρs reasons b.count b.out now _ a way.stands;
      }

-- the first of the rest visited
pub visits_one :
    {write : Bool} {ρs : List Rule} {reasons : List ℕ} {b : ListingPass} {can : CanList ρs reasons b.table}
    {final : Listed} {p : ℕ} {rest : List ℕ} {a : ListingPass} → DonePlace b.table p →
    Way write b can final (p ∷ rest) a → Way write b can final rest (visit_one write ρs reasons p a)
unfolding shown in_turn
visits_one {write} {ρs} {reasons} {b} {can} {p = p} {a = a} d way =
    let one : Listed = visit depth_bound ρs reasons p _ in
    let low = bound_enough can.grounded p d in
    let goes_on = visit_after depth_bound ρs reasons p (now way) in
    record {
      places = way.places ++ one.places;
      run = rw goes_on at
          (run_trans way.run
          (visit_runs can.grounded depth_bound depth_bound p d low low (now way) (run_long way.run)).0);
      to_come = rw goes_on at way.to_come;
      stands = shows_on write ρs reasons b.count b.out (now way) one a way.stands;
    }
