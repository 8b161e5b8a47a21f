-- The theorems on a listing: a listing is a run from a fresh table, so they follow from what runs leave. Assumes
-- nothing.
use Rattle.grammar.proofs.Basics.{◌≡◌, refl, ◌∙◌, ap, ⊎_elim, true, Bool, List, ◌∷◌, [], List·Memᴰ, List·Memᴰ·not-nil}
use Rattle.grammar.proofs.Basics.{ℕ, ◌<◌, ◌≤◌, ◌+◌, suc, zero, ◌*◌, arith, eqb, length, get_or, take, drop, ext_get_or}
use Rattle.grammar.proofs.Basics.{take_at, eqb-true, eqb-false, cases}
use lib.Seq.{drop-append-add}
use Rattle.grammar.specs.Rule.{Rule}
use Rattle.machine.specs.Table.{table_size, done_count_lem, statuses, given_reason, turn_at_lem, each}
use Rattle.machine.proofs.Tables.Each.{length_each, get_or_each_0}
use Rattle.forms.specs.Listing.{reason_at_lem, reason_middle, premises, reason_bytes_lem, listing_record, records_at, is_listed}
use Rattle.forms.specs.Listing.{depth_bound, list_all_lem, unmarked}
use Rattle.forms.specs.Grounded.{DonePlace}
use Rattle.forms.specs.Inside.ListingParts.{fresh}
use Rattle.forms.specs.Theorems.ListingOrder.{ListsInTurn}
use Rattle.forms.specs.Theorems.ListingTheorems.{Listable, IsListing, RecordSays, RecordsSay, TrueReasons}
use Rattle.forms.specs.Theorems.ListingTheorems.{DepthBoundNeverMet}
use Rattle.forms.proofs.ReasonLaws.{rank_below, record_length}
use Rattle.forms.proofs.Visits.{fuel_enough, bound_enough}
use Rattle.forms.proofs.Runs.{Run, run_length, visits_run}
use Rattle.forms.proofs.RunLaws.{run_marks, run_lists_done}
use Rattle.forms.proofs.RunOrder.{listed_marked, unlisted_kept, places_apart, marked_listed, premises_before}
use Rattle.forms.proofs.ListingOrder.{listed_rests, visits_in_turn}
use Rattle.forms.proofs.Unmarking.{unmarked_other, unmarked_three}
use Rattle.grammar.proofs.NoRepeat.{member_at}
use Rattle.forms.proofs.Distinct.{distinct_counted}

-- the listing as a run
module _ {ρs : List Rule} {reasons t ps : List ℕ} (c : Listable ρs reasons t ps) where
  listing_run : Run c.grounded depth_bound (fresh t) (list_all_lem ρs reasons t ps)
      × ((p : ℕ) → List·Memᴰ p ps → is_listed (list_all_lem ρs reasons t ps).table p ≡ true)
  unfolding list_all_lem
  listing_run = visits_run c.grounded ps c.done (fresh t) c.long

  listed_done : (p : ℕ) → List·Memᴰ p (list_all_lem ρs reasons t ps).places → DonePlace t p
  listed_done p m = ⊎_elim (λ i. absurd (List·Memᴰ·not-nil i)) (λ d. d) (run_lists_done listing_run.0 p m)

  at_most : length (list_all_lem ρs reasons t ps).places ≤ done_count_lem (statuses t)
  unfolding done_count_lem statuses
  at_most =
      distinct_counted _ table_size _
      (places_apart listing_run.0) (λ p m. (listed_done p m).within) (λ p m. (listed_done p m).is_done_lem')

  in_turn_lem : ListsInTurn (premises ρs reasons) [] ps (list_all_lem ρs reasons t ps).places
  unfolding list_all_lem
  in_turn_lem = visits_in_turn c.grounded c.none_listed ps c.done (Run.nothing c.long)

  pub listing_is_right_lem : IsListing ρs reasons t ps (list_all_lem ρs reasons t ps)
  listing_is_right_lem =
      let (run, all) = listing_run in
      record {
        once = places_apart run;
        premises_first = premises_before c.none_listed run;
        in_turn_lem = in_turn_lem;
        needed = λ q m. ⊎_elim (λ i. absurd (List·Memᴰ·not-nil i)) (λ r. r) (listed_rests in_turn_lem q m);
        sequence = λ p m. marked_listed c.none_listed run p (c.done p m).within (all p m);
        only_done = listed_done;
        at_most = at_most;
        size = run_length run;
        marked = listed_marked run;
        others = unlisted_kept run;
      }

  pub marks_taken_back_lem : each unmarked 0 (list_all_lem ρs reasons t ps).table ≡ t
  marks_taken_back_lem =
      let t' : List ℕ = (list_all_lem ρs reasons t ps).table in
      ext_get_or 0 _ t (length_each unmarked 0 t' ∙ run_length listing_run.0)
      (λ k h. get_or_each_0 unmarked t' k (omega (arith, length_each unmarked 0 t'))
      ∙ ⊎_elim
      (λ e. rw e (unmarked_other k _ (c.none_listed k)))
      (λ m. ap (unmarked k) m.0
      ∙ unmarked_three k _ m.1.within m.1.is_done_lem' (c.none_listed k m.1.within))
      (run_marks listing_run.0 k))

-- the record of the i-th place
record_at_lem :
    (ρs : List Rule) (reasons ps : List ℕ) (i : ℕ) → i < length ps →
    take 8 (drop (8 * i) (records_at ρs reasons ps)) ≡ listing_record ρs reasons (get_or ps i 0)
unfolding records_at
record_at_lem ρs reasons [] i h = absurd (omega arith)
record_at_lem ρs reasons (p ∷ ps) zero h =
    take_at _ _ 8 (record_length ρs reasons p)
record_at_lem ρs reasons (p ∷ ps) (suc i) h =
    let start : 8 * suc i ≡ length (listing_record ρs reasons p) + 8 * i = omega (arith, record_length ρs reasons p) in
    rw (start, drop-append-add _ _ _)
    (record_at_lem ρs reasons ps i (omega arith))

-- a record says that its transition is given, or by which rule it is there
module _ {ρs : List Rule} {given : ℕ → ℕ → ℕ → Bool} {s : ℕ} {reasons t ps : List ℕ} (c : Listable ρs reasons t ps)
    (true-reasons : TrueReasons ρs given s reasons t) where
  record_says : (p : ℕ) → DonePlace t p → RecordSays ρs given s p (listing_record ρs reasons p) (premises ρs reasons p)
  unfolding listing_record reason_bytes_lem premises
  record_says p d =
      cases
      (eqb (reason_at_lem reasons p) given_reason)
      (λ e.
      rw e (RecordSays.says_given (true-reasons.is_given p d (eqb-true _ given_reason e)) refl
      refl))
      (λ e.
      let other = eqb-false (reason_at_lem reasons p) given_reason e in
      rw e
      (RecordSays.says_rule _ (reason_middle (reason_at_lem reasons p))
      (rank_below ρs _ (c.grounded.reason p d) other).1 (omega arith)
      (true-reasons.head_is p d other) (true-reasons.stays p d other) refl refl))

  pub records_are_right_lem : RecordsSay ρs given s reasons (list_all_lem ρs reasons t ps).places
      (records_at ρs reasons (list_all_lem ρs reasons t ps).places)
  records_are_right_lem i h =
      let places : List ℕ = (list_all_lem ρs reasons t ps).places in
      rw (record_at_lem ρs reasons places i h) (record_says _ (listed_done c _ (member_at 0 places i h)))

pub depth_bound_never_met_lem : DepthBoundNeverMet
unfolding DepthBoundNeverMet
depth_bound_never_met_lem ρs reasons t g n enough p d l =
    let low : turn_at_lem reasons p < depth_bound = bound_enough g p d in
    fuel_enough g n depth_bound p d (omega arith) low l
