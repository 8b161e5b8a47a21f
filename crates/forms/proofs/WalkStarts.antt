-- The ways into a visit's loop and around it: a listed place, a terminal's, and a variable's, from where the walk sets
-- out. Assumes nothing.
use Rattle.grammar.proofs.Basics.{◌≡◌, ◌∙◌, ap, true, false, Bool, List, ◌∷◌, [], List·Memᴰ·not-nil, ℕ, ◌<◌, ◌≤◌, ◌+◌}
use Rattle.grammar.proofs.Basics.{add-zero, arith, length, set, length-set}
use Rattle.grammar.specs.Rule.{Rule}
use Rattle.machine.specs.Table.{table_size, symbol_at}
use Rattle.forms.specs.Listing.{listing, in_turn, records_at, visit, depth_bound, is_listed}
use Rattle.forms.specs.Inside.ListingParts.{HasReason, CanVisit, RoomFor, ListingPass, fresh, shown, list_one_lem}
use Rattle.forms.specs.Inside.ListingParts.{visit_one}
use Rattle.forms.proofs.Runs.{Run}
use Rattle.forms.proofs.RunLaws.{listing_counts}
use Rattle.forms.proofs.Moves.{has_reason}
use Rattle.forms.proofs.ReasonLaws.{terminal_no_premise}
use Rattle.forms.proofs.Premises.{visited, listed_again, premises_listed}
use Rattle.forms.proofs.WalkPath.{Chain, on_path, path_grows}
use Rattle.forms.proofs.WalkMoves.{Underway}

-- a pass shows nothing listed
pub nothing_shown : (write : Bool) (ρs : List Rule) (reasons : List ℕ) (a : ListingPass) →
    a ≡ shown write ρs reasons a.count a.out (fresh a.table)
unfolding shown records_at
nothing_shown true ρs reasons a = rw add-zero
nothing_shown false ρs reasons a = rw add-zero

module _
    {write : Bool} {ρs : List Rule} {reasons path : List ℕ} {p : ℕ} {a : ListingPass}
    (v : CanVisit write ρs reasons path p a)
  where
    pub already_listed : is_listed a.table p ≡ true → a ≡ visit_one write ρs reasons p a
    already_listed e = rw (listed_again v.listable.grounded p v.is_done_lem' _ e) (nothing_shown write ρs reasons a)

    -- not listed
    module _ (e : is_listed a.table p ≡ false) where
      module _ (h : 32 ≤ symbol_at p) where
        terminal_visited : visit depth_bound ρs reasons p (fresh a.table) ≡ listing p (fresh a.table)
        terminal_visited =
            premises_listed v.listable.grounded _
            (record {
              done = v.is_done_lem';
              unlisted = e;
              behind = λ q m. absurd (terminal_no_premise ρs reasons p h q m);
            })

        pub terminal_shown : list_one_lem write ρs reasons p a ≡ visit_one write ρs reasons p a
        terminal_shown = rw terminal_visited

        -- and may be listed
        pub terminal_may : ((p < length a.table) × (a.count < table_size) × HasReason ρs reasons p)
            × RoomFor write (a.count + 1) a.out
        terminal_may = (
          (
            omega (arith, v.listable.long, v.is_done_lem'.within),
            omega (arith, v.counted, listing_counts a.table p v.is_done_lem'.within v.listable.long e),
            has_reason v.listable v.is_done_lem',
          ),
          λ w. rw terminal_visited at (v.room w),
        )

      pub sets_out :
          symbol_at p < 32 → Underway write ρs reasons p a (record { pass = a; path = set path 0 p; depth = 1 })
      unfolding on_path in_turn
      sets_out h =
          let path_is : on_path (set path 0 p) 1 ≡ p ∷ [] = path_grows path 0 p (omega (arith, v.path_full)) in
          record {
            first_path = path;
            can = v;
            way =
                record {
                  places = [];
                  run = Run.nothing v.listable.long;
                  to_come = ap (λ ps. in_turn (visited v.listable.grounded) ps (fresh a.table)) path_is;
                  stands = nothing_shown write ρs reasons a;
                };
            path_full = length-set path 0 p ∙ v.path_full;
            chain = rw path_is
                (Chain.link
                (record {
                  done = v.is_done_lem';
                  is_variable_lem = h;
                  unlisted = e;
                  lowest = λ q m. absurd (List·Memᴰ·not-nil m);
                })
                Chain.end);
          }
