-- A visit underway: the places of the walk's path are left to visit, last first. Each move keeps that, can be made,
-- and leaves less, as it lists a place or goes down. Assumes nothing.
use Rattle.grammar.proofs.Basics.{◌≡◌, refl, ◌∙◌, ap, ⊎_elim, false, Bool, List, ◌∷◌, List·Memᴰ, List·Memᴰ·head}
use Rattle.grammar.proofs.Basics.{List·Memᴰ·cases-cons, ℕ, ◌<◌, ◌+◌, ◌-◌, ◌*◌, arith, eqb, leb, length, set}
use Rattle.grammar.proofs.Basics.{length-set, eqb-true, eqb-false, leb-true, leb-false, cases}
use Rattle.grammar.specs.Rule.{Rule}
use Rattle.machine.specs.Table.{table_size, reasons_size, symbol_at, turn_at_lem}
use Rattle.forms.specs.Listing.{Listed, in_turn, premises, visit, is_listed, depth_bound}
use Rattle.forms.specs.Grounded.{DonePlace, Grounded}
use Rattle.forms.specs.Inside.ListingParts.{unlisted_count, CanVisit, ListingPass, fresh, shown, list_one_lem}
use Rattle.forms.specs.Inside.ListingParts.{visit_one, Walking, top_of, next_of, moved, CanMove}
use Rattle.forms.proofs.ReasonLaws.{terminal_no_premise}
use Rattle.forms.proofs.Runs.{Due, run_long}
use Rattle.forms.proofs.RunLaws.{listing_counts, run_counts, run_grows, done_kept}
use Rattle.forms.proofs.Moves.{none_unlisted, some_unlisted}
use Rattle.forms.proofs.Premises.{visited, premise_before}
use Rattle.forms.proofs.WalkPath.{Link, Chain, chain_link, chain_top, chain_rest, chain_kept, chain_fits}
use Rattle.forms.proofs.WalkPath.{on_path, path_length, path_top, path_grows}
use Rattle.forms.proofs.Walks.{Way, listed_by, out_kept, counted_so_far, can_now, rest_runs, lists_one}

-- a visit of p that began with the pass a stands at s
pub record Underway (write : Bool) (ρs : List Rule) (reasons : List ℕ) (p : ℕ) (a : ListingPass) (s : Walking) : Type
    0 where
  pub first_path : List ℕ
  pub can : CanVisit write ρs reasons first_path p a
  pub way :
      Way write a can.listable (visit depth_bound ρs reasons p (fresh a.table)) (on_path s.path s.depth)
      s.pass
  pub path_full : length s.path ≡ reasons_size
  pub chain : Chain (turn_at_lem reasons) a.table s.pass.table (on_path s.path s.depth)

-- a measure of what is left
abbrev pub left_of : List ℕ → ℕ → ℕ
left_of t d = unlisted_count t * 32769 + (32768 - d)

module _
    {write : Bool} {ρs : List Rule} {reasons : List ℕ} {p : ℕ} {a : ListingPass} {s : Walking}
    (u : Underway write ρs reasons p a s)
  where
    abbrev g : Grounded ρs reasons a.table
    g = u.can.listable.grounded

    abbrev final : Listed
    final = visited g p (fresh a.table)

    -- what is listed so far, the path, its last place, and that place's first premise that is not listed
    abbrev so_far : Listed
    so_far = listed_by s.pass u.way.places

    abbrev on : List ℕ
    on = on_path s.path s.depth

    abbrev last : ℕ
    last = top_of s

    abbrev next : ℕ
    next = next_of ρs reasons s

    abbrev Linked : List ℕ → Type 0
    Linked = Chain (turn_at_lem reasons) a.table s.pass.table

    -- where a move may lead
    abbrev MovedTo : Walking → Type 0
    MovedTo s' =
        Underway write ρs reasons p a s'
        × (left_of s'.pass.table s'.depth < left_of s.pass.table s.depth)

    -- at the end of the path all is listed
    pub arrives : s.depth ≡ 0 → s.pass ≡ visit_one write ρs reasons p a
    unfolding on_path in_turn
    arrives e = u.way.stands ∙ ap (shown write ρs reasons a.count a.out) (rw e at u.way.to_come)

    -- while it is not used up: its last place, and the rest
    module _ (deep : 0 < s.depth) where
      abbrev behind : List ℕ
      behind = on_path s.path (s.depth - 1)

      path_is : on ≡ last ∷ behind
      path_is = path_top s.path s.depth deep

      split : Linked (last ∷ behind)
      split = rw path_is at u.chain

      top : Link (turn_at_lem reasons) a.table s.pass.table last behind
      top = chain_top split

      comes : in_turn (visited g) behind (visited g last so_far) ≡ final
      unfolding in_turn
      comes = rw path_is at u.way.to_come

      -- a place listed whose turn it is
      lists : (x d : ℕ) → Due ρs reasons a.table s.pass.table x →
          in_turn (visited g) (on_path s.path d) (visited g x so_far) ≡ final →
          ((q : ℕ) → List·Memᴰ q (on_path s.path d) → q ≡ x → ⊥) → Linked (on_path s.path d) →
          MovedTo (record { pass = list_one_lem write ρs reasons x s.pass; path = s.path; depth = d })
      unfolding shown
      lists x d due to_come other chain = (
        record {
          first_path = u.first_path;
          can = u.can;
          way = lists_one u.way due to_come;
          path_full = u.path_full;
          chain = chain_kept x other chain;
        },
        omega (arith, listing_counts s.pass.table x due.done.within (run_long u.way.run) due.unlisted),
      )

      -- the first premise that is not listed
      module _ (other : next ≡ table_size → ⊥) where
        next_is : List·Memᴰ next (premises ρs reasons last) × (is_listed s.pass.table next ≡ false)
        next_is = some_unlisted _ _ other

        next_done : DonePlace a.table next
        next_done = g.premise_done last next top.done next_is.0

        -- visited before the last place, it changes nothing
        comes_after : in_turn (visited g) on (visited g next so_far) ≡ final
        unfolding in_turn
        comes_after =
            rw path_is
            (ap (in_turn (visited g) behind)
            (premise_before g last top.done so_far top.unlisted (run_long u.way.run) other)
            ∙ comes)

        -- a variable's goes onto the path
        longer : symbol_at next < 32 → Linked (next ∷ on)
        longer v =
            Chain.link {ps = on}
            (record {
              done = next_done;
              is_variable_lem = v;
              unlisted = next_is.1;
              lowest = λ q m.
                  let below = g.premise_earlier last next top.done next_is.0 in
                  ⊎_elim (λ e. rw e below) (λ k. omega (arith, top.lowest q k))
                  (List·Memᴰ·cases-cons (rw path_is at m));
            })
            u.chain

        has_room : symbol_at next < 32 → s.depth < reasons_size
        has_room v = omega (arith, chain_fits (longer v), path_length s.path s.depth)

        moves_down : symbol_at next < 32 →
            MovedTo (record { pass = s.pass; path = set s.path s.depth next; depth = s.depth + 1 })
        unfolding in_turn
        moves_down v =
            let room = has_room v in
            let grown = path_grows s.path s.depth next (omega (arith, u.path_full)) in (
              record {
                first_path = u.first_path;
                can = u.can;
                way =
                    record {
                      places = u.way.places;
                      run = u.way.run;
                      to_come = rw grown comes_after;
                      stands = u.way.stands;
                    };
                path_full = length-set s.path s.depth next ∙ u.path_full;
                chain = rw grown (longer v);
              },
              omega arith,
            )

      pub moves : {s' : Walking} → s' ≡ moved write ρs reasons s → MovedTo s'
      unfolding moved
      moves go =
          rw go
          (cases (eqb next table_size)
          (λ e. rw e
          (lists last _
          (record {
            done = top.done;
            unlisted = top.unlisted;
            behind = none_unlisted _ _ (eqb-true _ table_size e) (λ q m. (g.premise_done last q top.done m).within);
          })
          comes (λ q m same. omega (arith, top.lowest q m, ap (turn_at_lem reasons) same)) (chain_rest split)))
          (λ e.
          let other = eqb-false next table_size e in
          cases (leb 32 (symbol_at next))
          (λ h.
          let terminal = leb-true 32 (symbol_at next) h in
          rw (e, h)
          (lists next s.depth
          (record {
            done = next_done other;
            unlisted = (next_is other).1;
            behind = λ q m. absurd (terminal_no_premise ρs reasons _ terminal q m);
          })
          (comes_after other) (λ q m same. omega (arith, (chain_link u.chain q m).1, ap symbol_at same)) u.chain))
          (λ h. rw (e, h) (moves_down other (leb-false 32 (symbol_at next) h)))))

      -- the rest of the way lists the last place, among others
      one_more : length u.way.places < length final.places
      one_more =
          let (run, all) = rest_runs u.way (λ q m. (chain_link u.chain q m).0) in
          run_grows run last top.unlisted (all last (rw path_is (List·Memᴰ·head refl)))

      pub may_move : CanMove write ρs reasons s
      may_move =
          record {
            listable = can_now u.way;
            deep = deep;
            bounded = omega (arith, chain_fits u.chain, path_length s.path s.depth);
            top_done = done_kept u.way.run last top.done;
            uncounted =
                omega (
                  arith,
                  u.can.counted,
                  counted_so_far u.way,
                  run_counts u.way.run,
                  listing_counts s.pass.table last top.done.within (run_long u.way.run) top.unlisted,
                );
            room = λ w. omega (arith, u.can.room w, one_more, counted_so_far u.way, out_kept u.way);
            deeper = λ within. has_room (λ e. omega arith);
          }
