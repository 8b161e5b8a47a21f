-- Visits and premises: a place all of whose premises are listed is listed next, and visiting the first premise that
-- is not listed before the place changes nothing, as the place's own visit begins so. Assumes nothing.
use Rattle.grammar.proofs.Basics.{◌≡◌, refl, ◌∙◌, sym, ap, true, false, cond, List, ◌∷◌, [], List·Memᴰ, List·Memᴰ·head}
use Rattle.grammar.proofs.Basics.{List·Memᴰ·tail, ℕ, ◌≤◌, arith, eqb, length, cases}
use Rattle.grammar.specs.Rule.{Rule}
use Rattle.machine.specs.Table.{table_size}
use Rattle.forms.specs.Listing.{Listed, listing, in_turn, premises, visit, is_listed, depth_bound}
use Rattle.forms.specs.Grounded.{DonePlace, Grounded}
use Rattle.forms.specs.Inside.ListingParts.{first_unlisted_lem}
use Rattle.forms.proofs.Visits.{visit_unfolds, bound_enough}
use Rattle.forms.proofs.Runs.{Due, visit_runs, run_keeps, run_leaves}
use Rattle.forms.proofs.Moves.{some_unlisted}

module _ {ρs : List Rule} {reasons t : List ℕ} (g : Grounded ρs reasons t) where
  -- a visit with the fuel of the definition
  abbrev pub visited : ℕ → Listed → Listed
  visited = visit depth_bound ρs reasons

  visited_unfolds : (p : ℕ) → DonePlace t p → (l : Listed) →
      visited p l ≡ cond (is_listed l.table p) l (listing p (in_turn visited (premises ρs reasons p) l))
  visited_unfolds p d = visit_unfolds g depth_bound p d (bound_enough g p d)

  -- what is listed is not visited again
  pub listed_again : (p : ℕ) → DonePlace t p → (l : Listed) → is_listed l.table p ≡ true → visited p l ≡ l
  listed_again p d l e = rw (visited_unfolds p d l, e)

  unlisted_unfolds : (p : ℕ) → DonePlace t p → (l : Listed) → is_listed l.table p ≡ false →
      visited p l ≡ listing p (in_turn visited (premises ρs reasons p) l)
  unlisted_unfolds p d l e = rw (visited_unfolds p d l, e)

  in_turn_listed :
      (ps : List ℕ) (l : Listed) → ((q : ℕ) → List·Memᴰ q ps → DonePlace t q × (is_listed l.table q ≡ true)) →
      in_turn visited ps l ≡ l
  unfolding in_turn
  in_turn_listed [] l each = refl
  in_turn_listed (p ∷ ps) l each =
      let (d, e) = each p (List·Memᴰ·head refl) in
      rw (listed_again p d l e) (in_turn_listed ps l (λ q m. each q (List·Memᴰ·tail m)))

  -- with each premise listed, a place is listed next
  pub premises_listed : {p : ℕ} (l : Listed) → Due ρs reasons t l.table p → visited p l ≡ listing p l
  premises_listed {p} l due =
      unlisted_unfolds p due.done l due.unlisted
      ∙ ap (listing p) (in_turn_listed _ l (λ q m. (g.premise_done p q due.done m, due.behind q m)))

  -- the first that is not listed may be visited before
  first_before :
      (ps : List ℕ) → ((q : ℕ) → List·Memᴰ q ps → DonePlace t q) → (l : Listed) → table_size ≤ length l.table →
      (first_unlisted_lem l.table ps ≡ table_size → ⊥) →
      in_turn visited ps (visited (first_unlisted_lem l.table ps) l) ≡ in_turn visited ps l
  unfolding in_turn first_unlisted_lem
  first_before [] each l long other = absurd (other refl)
  first_before (p ∷ ps) each l long other =
      let d = each p (List·Memᴰ·head refl) in
      let runs : (a : ℕ) (da : DonePlace t a) → _ =
      λ a da. visit_runs g depth_bound depth_bound a da (bound_enough g a da) (bound_enough g a da) l long in
      cases (is_listed l.table p)
      (λ e.
      let later : first_unlisted_lem l.table ps ≡ table_size → ⊥ = λ z. other (rw e z) in
      let a : ℕ = first_unlisted_lem l.table ps in
      let da = each a (List·Memᴰ·tail (some_unlisted l.table ps later).0) in
      rw (e, listed_again p d _ (run_keeps (runs a da).0 p e), listed_again p d l e)
      (first_before ps (λ q m. each q (List·Memᴰ·tail m)) l long later))
      (λ e. rw (e, listed_again p d _ (runs p d).1))

  pub premise_before :
      (p : ℕ) → DonePlace t p → (l : Listed) → is_listed l.table p ≡ false → table_size ≤ length l.table →
      (first_unlisted_lem l.table (premises ρs reasons p) ≡ table_size → ⊥) →
      visited p (visited (first_unlisted_lem l.table (premises ρs reasons p)) l) ≡ visited p l
  premise_before p d l e long other =
      let a : ℕ = first_unlisted_lem l.table (premises ρs reasons p) in
      let member = (some_unlisted l.table _ other).0 in
      let da = g.premise_done p a d member in
      let left = run_leaves
      (visit_runs g depth_bound _ a da (bound_enough g a da) (g.premise_earlier p a d member) l long).0 p
      (omega arith) in
      unlisted_unfolds p d _ (ap (λ z. eqb z 3) left ∙ e)
      ∙ ap (listing p) (first_before _ (λ q. g.premise_done p q d) l long other)
      ∙ sym (unlisted_unfolds p d l e)
