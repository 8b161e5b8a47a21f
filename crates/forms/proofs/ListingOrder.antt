-- Visits list places in turn: what carries the mark is what is listed, so a visit does nothing or lists its place after
-- its premises. By induction on the fuel; what follows of the order, by induction on the listing. Assumes nothing.
use Rattle.grammar.proofs.Basics.{◌≡◌, refl, ◌∙◌, ⊎_elim, inl, inr, ◌⊎◌, false, List, ◌∷◌, [], List·Memᴰ, ◌++◌}
use Rattle.grammar.proofs.Basics.{List·Memᴰ·head, List·Memᴰ·tail, List·Memᴰ·eq-of-singleton, List·Memᴰ·append-cases}
use Rattle.grammar.proofs.Basics.{Memᴰ·append-left, Memᴰ·append-right, ℕ, ◌<◌, suc, zero, arith, eq-eqb, length}
use Rattle.grammar.proofs.Basics.{length-append, cases, true_and_false}
use lib.ListN.{get_or-append}
use lib.Seq.{get_or-append_seam}
use Rattle.grammar.specs.Rule.{Rule}
use Rattle.machine.specs.Table.{table_size, turn_at_lem}
use Rattle.forms.specs.Listing.{Listed, in_turn, premises, visit, is_listed, depth_bound}
use Rattle.forms.specs.Grounded.{DonePlace, Grounded}
use Rattle.forms.specs.Inside.ListingParts.{fresh}
use Rattle.forms.specs.Theorems.ListingOrder.{ListsInTurn, RestsOn, StandsBefore, FirstPremiseFirst}
use Rattle.forms.proofs.Distinct.{index_of}
use Rattle.forms.proofs.Visits.{bound_enough}
use Rattle.forms.proofs.Runs.{Run, run_trans, run_long, visit_runs}
use Rattle.forms.proofs.RunOrder.{listed_marked, marked_listed}

-- a place that is listed stands before one behind, and more behind changes nothing
stands_last : (l : List ℕ) (x y : ℕ) → List·Memᴰ x l → StandsBefore (l ++ (y ∷ [])) x y
stands_last l x y m =
    let (i, low, e) = index_of m in (
      i,
      length l,
      low,
      omega (arith, length-append l (y ∷ [])),
      get_or-append l _ 0 i low ∙ e,
      get_or-append_seam l y [] 0,
    )

stands_longer : (l l' : List ℕ) (x y : ℕ) → StandsBefore l x y → StandsBefore (l ++ l') x y
stands_longer l l' x y (i, j, low, high, e, f) = (
  i,
  j,
  low,
  omega (arith, length-append l l'),
  get_or-append l l' 0 i (omega arith) ∙ e,
  get_or-append l l' 0 j high ∙ f,
)

module _ {premisesOf : ℕ → List ℕ} where
  -- what is listed stays
  listed_stays : {before ps after : List ℕ} → ListsInTurn premisesOf before ps after →
      (q : ℕ) → List·Memᴰ q before → List·Memᴰ q after
  listed_stays ListsInTurn.none q m = m
  listed_stays (ListsInTurn.again i rest) q m = listed_stays rest q m
  listed_stays (ListsInTurn.new i under rest) q m =
      listed_stays rest q (Memᴰ·append-left _ (listed_stays under q m))

  -- and what is new is one of the places, or such a one rests on it
  pub listed_rests : {before ps after : List ℕ} → ListsInTurn premisesOf before ps after →
      (q : ℕ) → List·Memᴰ q after →
      List·Memᴰ q before ⊎ ((p : ℕ) × List·Memᴰ p ps × RestsOn premisesOf p q)
  listed_rests ListsInTurn.none q m = inl m
  listed_rests (ListsInTurn.again i rest) q m =
      ⊎_elim inl (λ r. inr (r.0, List·Memᴰ·tail r.1, r.2)) (listed_rests rest q m)
  listed_rests (ListsInTurn.new {behind = behind} {p = p} i under rest) q m =
      ⊎_elim
      (λ k. ⊎_elim
      (λ k. ⊎_elim inl (λ r. inr (p, List·Memᴰ·head refl, RestsOn.through r.1 r.2)) (listed_rests under q k))
      (λ k. let same : q ≡ p = List·Memᴰ·eq-of-singleton k in inr (p, List·Memᴰ·head refl, rw same RestsOn.itself))
      (List·Memᴰ·append-cases behind k))
      (λ r. inr (r.0, List·Memᴰ·tail r.1, r.2))
      (listed_rests rest q m)

  second_after : {before after : List ℕ} (x y : ℕ) → ListsInTurn premisesOf before (x ∷ y ∷ []) after →
      (List·Memᴰ x before → ⊥) → (List·Memᴰ y before → ⊥) → (RestsOn premisesOf x y → ⊥) → StandsBefore after x y
  second_after x y (ListsInTurn.again i rest) nx ny apart = absurd (nx i)
  second_after x y (ListsInTurn.new {behind = behind} i under (ListsInTurn.again j ListsInTurn.none)) nx ny apart =
      ⊎_elim
      (λ k. ⊎_elim (λ k. absurd (ny k)) (λ r. absurd (apart (RestsOn.through r.1 r.2))) (listed_rests under y k))
      (λ k. let same : y ≡ x = List·Memᴰ·eq-of-singleton k in absurd (apart (rw same RestsOn.itself)))
      (List·Memᴰ·append-cases behind j)
  second_after x y
      (ListsInTurn.new {behind = behind} i under (ListsInTurn.new {behind = next} j below ListsInTurn.none)) nx ny apart =
      stands_last next x y (listed_stays below x (Memᴰ·append-right behind (List·Memᴰ·head refl)))

pub first_premise_first_lem : FirstPremiseFirst
unfolding FirstPremiseFirst
first_premise_first_lem premisesOf before after p x y (ListsInTurn.again i rest) np e nx ny apart = absurd (np i)
first_premise_first_lem premisesOf before after p x y (ListsInTurn.new {behind = behind} i under ListsInTurn.none) np e nx
    ny apart =
    stands_longer behind _ x y (second_after x y (rw e at under) nx ny apart)

-- visits from a table on which nothing was listed
module _ {ρs : List Rule} {reasons t : List ℕ} (g : Grounded ρs reasons t)
    (none : (p : ℕ) → p < table_size → is_listed t p ≡ false) where
  -- a listing so far
  abbrev SoFar : Listed → Type 0
  SoFar l = Run g depth_bound (fresh t) l

  -- a visit lists its place first, and then whatever follows
  abbrev Next : ℕ → (Listed → Listed) → Type 0
  Next p f =
      (l : Listed) → SoFar l →
      SoFar (f l)
      × ((ps after : List ℕ) → ListsInTurn (premises ρs reasons) (f l).places ps after →
      ListsInTurn (premises ρs reasons) l.places (p ∷ ps) after)

  in_turn_lists : (f : ℕ → Listed → Listed) (ps : List ℕ) → ((p : ℕ) → List·Memᴰ p ps → Next p (f p)) →
      (l : Listed) → SoFar l → ListsInTurn (premises ρs reasons) l.places ps (in_turn f ps l).places
  unfolding in_turn
  in_turn_lists f [] v l run = ListsInTurn.none
  in_turn_lists f (p ∷ ps) v l run =
      let (run', next) = v p (List·Memᴰ·head refl) l run in
      next ps _ (in_turn_lists f ps (λ q m. v q (List·Memᴰ·tail m)) (f p l) run')

  visit_lists : (n p : ℕ) → DonePlace t p → turn_at_lem reasons p < n → Next p (visit n ρs reasons p)
  unfolding visit
  visit_lists zero p d h l run = absurd (omega arith)
  visit_lists (suc n) p d h l run = (
    run_trans run (visit_runs g (suc n) depth_bound p d h (bound_enough g p d) l (run_long run)).0,
    λ ps after rest.
        cases (is_listed l.table p)
        (λ e. ListsInTurn.again (marked_listed none run p d.within e) (rw e at rest))
        (λ e. ListsInTurn.new (λ m. true_and_false (eq-eqb _ 3 (listed_marked run p m)) e)
        (in_turn_lists (visit n ρs reasons) (premises ρs reasons p)
        (λ q i.
        let low : turn_at_lem reasons q < turn_at_lem reasons p = g.premise_earlier p q d i in
        visit_lists n q (g.premise_done p q d i) (omega arith))
        l run)
        (rw e at rest)),
  )

  pub visits_in_turn : (ps : List ℕ) → ((p : ℕ) → List·Memᴰ p ps → DonePlace t p) → {l : Listed} → SoFar l →
      ListsInTurn (premises ρs reasons) l.places ps (in_turn (visit depth_bound ρs reasons) ps l).places
  visits_in_turn ps done {l} run =
      in_turn_lists (visit depth_bound ρs reasons) ps
      (λ p m. visit_lists depth_bound p (done p m) (bound_enough g p (done p m))) l run
