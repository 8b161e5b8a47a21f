-- A visit is a run of listings: each of a done place that is not listed yet, below a turn, and of which every
-- premise is listed. What holds of visits follows by induction on the run. Assumes nothing.
use Rattle.grammar.proofs.Basics.{◌≡◌, refl, ◌∙◌, sym, ap, subst, ⊎_elim, true, false, List, ◌∷◌, [], List·Memᴰ}
use Rattle.grammar.proofs.Basics.{List·Memᴰ·head, List·Memᴰ·tail, List·Memᴰ·not-nil, List·Memᴰ·cases-cons, ℕ, ◌<◌, ◌≤◌}
use Rattle.grammar.proofs.Basics.{suc, zero, arith, eqb, length, get_or, set, length-set, get_or-set_other, get_or-set_same}
use Rattle.grammar.proofs.Basics.{eq-eqb, eqb-true, eqb-false, cases}
use Rattle.grammar.specs.Rule.{Rule}
use Rattle.machine.specs.Table.{table_size, turn_at_lem}
use Rattle.forms.specs.Listing.{Listed, listing, in_turn, premises, visit, is_listed, depth_bound}
use Rattle.forms.specs.Grounded.{DonePlace, Grounded}
use Rattle.forms.proofs.Visits.{bound_enough}

-- a done place that is not listed, and of which every premise is
pub record Due (ρs : List Rule) (reasons t now : List ℕ) (p : ℕ) : Type 0 where
  pub done : DonePlace t p
  pub unlisted : is_listed now p ≡ false
  pub behind : (q : ℕ) → List·Memᴰ q (premises ρs reasons p) → is_listed now q ≡ true

-- listings of done places, one after the other, of turns below a bound, on a table of full size
pub data Run {ρs : List Rule} {reasons t : List ℕ} (g : Grounded ρs reasons t) (bound : ℕ) (l : Listed) : Listed → Type
    0 where
  nothing : table_size ≤ length l.table → Run g bound l l
  more : {l' : Listed} (p : ℕ) → Run g bound l l' → Due ρs reasons t l'.table p → turn_at_lem reasons p < bound →
      Run g bound l (listing p l')

-- after one listing
pub listing_lists : (t : List ℕ) (p : ℕ) → p < length t → is_listed (set t p 3) p ≡ true
listing_lists t p h = eq-eqb _ 3 (get_or-set_same t p 3 0 h)

-- a byte of a table after a write, by whether it was written
pub set_cases :
    (P : ℕ → Type 0) (t : List ℕ) (p q v : ℕ) → p < length t → (q ≡ p → P v) → ((q ≡ p → ⊥) → P (get_or t q 0)) →
    P (get_or (set t p v) q 0)
set_cases P t p q v h here there =
    cases (eqb q p)
    (λ e.
    let same : q ≡ p = eqb-true q p e in
    subst P (sym (ap (λ k. get_or (set t p v) k 0) same ∙ get_or-set_same t p v 0 h)) (here same))
    (λ e. rw (get_or-set_other t p q v 0 (eqb-false q p e)) (there (eqb-false q p e)))

module _ {ρs : List Rule} {reasons t : List ℕ} {g : Grounded ρs reasons t} where
  -- runs join, and a run below a turn is one below a later one
  pub run_trans : {b : ℕ} {l l' l'' : Listed} → Run g b l l' → Run g b l' l'' → Run g b l l''
  run_trans r (Run.nothing long) = r
  run_trans r (Run.more p s d h) = Run.more p (run_trans r s) d h

  run_weaken : {b c : ℕ} {l l' : Listed} → b ≤ c → Run g b l l' → Run g c l l'
  run_weaken k (Run.nothing long) = Run.nothing long
  run_weaken k (Run.more p s d h) = Run.more p (run_weaken k s) d (omega arith)

  module _ {b : ℕ} {l : Listed} where
    pub run_length : {l' : Listed} → Run g b l l' → length l'.table ≡ length l.table
    run_length (Run.nothing long) = refl
    run_length (Run.more {l' = m} p s d h) = length-set m.table p 3 ∙ run_length s

    pub run_long : {l' : Listed} → Run g b l l' → table_size ≤ length l'.table
    run_long (Run.nothing long) = long
    run_long (Run.more {l' = m} p s d h) = omega (arith, length-set m.table p 3, run_long s)

    -- what is listed stays so, and what is higher stays as it is
    pub run_keeps :
        {l' : Listed} → Run g b l l' → (q : ℕ) → is_listed l.table q ≡ true → is_listed l'.table q ≡ true
    run_keeps (Run.nothing long) q e = e
    run_keeps (Run.more {l' = m} p s d h) q e =
        set_cases (λ b. eqb b 3 ≡ true) m.table p q 3 (omega (arith, run_long s, d.done.within)) (λ same. refl)
        (λ other. run_keeps s q e)

    pub run_leaves :
        {l' : Listed} → Run g b l l' → (q : ℕ) → b ≤ turn_at_lem reasons q → get_or l'.table q 0 ≡ get_or l.table q 0
    run_leaves (Run.nothing long) q k = refl
    run_leaves (Run.more {l' = m} p s d h) q k =
        get_or-set_other m.table p q 3 0 (λ e. omega (arith, ap (turn_at_lem reasons) e)) ∙ run_leaves s q k

module _ {ρs : List Rule} {reasons t : List ℕ} (g : Grounded ρs reasons t) where
  -- a run that lists a place
  abbrev Lists : ℕ → (Listed → Listed) → ℕ → Type 0
  Lists b f p = (l : Listed) → table_size ≤ length l.table → Run g b l (f l) × (is_listed (f l).table p ≡ true)

  -- such runs in turn are one that lists all the places
  in_turn_runs : (f : ℕ → Listed → Listed) (b : ℕ) (ps : List ℕ) → ((p : ℕ) → List·Memᴰ p ps → Lists b (f p) p) →
      (l : Listed) → table_size ≤ length l.table →
      Run g b l (in_turn f ps l) × ((q : ℕ) → List·Memᴰ q ps → is_listed (in_turn f ps l).table q ≡ true)
  unfolding in_turn
  in_turn_runs f b [] v l long = (Run.nothing long, λ q m. absurd (List·Memᴰ·not-nil m))
  in_turn_runs f b (p ∷ ps) v l long =
      let (first, lists) = v p (List·Memᴰ·head refl) l long in
      let (rest, all) = in_turn_runs f b ps (λ q m. v q (List·Memᴰ·tail m)) _ (run_long first) in (
        run_trans first rest,
        λ q m. ⊎_elim (λ e. run_keeps rest q (rw e lists)) (all q) (List·Memᴰ·cases-cons m),
      )

  -- a visit lists its place after its premises, which are lower
  pub visit_runs : (n b p : ℕ) → DonePlace t p → turn_at_lem reasons p < n → turn_at_lem reasons p < b →
      Lists b (visit n ρs reasons p) p
  unfolding visit
  visit_runs zero b p d h k l long = absurd (omega arith)
  visit_runs (suc n) b p d h k l long =
      let (run, all) = in_turn_runs _ _ _
      (λ q i.
      let low : turn_at_lem reasons q < turn_at_lem reasons p = g.premise_earlier p q d i in
      visit_runs n _ q (g.premise_done p q d i) (omega arith) low)
      l long in
      cases (is_listed l.table p) (λ e. rw e (Run.nothing long, e))
      (λ e.
      rw e (
        Run.more p (run_weaken (omega arith) run)
            (record { done = d; unlisted = ap (λ z. eqb z 3) (run_leaves run p (omega arith)) ∙ e; behind = all }) k,
        listing_lists (in_turn _ _ l).table p (omega (arith, run_long run, d.within)),
      ))

  -- done places visited in turn
  pub visits_run :
      (ps : List ℕ) → ((p : ℕ) → List·Memᴰ p ps → DonePlace t p) → (l : Listed) → table_size ≤ length l.table →
      Run g depth_bound l (in_turn (visit depth_bound ρs reasons) ps l)
      × ((q : ℕ) → List·Memᴰ q ps → is_listed (in_turn (visit depth_bound ρs reasons) ps l).table q ≡ true)
  visits_run ps done =
      in_turn_runs _ depth_bound ps
      (λ p m. let low = bound_enough g p (done p m) in visit_runs depth_bound depth_bound p (done p m) low low)
