-- The path of a walk, last place first: turns rise along it, so no place stands on it twice, and as all are
-- variables' it fits its array. Assumes nothing.
use Rattle.grammar.proofs.Basics.{◌≡◌, refl, ◌∙◌, ap, ap₂, ⊎_elim, false, List, ◌∷◌, [], List·Memᴰ, List·Memᴰ·head}
use Rattle.grammar.proofs.Basics.{List·Memᴰ·tail, List·Memᴰ·not-nil, List·Memᴰ·cases-cons, Memᴰ·of-map, ℕ, ◌<◌, ◌≤◌}
use Rattle.grammar.proofs.Basics.{◌+◌, suc, ◌-◌, zero, add-one, arith, eqb, length, get_or, set, length-map}
use Rattle.grammar.proofs.Basics.{get_or-set_other, get_or-set_same}
use Rattle.grammar.specs.Counting.{NoRepeat}
use Rattle.grammar.proofs.NoRepeat.{no_repeat_map}
use Rattle.machine.specs.Table.{reasons_size, from_state, symbol_at, to_state, table_place, reason_place_lem, reason_state}
use Rattle.machine.specs.Table.{reason_variable}
use Rattle.machine.proofs.Tables.Places.{to_state_below, place_of_parts, reason_state_place, reason_variable_place}
use Rattle.machine.proofs.Tables.Places.{to_state_reason_place}
use Rattle.forms.specs.Listing.{is_listed}
use Rattle.forms.specs.Grounded.{DonePlace}
use Rattle.forms.proofs.Distinct.{no_more_than}

-- a place of a path: done, a variable's, not listed, and lower than those before it
pub record Link (turn : ℕ → ℕ) (t now : List ℕ) (p : ℕ) (ps : List ℕ) : Type 0 where
  pub done : DonePlace t p
  pub is_variable_lem : symbol_at p < 32
  pub unlisted : is_listed now p ≡ false
  pub lowest : (q : ℕ) → List·Memᴰ q ps → turn p < turn q

pub data Chain (turn : ℕ → ℕ) (t now : List ℕ) : List ℕ → Type 0 where
  end : Chain turn t now []
  link : {p : ℕ} {ps : List ℕ} → Link turn t now p ps → Chain turn t now ps → Chain turn t now (p ∷ ps)

module _ {turn : ℕ → ℕ} {t now : List ℕ} where
  chain_apart : {ps : List ℕ} → Chain turn t now ps → NoRepeat ps
  unfolding NoRepeat
  chain_apart Chain.end = tt
  chain_apart (Chain.link {p = p} a c) =
      (λ m. let low : turn p < turn p = a.lowest p m in omega arith, chain_apart c)

  pub chain_link : {ps : List ℕ} → Chain turn t now ps → (q : ℕ) → List·Memᴰ q ps → DonePlace t q × (symbol_at q < 32)
  chain_link Chain.end q m = absurd (List·Memᴰ·not-nil m)
  chain_link (Chain.link a c) q m =
      ⊎_elim (λ e. rw e (a.done, a.is_variable_lem)) (λ m'. chain_link c q m') (List·Memᴰ·cases-cons m)

  pub chain_top : {p : ℕ} {ps : List ℕ} → Chain turn t now (p ∷ ps) → Link turn t now p ps
  chain_top (Chain.link a c) = a

  pub chain_rest : {p : ℕ} {ps : List ℕ} → Chain turn t now (p ∷ ps) → Chain turn t now ps
  chain_rest (Chain.link a c) = c

  -- another place's mark leaves the path as it is
  pub chain_kept : (x : ℕ) {ps : List ℕ} → ((q : ℕ) → List·Memᴰ q ps → q ≡ x → ⊥) → Chain turn t now ps →
      Chain turn t (set now x 3) ps
  chain_kept x other Chain.end = Chain.end
  chain_kept x other (Chain.link {p = p} a c) =
      Chain.link
      (record {
        done = a.done;
        is_variable_lem = a.is_variable_lem;
        unlisted = ap (λ z. eqb z 3) (get_or-set_other now x p 3 0 (other p (List·Memᴰ·head refl))) ∙ a.unlisted;
        lowest = a.lowest;
      })
      (chain_kept x (λ q m. other q (List·Memᴰ·tail m)) c)

  -- a path is no longer than there are transitions of variables
  pub chain_fits : {ps : List ℕ} → Chain turn t now ps → length ps ≤ reasons_size
  chain_fits {ps} c =
      omega (
        arith,
        no_more_than reasons_size _
            (no_repeat_map at ps
            (λ p q m k e. rw (back p (chain_link c p m), back q (chain_link c q k)) at (ap from e)) (chain_apart c))
            (λ i m. let (p, k, e) = Memᴰ·of-map at ps m in rw (← e) (inside p (chain_link c p k))),
        length-map ps at,
      )
    where
      at : ℕ → ℕ
      at p = reason_place_lem (from_state p) (symbol_at p) (to_state p)

      from : ℕ → ℕ
      from r = table_place (reason_state r) (reason_variable r) (to_state r)

      back : (p : ℕ) → DonePlace t p × (symbol_at p < 32) → from (at p) ≡ p
      back p d =
          let v : symbol_at p < 32 = d.1 in
          let below = to_state_below p in
          rw (reason_state_place, reason_variable_place, to_state_reason_place) (place_of_parts p d.0.within)

      inside : (p : ℕ) → DonePlace t p × (symbol_at p < 32) → at p < reasons_size
      inside p d = omega arith

-- the path in its array
unfoldable pub on_path : List ℕ → ℕ → List ℕ
on_path path zero = []
on_path path (suc d) = get_or path d 0 ∷ on_path path d

pub path_length : (path : List ℕ) (d : ℕ) → length (on_path path d) ≡ d
unfolding on_path
path_length path zero = refl
path_length path (suc d) = ap suc (path_length path d)

-- its last place, and the rest
pub path_top : (path : List ℕ) (d : ℕ) → 0 < d → on_path path d ≡ get_or path (d - 1) 0 ∷ on_path path (d - 1)
unfolding on_path
path_top path zero h = absurd (omega arith)
path_top path (suc d) h = ap (λ k. get_or path k 0 ∷ on_path path k) (omega arith)

-- a place put behind it
path_kept : (path : List ℕ) (i x d : ℕ) → d ≤ i → on_path (set path i x) d ≡ on_path path d
unfolding on_path
path_kept path i x zero h = refl
path_kept path i x (suc d) h =
    ap₂ ◌∷◌ (get_or-set_other path i d x 0 (λ e. omega arith)) (path_kept path i x d (omega arith))

pub path_grows : (path : List ℕ) (d x : ℕ) → d < length path → on_path (set path d x) (d + 1) ≡ x ∷ on_path path d
unfolding on_path
path_grows path d x h = rw add-one (ap₂ ◌∷◌ (get_or-set_same path d x 0 h) (path_kept path d x d (omega arith)))
