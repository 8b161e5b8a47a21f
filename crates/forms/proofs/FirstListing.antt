-- Acceptance, the route and the listing read and write only the first 65,536 bytes and 32,768 reasons: they commute
-- with cutting what is lent down to these. Assumes nothing.
use Rattle.grammar.proofs.Basics.{◌≡◌, refl, ◌∙◌, sym, ap, ap₂, true, Bool, cond, List, ◌∷◌, [], ◌++◌, ℕ, ◌<◌, suc}
use Rattle.grammar.proofs.Basics.{List·Memᴰ·head, List·Memᴰ·tail, zero, eqb, leb, take, get_or-take, leb-false, cases}
use lib.Seq.{take-set-lt}
use Rattle.grammar.specs.Rule.{Rule}
use Rattle.machine.specs.Table.{table_size, reasons_size, from_state, symbol_at, to_state, reason_place_lem, done_at_lem}
use Rattle.machine.proofs.Tables.RuleRanges.{RulesInRange}
use Rattle.machine.proofs.Steps.FirstPart.{done_first}
use Rattle.machine.proofs.Tables.Places.{from_state_below, to_state_below, reason_place_below}
use Rattle.forms.specs.Acceptance.{SymbolsFit, can_finish, route}
use Rattle.forms.specs.Listing.{Listed, listing, in_turn, reason_at_lem, premises, reason_bytes_lem, listing_record, visit}
use Rattle.forms.specs.Listing.{depth_bound, list_all_lem, records_at}
use Rattle.forms.proofs.Routes.{route_done}
use Rattle.forms.specs.Inside.AcceptanceParts.{AgreeOn}
use Rattle.forms.proofs.Agreeing.{agree_on, finish_agree, route_agree}
use Rattle.forms.proofs.ListedPlaces.{Within, premises_within}

-- acceptance and the route
module _ (final : ℕ → Bool) (t : List ℕ) where
  on_first : (w : List ℕ) → SymbolsFit w → AgreeOn (done_at_lem t) (done_at_lem (take table_size t)) w
  on_first w fit = agree_on (done_at_lem t) (done_at_lem (take table_size t)) w (done_first t) fit

  pub can_finish_first : (w : List ℕ) (q : ℕ) → q < 32 → SymbolsFit w →
      can_finish final (done_at_lem t) w q ≡ can_finish final (done_at_lem (take table_size t)) w q
  can_finish_first w q l fit = finish_agree final _ (λ s k. refl) (done_at_lem t) _ w (on_first w fit) q l

  pub route_in_first : (w : List ℕ) (q : ℕ) → q < 32 → SymbolsFit w → can_finish final (done_at_lem t) w q ≡ true →
      route final (done_at_lem t) w q ≡ route final (done_at_lem (take table_size t)) w q
  route_in_first w q l fit e = route_agree final _ (λ s k. refl) (done_at_lem t) _ w (on_first w fit) q l e

  -- the route's places are in the first part
  pub route_within : (w : List ℕ) (q : ℕ) → q < 32 → SymbolsFit w → can_finish final (done_at_lem t) w q ≡ true →
      Within (route final (done_at_lem t) w q)
  route_within w q l fit e p m = (route_done final t w q l fit e p m).within

-- reasons that agree at a place say the same there
module _ (ρs : List Rule) (reasons rs : List ℕ) (p : ℕ) (same : reason_at_lem reasons p ≡ reason_at_lem rs p) where
  premises_alike : premises ρs reasons p ≡ premises ρs rs p
  unfolding premises
  premises_alike = rw same

  record_alike : listing_record ρs reasons p ≡ listing_record ρs rs p
  unfolding listing_record reason_bytes_lem
  record_alike = rw same

reason_first : (reasons : List ℕ) (p : ℕ) → p < table_size → reason_at_lem reasons p ≡ reason_at_lem (take reasons_size reasons) p
reason_first reasons p l =
    cases (leb 32 (symbol_at p))
    (λ t. rw t)
    (λ t.
    let below : reason_place_lem (from_state p) (symbol_at p) (to_state p) < reasons_size =
    reason_place_below (from_state p) (symbol_at p) (to_state p) (from_state_below p l) (leb-false 32 (symbol_at p) t)
    (to_state_below p) in
    rw (t, get_or-take reasons_size reasons _ 0 below))

pub records_first : (ρs : List Rule) (reasons ps : List ℕ) → Within ps →
    records_at ρs reasons ps ≡ records_at ρs (take reasons_size reasons) ps
unfolding records_at
records_first ρs reasons [] within = refl
records_first ρs reasons (p ∷ ps) within =
    ap₂ ◌++◌ (record_alike ρs reasons _ p (reason_first reasons p (within p (List·Memᴰ·head refl))))
    (records_first ρs reasons ps (λ q m. within q (List·Memᴰ·tail m)))

-- the listing: its marks in the first part, its places as they are
abbrev pub first_listed : Listed → Listed
first_listed l = record { table = take table_size l.table; places = l.places }

listing_first : (p : ℕ) → p < table_size → (l : Listed) → first_listed (listing p l) ≡ listing p (first_listed l)
listing_first p below l =
    λ i. record { table = take-set-lt table_size l.table p 3 below i; places = l.places ++ (p ∷ []) }

in_turn_first : (f g : ℕ → Listed → Listed) →
    ((p : ℕ) → p < table_size → (l : Listed) → first_listed (f p l) ≡ g p (first_listed l)) →
    (ps : List ℕ) → Within ps → (l : Listed) → first_listed (in_turn f ps l) ≡ in_turn g ps (first_listed l)
unfolding in_turn
in_turn_first f g same [] within l = refl
in_turn_first f g same (p ∷ ps) within l =
    in_turn_first f g same ps (λ q m. within q (List·Memᴰ·tail m)) (f p l)
    ∙ ap (in_turn g ps) (same p (within p (List·Memᴰ·head refl)) l)

cond_carried :
    {A B : Type 0} (f : A → B) {b b' : Bool} → b ≡ b' → (x y : A) {z : B} → f y ≡ z → f (cond b x y) ≡ cond b' (f x) z
cond_carried f {b} e x y h = cases b (λ t. rw (← e, t)) (λ t. rw (← e, t) h)

module _ (ρs : List Rule) (range : RulesInRange ρs) (reasons : List ℕ) where
  abbrev rs : List ℕ
  rs = take reasons_size reasons

  visit_first : (n : ℕ) (p : ℕ) → p < table_size → (l : Listed) →
      first_listed (visit n ρs reasons p l) ≡ visit n ρs rs p (first_listed l)
  unfolding visit
  visit_first zero p below l = refl
  visit_first (suc n) p below l =
      let rest : Listed = in_turn (visit n ρs reasons) (premises ρs reasons p) l in
      cond_carried first_listed (ap (λ b. eqb b 3) (sym (get_or-take table_size l.table p 0 below))) l (listing p rest)
      (listing_first p below rest
      ∙ ap (listing p)
      (in_turn_first (visit n ρs reasons) (visit n ρs rs) (λ q ql k. visit_first n q ql k) (premises ρs reasons p)
      (premises_within ρs range reasons p below) l
      ∙ ap (λ ps. in_turn (visit n ρs rs) ps (first_listed l))
      (premises_alike ρs reasons rs p (reason_first reasons p below))))

  pub list_all_first : (t ps : List ℕ) → Within ps →
      first_listed (list_all_lem ρs reasons t ps) ≡ list_all_lem ρs (take reasons_size reasons) (take table_size t) ps
  unfolding list_all_lem
  list_all_first t ps within =
      in_turn_first (visit depth_bound ρs reasons) (visit depth_bound ρs rs) (visit_first depth_bound) ps within
      (record { table = t; places = [] })
