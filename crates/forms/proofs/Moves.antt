-- The first premise that is not listed, and the three moves that it decides. Assumes nothing.
use Rattle.grammar.proofs.Basics.{◌≡◌, refl, ◌∙◌, sym, ⊎_elim, true, false, Bool, List, ◌∷◌, [], List·Memᴰ}
use Rattle.grammar.proofs.Basics.{List·Memᴰ·head, List·Memᴰ·tail, List·Memᴰ·not-nil, List·Memᴰ·cases-cons, ℕ, ◌<◌, ◌≤◌}
use Rattle.grammar.proofs.Basics.{◌+◌, ◌-◌, arith, length, set, eq-eqb, ne_eqb, le-leb, lt-leb, cases}
use Rattle.grammar.specs.Rule.{Rule}
use Rattle.machine.specs.Table.{table_size, symbol_at}
use Rattle.forms.specs.Listing.{is_listed}
use Rattle.forms.specs.Grounded.{DonePlace}
use Rattle.forms.specs.Inside.ListingParts.{HasReason, CanList, CanMove, RoomFor, first_unlisted_lem, ListingPass}
use Rattle.forms.specs.Inside.ListingParts.{list_one_lem, Walking, top_of, next_of, moved}

-- none is left: all are listed
pub none_unlisted : (t ps : List ℕ) → first_unlisted_lem t ps ≡ table_size → ((q : ℕ) → List·Memᴰ q ps → q < table_size) →
    (q : ℕ) → List·Memᴰ q ps → is_listed t q ≡ true
unfolding first_unlisted_lem
none_unlisted t [] e within q m = absurd (List·Memᴰ·not-nil m)
none_unlisted t (p ∷ ps) e within q m =
    cases (is_listed t p)
    (λ h. ⊎_elim (λ s. rw s h) (none_unlisted t ps (rw h at e) (λ r i. within r (List·Memᴰ·tail i)) q)
    (List·Memᴰ·cases-cons m))
    (λ h. let found : p ≡ table_size = rw h at e in absurd (omega (arith, within p (List·Memᴰ·head refl))))

-- one is left: it is one of them, and not listed
pub some_unlisted : (t ps : List ℕ) → (first_unlisted_lem t ps ≡ table_size → ⊥) →
    List·Memᴰ (first_unlisted_lem t ps) ps × (is_listed t (first_unlisted_lem t ps) ≡ false)
unfolding first_unlisted_lem
some_unlisted t [] other = absurd (other refl)
some_unlisted t (p ∷ ps) other =
    cases (is_listed t p)
    (λ h. rw h (let rest = some_unlisted t ps (λ e. other (rw h e)) in (List·Memᴰ·tail rest.0, rest.1)))
    (λ h. rw h (List·Memᴰ·head refl, h))

pub has_reason :
    {ρs : List Rule} {reasons t : List ℕ} {p : ℕ} → CanList ρs reasons t → DonePlace t p → HasReason ρs reasons p
has_reason {p = p} can d =
    record { within = d.within; reasons_long_lem = can.reasons_long_lem; fits = can.grounded.reason p d }

module _ {write : Bool} {ρs : List Rule} {reasons : List ℕ} {s : Walking} (can : CanMove write ρs reasons s) where
  -- a done place may be listed where a move can be made
  pub may_list : {p : ℕ} → DonePlace s.pass.table p →
      ((p < length s.pass.table) × (s.pass.count < table_size) × HasReason ρs reasons p)
      × RoomFor write (s.pass.count + 1) s.pass.out
  may_list d = (
    (omega (arith, can.listable.long, d.within), can.uncounted, has_reason can.listable d),
    can.room,
  )

  -- the three moves
  module _ {next : ℕ} (found : next ≡ next_of ρs reasons s) where
    pub lists_top : {a : ListingPass} → next ≡ table_size → a ≡ list_one_lem write ρs reasons (top_of s) s.pass →
        record { pass = a; path = s.path; depth = s.depth - 1 } ≡ moved write ρs reasons s
    unfolding moved
    lists_top e l = rw (eq-eqb _ table_size (sym found ∙ e), l)

    pub lists_terminal : {a : ListingPass} → (next ≡ table_size → ⊥) → 32 ≤ symbol_at next →
        a ≡ list_one_lem write ρs reasons next s.pass →
        record { pass = a; path = s.path; depth = s.depth } ≡ moved write ρs reasons s
    unfolding moved
    lists_terminal other h l = rw (l, ← found, ne_eqb next table_size other, le-leb 32 (symbol_at next) h)

    pub goes_down : (next ≡ table_size → ⊥) → symbol_at next < 32 →
        record { pass = s.pass; path = set s.path s.depth next; depth = s.depth + 1 }
        ≡ moved write ρs reasons s
    unfolding moved
    goes_down other h = rw (← found, ne_eqb next table_size other, lt-leb 32 (symbol_at next) h)

    -- a premise that is left is done
    pub next_done : (next ≡ table_size → ⊥) → DonePlace s.pass.table next
    next_done other =
        rw found
        (can.listable.grounded.premise_done (top_of s) _ can.top_done
        (some_unlisted _ _ (λ e. other (found ∙ e))).0)
