-- What a reason says, as bytes and as premises: both go by whether it is given and by the shape of its rule. Assumes
-- nothing.
use Rattle.grammar.proofs.Basics.{◌≡◌, refl, ◌∙◌, sym, ap, ⊎_elim, true, false, Bool, cond, List, ◌∷◌, [], List·Memᴰ}
use Rattle.grammar.proofs.Basics.{List·Memᴰ·head, List·Memᴰ·tail, List·Memᴰ·not-nil, map, ℕ, ◌<◌, ◌≤◌, ◌+◌, suc, ◌-◌}
use Rattle.grammar.proofs.Basics.{zero, ◌/◌, ◌%◌, arith, eqb, length, get_or, set, length-map, sets, eq-eqb, ne_eqb}
use Rattle.grammar.proofs.Basics.{le-leb, cases}
use native.Mathlib.Numerals.{towards_suc}
use Rattle.grammar.specs.Rule.{Rule, empty, unit, pair}
use Rattle.job.specs.Inside.Keys.{rule_of_key}
use Rattle.job.specs.Format.{byte_u, byte_p}
use Rattle.machine.specs.Table.{table_size, table_place, from_state, symbol_at, to_state, given_reason}
use Rattle.forms.specs.declared.Reason.{Reason}
use Rattle.forms.specs.declared.Reason.TheVariants.{Given, Empty, Unit, Pair}
use Rattle.forms.specs.Listing.{reason_at_lem, rule_premises, rule_bytes_lem, reason_bytes_lem, premises, listing_record, is_listed}
use Rattle.forms.specs.Listing.{byte_g}
use Rattle.forms.specs.Grounded.{DonePlace, ReasonFits}
use Rattle.forms.specs.Inside.ListingParts.{five_bytes, first_unlisted_lem, HasReason, CanList}
use Rattle.job.specs.Inside.Keys.{rules_of_keys}

get_or-map_below :
    {A : Type 0} (f : ℕ → A) (l : List ℕ) (k : ℕ) (d : A) → k < length l → get_or (map f l) k d ≡ f (get_or l k 0)
get_or-map_below f [] k d h = absurd (omega arith)
get_or-map_below f (x ∷ xs) zero d h = refl
get_or-map_below f (x ∷ xs) (suc k) d h = get_or-map_below f xs k d (omega arith)

-- the rank of a reason that is not given is one of the rules'
pub rank_below : (ρs : List Rule) (reason : ℕ) → ReasonFits ρs reason → (reason ≡ given_reason → ⊥) →
    (1 ≤ reason) × ((reason - 1) / 32 < length ρs)
rank_below ρs reason fits other = ⊎_elim (λ e. absurd (other e)) (λ r. (r.0, omega arith)) fits

pub key_below : (keys : List ℕ) (reason : ℕ) → ReasonFits (rules_of_keys keys) reason → (reason ≡ given_reason → ⊥) →
    (1 ≤ reason) × ((reason - 1) / 32 < length keys)
key_below keys reason fits other =
    let r = rank_below (rules_of_keys keys) reason fits other in (r.0, omega (arith, r.1, length-map keys rule_of_key))

-- the bytes of a reason
pub bytes_given :
    (ρs : List Rule) (reasons : List ℕ) (p reason : ℕ) → reason ≡ reason_at_lem reasons p → reason ≡ given_reason →
    byte_g ∷ 0 ∷ 0 ∷ 0 ∷ 0 ∷ [] ≡ reason_bytes_lem ρs reasons p
unfolding reason_bytes_lem
bytes_given ρs reasons p reason e g = rw (eq-eqb _ given_reason (sym e ∙ g))

pub bytes_of_key : (keys reasons : List ℕ) (p reason : ℕ) → reason ≡ reason_at_lem reasons p →
    ReasonFits (rules_of_keys keys) (reason_at_lem reasons p) → (reason ≡ given_reason → ⊥) →
    rule_bytes_lem ((reason - 1) % 32) (rule_of_key (get_or keys ((reason - 1) / 32) 0)) ≡ reason_bytes_lem (rules_of_keys keys) reasons p
unfolding reason_bytes_lem
bytes_of_key keys reasons p reason e fits other =
    let not : reason_at_lem reasons p ≡ given_reason → ⊥ = λ g. other (e ∙ g) in
    let below = (key_below keys _ fits not).1 in
    rw (e, ne_eqb _ given_reason not, get_or-map_below rule_of_key keys _ (empty 0) below)

-- a terminal's transition has no premise
pub terminal_no_premise :
    (ρs : List Rule) (reasons : List ℕ) (p : ℕ) → 32 ≤ symbol_at p → (q : ℕ) → List·Memᴰ q (premises ρs reasons p) → ⊥
unfolding premises
terminal_no_premise ρs reasons p h q m = List·Memᴰ·not-nil (rw (le-leb 32 (symbol_at p) h) at m)

rule_bytes_length : (m : ℕ) (ρ : Rule) → length (rule_bytes_lem m ρ) ≡ 5
rule_bytes_length m (empty A) = refl
rule_bytes_length m (unit A Y) = refl
rule_bytes_length m (pair A B C) = refl

pub record_length : (ρs : List Rule) (reasons : List ℕ) (p : ℕ) → length (listing_record ρs reasons p) ≡ 8
unfolding listing_record reason_bytes_lem
record_length ρs reasons p =
    cases (eqb (reason_at_lem reasons p) given_reason) (λ e. rw e) (λ e. rw (e, rule_bytes_length))

-- a record stored byte by byte
pub record_stored :
    {ρs : List Rule} {reasons : List ℕ} {p : ℕ} → HasReason ρs reasons p → (kind second third middle : ℕ) →
    kind ∷ second ∷ third ∷ middle ∷ 0 ∷ [] ≡ reason_bytes_lem ρs reasons p → (out : List ℕ) (at : ℕ) →
    set
    (set
    (set
    (set
    (set (set (set (set out at (from_state p)) (at + 1) (symbol_at p)) (at + 2) (to_state p)) (at + 3) kind)
    (at + 4)
    second)
    (at + 5)
    third)
    (at + 6)
    middle)
    (at + 7)
    0
    ≡ sets out at (listing_record ρs reasons p)
unfolding listing_record
record_stored has kind second third middle read out at = rw (← read) (simp towards_suc)

-- the premises that five bytes tell
abbrev told : ℕ → ℕ → List ℕ → List ℕ
told q r bs =
    cond (eqb (get_or bs 0 0) byte_u) (table_place q (get_or bs 1 0) r ∷ [])
    (cond (eqb (get_or bs 0 0) byte_p) (table_place q (get_or bs 1 0) (get_or bs 3 0) ∷ table_place (get_or bs 3 0) (get_or bs 2 0) r ∷ [])
    [])

rule_tells : (q m r : ℕ) (ρ : Rule) → rule_premises q m r ρ ≡ told q r (rule_bytes_lem m ρ)
rule_tells q m r (empty A) = refl
rule_tells q m r (unit A Y) = refl
rule_tells q m r (pair A B C) = refl

premises_told : (ρs : List Rule) (reasons : List ℕ) (p : ℕ) →
    premises ρs reasons p ≡ told (from_state p) (to_state p) (reason_bytes_lem ρs reasons p)
unfolding premises reason_bytes_lem
premises_told ρs reasons p = cases (eqb (reason_at_lem reasons p) given_reason) (λ e. rw e) (λ e. rw (e, rule_tells))

-- a premise of a done place lies in the table
premise_within : {ρs : List Rule} {reasons t : List ℕ} {p : ℕ} → CanList ρs reasons t → DonePlace t p → (x : ℕ) →
    List·Memᴰ x (premises ρs reasons p) → x < table_size
premise_within {p = p} can d x m = (can.grounded.premise_done p x d m).within

-- what the reason read says of the premises of a done place
module _ {ρs : List Rule} {reasons t : List ℕ} {p : ℕ} (can : CanList ρs reasons t) (d : DonePlace t p)
    {why : Reason} (read : five_bytes why ≡ reason_bytes_lem ρs reasons p) where
  tells : {is : Reason} → why ≡ is → premises ρs reasons p ≡ told (from_state p) (to_state p) (five_bytes is)
  tells e = premises_told ρs reasons p ∙ ap (told (from_state p) (to_state p)) (sym read ∙ ap five_bytes e)

  -- the first premise that is not listed, and where they lie
  pub next_of_unit : {X : ℕ} → why ≡ Unit X →
      first_unlisted_lem t (table_place (from_state p) X (to_state p) ∷ table_place (from_state p) X (to_state p) ∷ [])
      ≡ first_unlisted_lem t (premises ρs reasons p)
  unfolding first_unlisted_lem
  next_of_unit {X} k =
      let a : ℕ = table_place (from_state p) X (to_state p) in rw (tells k) (twice (is_listed t a) a table_size)
    where
      twice : (b : Bool) (a n : ℕ) → cond b (cond b n a) a ≡ cond b n a
      twice true a n = refl
      twice false a n = refl

  pub unit_within : {X : ℕ} → why ≡ Unit X → table_place (from_state p) X (to_state p) < table_size
  unit_within k = premise_within can d _ (rw (tells k) (List·Memᴰ·head refl))

  pub next_of_pair : {B C m : ℕ} → why ≡ Pair B C m →
      first_unlisted_lem t (table_place (from_state p) B m ∷ table_place m C (to_state p) ∷ [])
      ≡ first_unlisted_lem t (premises ρs reasons p)
  next_of_pair k = rw (tells k)

  pub pair_within : {B C m : ℕ} → why ≡ Pair B C m →
      (table_place (from_state p) B m < table_size) × (table_place m C (to_state p) < table_size)
  pair_within k = (
    premise_within can d _ (rw (tells k) (List·Memᴰ·head refl)),
    premise_within can d _ (rw (tells k) (List·Memᴰ·tail (List·Memᴰ·head refl))),
  )

  pub none_of_given : why ≡ Given → table_size ≡ first_unlisted_lem t (premises ρs reasons p)
  unfolding first_unlisted_lem
  none_of_given k = rw (tells k)

  pub none_of_empty : why ≡ Empty → table_size ≡ first_unlisted_lem t (premises ρs reasons p)
  unfolding first_unlisted_lem
  none_of_empty k = rw (tells k)
