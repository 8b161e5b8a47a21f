-- What a listing is: statements about the definition, for all rules and every table on which reasons lead down. Each
-- is the contract of a function of src/listing_theorems.rt, so it is proved. Assumes nothing.
use Rattle.std.specs.Prelude.{◌≡◌, Bool, true, false, ℕ, ◌*◌, ◌≤◌, ◌<◌, length, get_or, take, drop}
use mathlib.Core.List.{List, [], ◌∷◌, Memᴰ}
use Rattle.grammar.specs.Rule.{Rule, head, body, empty}
use Rattle.grammar.specs.Counting.{NoRepeat}
use Rattle.machine.specs.Table.{table_size, from_state, symbol_at, to_state, statuses, given_reason, each, done_count_lem}
use Rattle.forms.specs.Listing.{Listed, reason_at_lem, reason_rule, rule_premises, premises, rule_bytes_lem, byte_g}
use Rattle.forms.specs.Listing.{records_at, is_listed, visit, depth_bound, list_all_lem, unmarked}
use Rattle.forms.specs.Grounded.{DonePlace, Grounded}
use Rattle.forms.specs.Theorems.ListingOrder.{ListsInTurn, RestsOn}

-- done places to be listed, on a table with reasons that lead down and no byte 3
pub record Listable (rules : List Rule) (reasons t ps : List ℕ) : Type 0 where
  pub long : table_size ≤ length t
  pub grounded : Grounded rules reasons t
  pub none_listed : (p : ℕ) → p < table_size → is_listed t p ≡ false
  pub done : (p : ℕ) → Memᴰ p ps → DonePlace t p

-- Forms and listings: l is a listing of the places ps on the table t. Each transition is listed once, after its
-- premises, in turn; those of the sequence are listed, and only done ones that one of the sequence rests on are; the
-- listed bytes become 3, and no other byte changes.
pub record IsListing (rules : List Rule) (reasons t ps : List ℕ) (l : Listed) : Type 0 where
  pub once : NoRepeat l.places
  pub premises_first :
      (i : ℕ) → i < length l.places → (q : ℕ) → Memᴰ q (premises rules reasons (get_or l.places i 0)) →
      (j : ℕ) × (j < i) × (get_or l.places j 0 ≡ q)
  pub in_turn_lem : ListsInTurn (premises rules reasons) [] ps l.places
  pub sequence : (p : ℕ) → Memᴰ p ps → Memᴰ p l.places
  pub needed :
      (q : ℕ) → Memᴰ q l.places → (p : ℕ) × Memᴰ p ps × RestsOn (premises rules reasons) p q
  pub only_done : (p : ℕ) → Memᴰ p l.places → DonePlace t p
  pub at_most : length l.places ≤ done_count_lem (statuses t)
  pub size : length l.table ≡ length t
  pub marked : (p : ℕ) → Memᴰ p l.places → get_or l.table p 0 ≡ 3
  pub others : (p : ℕ) → (Memᴰ p l.places → ⊥) → get_or l.table p 0 ≡ get_or t p 0

unfoldable pub ListingIsRight : Type 0
ListingIsRight =
    (rules : List Rule) (reasons t ps : List ℕ) → Listable rules reasons t ps →
    IsListing rules reasons t ps (list_all_lem rules reasons t ps)

-- Table and machine, start: an E rule leads from a state to itself, one of the job's s states
abbrev pub EmptyStays : ℕ → ℕ → Rule → Type 0
EmptyStays s p ρ = body ρ ≡ [] → (from_state p ≡ to_state p) × (from_state p < s)

-- Forms and listings: the bytes of the record of the place p say that its transition is given, and then it is, or
-- which rule and which middle state made it, and then its symbol is the rule's head, and the two states are one where
-- it is an E rule; ps are the premises by that rule
pub data RecordSays (rules : List Rule) (given : ℕ → ℕ → ℕ → Bool) (s p : ℕ) (bytes ps : List ℕ) : Type 0 where
  says_given :
      given (from_state p) (symbol_at p) (to_state p) ≡ true →
      bytes ≡ from_state p ∷ symbol_at p ∷ to_state p ∷ byte_g ∷ 0 ∷ 0 ∷ 0 ∷ 0 ∷ [] → ps ≡ [] →
      RecordSays rules given s p bytes ps
  says_rule :
      (rank m : ℕ) → rank < length rules → m < 32 → head (get_or rules rank (empty 0)) ≡ symbol_at p →
      EmptyStays s p (get_or rules rank (empty 0)) →
      bytes ≡ from_state p ∷ symbol_at p ∷ to_state p ∷ rule_bytes_lem m (get_or rules rank (empty 0)) →
      ps ≡ rule_premises (from_state p) m (to_state p) (get_or rules rank (empty 0)) → RecordSays rules given s p bytes ps

-- eight bytes for each of the places
abbrev pub RecordsSay : List Rule → (ℕ → ℕ → ℕ → Bool) → ℕ → List ℕ → List ℕ → List ℕ → Type 0
RecordsSay rules given s reasons places bytes =
    (i : ℕ) → i < length places →
    RecordSays rules given s (get_or places i 0) (take 8 (drop (8 * i) bytes)) (premises rules reasons (get_or places i 0))

-- the reasons of done transitions are true: one that says given is of a given transition, and any other says a rule
-- for the symbol, at one state where it is an E rule
pub record TrueReasons (rules : List Rule) (given : ℕ → ℕ → ℕ → Bool) (s : ℕ) (reasons t : List ℕ) : Type 0 where
  pub is_given :
      (p : ℕ) → DonePlace t p → reason_at_lem reasons p ≡ given_reason → given (from_state p) (symbol_at p) (to_state p) ≡ true
  pub head_is :
      (p : ℕ) → DonePlace t p → (reason_at_lem reasons p ≡ given_reason → ⊥) →
      head (reason_rule rules (reason_at_lem reasons p)) ≡ symbol_at p
  pub stays :
      (p : ℕ) → DonePlace t p → (reason_at_lem reasons p ≡ given_reason → ⊥) →
      EmptyStays s p (reason_rule rules (reason_at_lem reasons p))

unfoldable pub RecordsAreRight : Type 0
RecordsAreRight =
    (rules : List Rule) (given : ℕ → ℕ → ℕ → Bool) (s : ℕ) (reasons t ps : List ℕ) → Listable rules reasons t ps →
    TrueReasons rules given s reasons t →
    RecordsSay rules given s reasons (list_all_lem rules reasons t ps).places
    (records_at rules reasons (list_all_lem rules reasons t ps).places)

-- the bound on the depth of a visit is never met: a greater one changes nothing
unfoldable pub DepthBoundNeverMet : Type 0
DepthBoundNeverMet =
    (rules : List Rule) (reasons t : List ℕ) → Grounded rules reasons t → (n : ℕ) → depth_bound ≤ n →
    (p : ℕ) → DonePlace t p → (l : Listed) → visit n rules reasons p l ≡ visit depth_bound rules reasons p l

-- the marks of a listing can be taken back: the table is as it was before
unfoldable pub MarksTakenBack : Type 0
MarksTakenBack =
    (rules : List Rule) (reasons t ps : List ℕ) → Listable rules reasons t ps →
    each unmarked 0 (list_all_lem rules reasons t ps).table ≡ t
