-- The listing: why each transition of a sequence is there, premises first. Assumes nothing.
use Rattle.std.specs.Prelude.{ℕ, zero, suc, ◌-◌, ◌/◌, ◌%◌, Bool, cond, ◌&&◌, List, [], ◌∷◌, ◌++◌, eqb, leb, ltb, get_or, set}
use Rattle.grammar.specs.Rule.{Rule, empty, unit, pair}
use Rattle.job.specs.Format.{byte_e, byte_u, byte_p}
use Rattle.machine.specs.Table.{table_size, table_place, from_state, symbol_at, to_state, reason_place_lem, given_reason, reason_in}

-- the reason of the transition at a place, without its turn; that of a terminal is given, as no rule adds one
abbrev pub reason_at_lem : List ℕ → ℕ → ℕ
reason_at_lem reasons p =
    cond (leb 32 (symbol_at p)) given_reason
    (reason_in (get_or reasons (reason_place_lem (from_state p) (symbol_at p) (to_state p)) 0))

-- Table and machine: a reason that is not given is one more than 32 times the rank of a rule and the middle state
abbrev pub reason_rule : List Rule → ℕ → Rule
reason_rule rules reason = get_or rules ((reason - 1) / 32) (empty 0)

abbrev pub reason_middle : ℕ → ℕ
reason_middle reason = (reason - 1) % 32

-- Forms and listings: a pair rule with the middle state m has two premises, (q, B, m) and (m, C, r); a unit rule has
-- one; an ε rule has none
abbrev pub rule_premises : ℕ → ℕ → ℕ → Rule → List ℕ
rule_premises q m r (empty A) = []
rule_premises q m r (unit A X) = table_place q X r ∷ []
rule_premises q m r (pair A B C) = table_place q B m ∷ table_place m C r ∷ []

-- and a given transition has none
unfoldable pub premises : List Rule → List ℕ → ℕ → List ℕ
premises rules reasons p =
    cond (eqb (reason_at_lem reasons p) given_reason) []
    (rule_premises (from_state p) (reason_middle (reason_at_lem reasons p)) (to_state p)
    (reason_rule rules (reason_at_lem reasons p)))

-- Forms and listings: a record says by five bytes why its transition is there: the rule's kind byte, fields 2 and 3,
-- the middle state and 0
abbrev pub rule_bytes_lem : ℕ → Rule → List ℕ
rule_bytes_lem m (empty A) = byte_e ∷ 0 ∷ 0 ∷ 0 ∷ 0 ∷ []
rule_bytes_lem m (unit A X) = byte_u ∷ X ∷ 0 ∷ 0 ∷ 0 ∷ []
rule_bytes_lem m (pair A B C) = byte_p ∷ B ∷ C ∷ m ∷ 0 ∷ []

abbrev pub byte_g : ℕ
byte_g = 71

-- or G and four zeros, for a given transition
unfoldable pub reason_bytes_lem : List Rule → List ℕ → ℕ → List ℕ
reason_bytes_lem rules reasons p =
    cond (eqb (reason_at_lem reasons p) given_reason) (byte_g ∷ 0 ∷ 0 ∷ 0 ∷ 0 ∷ [])
    (rule_bytes_lem (reason_middle (reason_at_lem reasons p)) (reason_rule rules (reason_at_lem reasons p)))

-- Forms and listings: a record has 8 bytes, of which the first three are q, X and r
unfoldable pub listing_record : List Rule → List ℕ → ℕ → List ℕ
listing_record rules reasons p = from_state p ∷ symbol_at p ∷ to_state p ∷ reason_bytes_lem rules reasons p

-- what a listing has come to: the table with its marks, and the places listed so far
pub record Listed : Type 0 where
  pub table : List ℕ
  pub places : List ℕ

-- Table and machine: the byte of a listed transition is 3
abbrev pub is_listed : List ℕ → ℕ → Bool
is_listed t p = eqb (get_or t p 0) 3

-- Forms and listings: as a transition is listed, its byte becomes 3
abbrev pub listing : ℕ → Listed → Listed
listing p l = record { table = set l.table p 3; places = l.places ++ (p ∷ []) }

-- each of a list of places in turn
unfoldable pub in_turn : (ℕ → Listed → Listed) → List ℕ → Listed → Listed
in_turn f [] l = l
in_turn f (p ∷ ps) l = in_turn f ps (f p l)

-- Forms and listings: unless it is listed, a transition's first premise is listed, then its second, then the
-- transition itself. The first argument bounds the depth; a theorem says that the bound is never met.
unfoldable pub visit : ℕ → List Rule → List ℕ → ℕ → Listed → Listed
visit zero rules reasons p l = l
visit (suc n) rules reasons p l =
    cond (is_listed l.table p) l
    (listing p (in_turn (visit n rules reasons) (premises rules reasons p) l))

-- more than the depth of any reason: no chain of premises is longer than the table
abbrev pub depth_bound : ℕ
depth_bound = 65537

-- the transitions of a sequence listed in turn
unfoldable pub list_all_lem : List Rule → List ℕ → List ℕ → List ℕ → Listed
list_all_lem rules reasons table ps =
    in_turn (visit depth_bound rules reasons) ps (record { table = table; places = [] })

-- the bytes of the records of the places listed
unfoldable pub records_at : List Rule → List ℕ → List ℕ → List ℕ
records_at rules reasons [] = []
records_at rules reasons (p ∷ ps) = listing_record rules reasons p ++ records_at rules reasons ps

-- a mark taken back, in the part of the table that is in use
abbrev pub unmarked : ℕ → ℕ → ℕ
unmarked i b = cond (ltb i table_size && eqb b 3) 2 b
