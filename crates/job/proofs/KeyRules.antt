-- The rule of a sort key by its kind byte, the same rule read by value, and the rules of a list of keys. Assumes
-- nothing.
use Rattle.grammar.proofs.Basics.{◌≡◌, refl, ◌∙◌, sym, ap, List, ◌∷◌, [], ◌++◌, List·Memᴰ·head, List·Memᴰ·tail, List·Memᴰ·not-nil}
use Rattle.grammar.proofs.Basics.{map, ℕ, ◌<◌, ◌+◌, suc, add-one, arith, eqb, length, get_or, take, take-suc, cases}
use mathlib.Core.List.{map-append}
use Rattle.grammar.specs.Rule.{Rule, head, empty, unit, pair}
use Rattle.job.specs.declared.Body.{Body}
use Rattle.job.specs.declared.Body.TheVariants.{Empty, Unit, Pair}
use Rattle.job.specs.declared.RuleFields as declared
use Rattle.job.specs.Format.{byte_e, byte_u}
use Rattle.job.specs.Inside.Keys.{key_kind, key_body, unpacked, rule_of_key, KeyFits, rules_of_keys, rule_with, rule_from}
use Rattle.job.specs.Inside.Keys.{BodyInRange, RuleFits}
use Rattle.job.specs.Theorems.InRange.{RuleInRange, RulesInRange}

-- a key that fits holds a rule in range
pub key_in_range : {k : ℕ} → KeyFits k → RuleInRange (rule_of_key k)
unfolding rule_of_key
key_in_range {k} fits =
    cases (eqb (key_kind k) byte_e) (λ e. rw e fits.head)
    (λ e. cases (eqb (key_kind k) byte_u)
    (λ u. rw (e, u) (fits.head, fits.second))
    (λ u. rw (e, u) (fits.head, fits.second, fits.third)))

-- and so do keys that fit
pub keys_in_range : (keys : List ℕ) → ((k : ℕ) → k < length keys → KeyFits (get_or keys k 0)) →
    RulesInRange (rules_of_keys keys)
keys_in_range [] fit ρ m = absurd (List·Memᴰ·not-nil m)
keys_in_range (k ∷ ks) fit ρ (List·Memᴰ·head e) = rw e (key_in_range (fit 0 (omega arith)))
keys_in_range (k ∷ ks) fit ρ (List·Memᴰ·tail m) = keys_in_range ks (λ i l. fit (suc i) (omega arith)) ρ m

-- the head of a rule in range is a variable
pub head_below : (ρ : Rule) → RuleInRange ρ → head ρ < 32
head_below (empty A) r = r
head_below (unit A X) r = r.0
head_below (pair A X Y) r = r.0

-- what is made of one key more
pub mapped_more : {A : Type 0} (f : ℕ → A) (keys : List ℕ) (k : ℕ) → k < length keys →
    map f (take (k + 1) keys) ≡ map f (take k keys) ++ (f (get_or keys k 0) ∷ [])
mapped_more f keys k l = rw (add-one, take-suc keys k 0, map-append)

-- the rules of one key more
pub rules_more : (keys : List ℕ) (k : ℕ) → k < length keys →
    rules_of_keys (take (k + 1) keys) ≡ rules_of_keys (take k keys) ++ (rule_of_key (get_or keys k 0) ∷ [])
rules_more keys k l = mapped_more rule_of_key keys k l

-- the rule of a head and a body, read by value
with_head : (A : ℕ) (b : Body) → head (rule_with A b) ≡ A
with_head A Empty = refl
with_head A (Unit X) = refl
with_head A (Pair X Y) = refl

with_in_range : (A : ℕ) (b : Body) → A < 32 → BodyInRange b → RuleInRange (rule_with A b)
with_in_range A Empty h f = h
with_in_range A (Unit X) h f = (h, f)
with_in_range A (Pair X Y) h f = (h, f.0, f.1)

pub from_head : (r : declared.RuleFields) → head (rule_from r) ≡ r.head
from_head r = with_head r.head r.body

pub from_in_range : (r : declared.RuleFields) → RuleFits r → RuleInRange (rule_from r)
from_in_range r f = with_in_range r.head r.body f.head f.body

-- the rule that was read from a key
key_read : (k : ℕ) → rule_from (unpacked k) ≡ rule_of_key k
unfolding rule_of_key
key_read k =
    cases (eqb (key_kind k) byte_e) (λ e. rw e)
    (λ e. cases (eqb (key_kind k) byte_u) (λ u. rw (e, u)) (λ u. rw (e, u)))

key_body_fits : (k : ℕ) → KeyFits k → BodyInRange (key_body k)
key_body_fits k f =
    cases (eqb (key_kind k) byte_e) (λ e. rw e tt)
    (λ e. cases (eqb (key_kind k) byte_u) (λ u. rw (e, u) f.second) (λ u. rw (e, u) (f.second, f.third)))

module _ {r : declared.RuleFields} (k : ℕ) (e : r ≡ unpacked k) where
  pub read_rule : rule_from r ≡ rule_of_key k
  read_rule = rw e (key_read k)

  pub read_fits : KeyFits k → RuleFits r
  read_fits f = rw e record { head = f.head; body = key_body_fits k f }

  -- by its body
  pub read_body : {b : Body} → r.body ≡ b → rule_of_key k ≡ rule_with r.head b
  read_body q = sym read_rule ∙ ap (rule_with r.head) q

  pub read_body_fits : {b : Body} → r.body ≡ b → KeyFits k → BodyInRange b
  read_body_fits q f = rw (← q) (read_fits f).body
