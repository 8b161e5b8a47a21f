-- What the functions that write the ε transitions leave, on a table of bytes or of bits: one state after the other for
-- an E rule, and one rule after the other. Assumes nothing.
use Rattle.grammar.proofs.Basics.{◌≡◌, refl, ◌∙◌, sym, ap, List, ℕ, ◌<◌, ◌≤◌, ◌+◌, ◌*◌, add-one, arith}
use Rattle.grammar.proofs.Basics.{length, get_or, length-map, List·getD-map}
use Rattle.job.specs.Inside.Keys.{KeyFits, unpacked, rule_of_key, rules_of_keys, rule_with}
use Rattle.job.specs.declared.Body.{Body}
use Rattle.job.specs.declared.Body.TheVariants.{Empty, Unit, Pair}
use Rattle.job.specs.declared.RuleFields as declared
use Rattle.job.proofs.KeyRules.{read_body, read_fits}
use Rattle.machine.specs.Table.{Lent, lent_of, table_place, reason_of}
use Rattle.machine.specs.Inside.Offers.{VariablePlace, offer_to, add_offer}
use Rattle.machine.specs.Inside.StartParts.{looping_below, looping_rule, looping_all}
use Rattle.machine.proofs.Offers.Adding.{variable_place}
use Rattle.machine.proofs.Starts.StartWalk.{Walked, walk_goes_on, walk_ends}
use Rattle.machine.proofs.Tables.SameLengths.{AsLong, as_long, then_long}

-- what holds once the loops at q states are written
pub record Looped (states A reason : ℕ) (m m' : Lent) (q : ℕ) : Type 0 where
  pub within : q ≤ states
  pub long : AsLong m m'
  pub so_far : m' ≡ looping_below A reason q m

pub loop-place : (states key q : ℕ) (ρ : declared.RuleFields) → ρ ≡ unpacked key → KeyFits key → states ≤ 32
    → q < states → VariablePlace (table_place q ρ.head q)
loop-place states key q ρ unpack fits few h =
    variable_place q ρ.head q (omega arith) (read_fits key unpack fits).head (omega arith)

pub looped_begins : (states A reason : ℕ) (m : Lent) → Looped states A reason m m 0
unfolding looping_below
looped_begins states A reason m = record { within = omega arith; long = as_long m; so_far = refl }

pub looped_goes_on : (states A reason : ℕ) (m m' : Lent) (q : ℕ) (t t' : List ℕ) → q < states →
    lent_of t t' ≡ add_offer (offer_to q A q reason) m' →
    length t ≡ length m'.table → length t' ≡ length m'.reasons → Looped states A reason m m' q →
    Looped states A reason m (lent_of t t') (q + 1)
unfolding looping_below
looped_goes_on states A reason m m' q t t' h e l l' so =
    record {
      within = omega arith;
      long = then_long m m' (lent_of t t') so.long (record { table = l; reasons = l' });
      so_far = rw add-one (e ∙ ap (add_offer (offer_to q A q reason)) so.so_far);
    }

module _ (states rank key : ℕ) (m : Lent) (ρ : declared.RuleFields) (unpack : ρ ≡ unpacked key) where
  pub no_loop : (ρ.body ≡ Empty → ⊥) → m ≡ looping_rule states rank (rule_of_key key) m
  no_loop d = no_loop_at ρ.body d ∙ sym (ap (λ r. looping_rule states rank r m) (read_body key unpack refl))
    where
      no_loop_at : (b : Body) → (b ≡ Empty → ⊥) → m ≡ looping_rule states rank (rule_with ρ.head b) m
      no_loop_at Empty d = absurd (d refl)
      no_loop_at (Unit x) d = refl
      no_loop_at (Pair x y) d = refl

  pub looped_ends : (m' : Lent) (q : ℕ) → ρ.body ≡ Empty → states ≤ q →
      Looped states ρ.head (1 + 32 * rank) m m' q → m' ≡ looping_rule states rank (rule_of_key key) m
  looped_ends m' q k h l =
      let e : q ≡ states = omega (arith, l.within) in
      let n : 1 + 32 * rank ≡ reason_of rank 0 = omega arith in
      rw (read_body key unpack k, ← e, ← n) l.so_far

-- the rules of the keys
module _ (states : ℕ) (keys : List ℕ) (m m' : Lent) (k : ℕ)
    (walked : Walked (looping_all states) (rules_of_keys keys) m m' k) where
  pub rules_go_on : (t t' : List ℕ) → k < length keys →
      lent_of t t' ≡ looping_rule states k (rule_of_key (get_or keys k 0)) m' →
      length t ≡ length m'.table → length t' ≡ length m'.reasons →
      Walked (looping_all states) (rules_of_keys keys) m (lent_of t t') (k + 1)
  unfolding looping_all
  rules_go_on t t' h e =
      walk_goes_on (looping_all states) (rules_of_keys keys) m m' k walked (looping_rule states) (λ i x xs o. refl)
      (rule_of_key 0) t t' (omega (arith, length-map keys rule_of_key)) (rw (List·getD-map rule_of_key keys k 0) e)

  pub rules_end : length keys ≤ k → m' ≡ looping_all states 0 (rules_of_keys keys) m
  unfolding looping_all
  rules_end h =
      walk_ends (looping_all states) (rules_of_keys keys) m m' k walked (λ i o. refl)
      (omega (arith, length-map keys rule_of_key))
