-- The index of the rules, rule by rule: a rule more adds its rank to the lists of its symbols, and to no other.
-- Assumes nothing.
use Rattle.grammar.proofs.Basics.{◌≡◌, refl, ◌∙◌, sym, ap, true, false, Bool, cond, ◌||◌, List, ◌∷◌, [], ◌++◌}
use Rattle.grammar.proofs.Basics.{ℕ, ◌<◌, ◌≤◌, ◌+◌, suc, add-zero, zero-add, arith, eqb, length, get_or, take}
use Rattle.grammar.proofs.Basics.{length-map, length-take-le, ne_eqb, eqb-true, cases}
use Rattle.grammar.specs.Rule.{Rule}
use Rattle.job.specs.Inside.Keys.{unpacked, rule_of_key, rules_of_keys}
use Rattle.job.proofs.KeyRules.{rules_more, read_body}
use Rattle.machine.specs.Inside.Users.{mentions, mentioning, UsersListed, UsersRoom, Appended}
use Rattle.machine.proofs.Users.Appending.{append_none, append_both, room_after, room_wider}
use Rattle.job.specs.declared.Body.TheVariants.{Empty, Unit, Pair}
use Rattle.job.specs.declared.RuleFields as declared

-- the ranks of the rules that mention a symbol, with one rule more
mentioning_end : (X rank : ℕ) (ρs : List Rule) (ρ : Rule) →
    mentioning X rank (ρs ++ (ρ ∷ [])) ≡ mentioning X rank ρs ++ cond (mentions X ρ) ((rank + length ρs) ∷ []) []
unfolding mentioning
mentioning_end X rank [] ρ = rw add-zero
mentioning_end X rank (σ ∷ ρs) ρ =
    let same : suc rank + length ρs ≡ rank + suc (length ρs) = omega arith in
    let rest = rw same at (mentioning_end X (suc rank) ρs ρ) in
    cases (mentions X σ) (λ e. rw e (ap (λ l. rank ∷ l) rest)) (λ e. rw e rest)

-- how many rules the first k keys hold
pub rules_long : (keys : List ℕ) (k : ℕ) → k ≤ length keys → length (rules_of_keys (take k keys)) ≡ k
rules_long keys k h = length-map (take k keys) rule_of_key ∙ length-take-le k keys h

-- the index of no rules
pub listed_none : {users used : List ℕ} → UsersRoom 0 users used → UsersListed [] users used
unfolding mentioning
listed_none {used = used} r =
    record { room = r; lists = λ X h. let none : get_or used X 0 ≡ 0 = omega (arith, r.at_most X h) in rw none }

-- and of one rule more
pub listed_next : (keys : List ℕ) (k : ℕ) {users used users' used' : List ℕ} → k < length keys →
    length users' ≡ length users → length used' ≡ length used → UsersListed (rules_of_keys (take k keys)) users used →
    Appended (λ X. mentions X (rule_of_key (get_or keys k 0))) k users used users' used' →
    UsersListed (rules_of_keys (take (k + 1) keys)) users' used'
listed_next keys k h e e' i a =
    let long = rules_long keys k (omega arith) in
    let one_longer = rules_long keys (k + 1) (omega arith) in
    record {
      room = room_wider (omega arith) (room_after a e e' i.room);
      lists = λ X l.
          rw (
            rules_more keys k h,
            mentioning_end X 0 (rules_of_keys (take k keys)) (rule_of_key (get_or keys k 0)),
            zero-add,
            long,
            a.lists X l,
            i.lists X l,
          );
    }

or_same : (b : Bool) → (b || b) ≡ b
or_same true = refl
or_same false = refl

-- what is appended for the rule of an unpacked key: nothing for an E rule, one rank for a U rule and for a P rule of
-- twice the same symbol, else two
module _ (k rank : ℕ) {users used : List ℕ} {ρ : declared.RuleFields} (unpack : ρ ≡ unpacked k) where
  pub none_appended : ρ.body ≡ Empty → Appended (λ X. mentions X (rule_of_key k)) rank users used users used
  none_appended e = rw (read_body k unpack e) append_none

  module _ {x : ℕ} {users' used' : List ℕ} (one : Appended (eqb x) rank users used users' used') where
    pub one_appended : ρ.body ≡ Unit x → Appended (λ X. mentions X (rule_of_key k)) rank users used users' used'
    one_appended e = rw (read_body k unpack e) one

    module _ {y : ℕ} (e : ρ.body ≡ Pair x y) where
      pub twin_appended : y ≡ x → Appended (λ X. mentions X (rule_of_key k)) rank users used users' used'
      twin_appended same = rw (read_body k unpack e, same) (simp or_same one)

      pub two_appended : {users'' used'' : List ℕ} → (y ≡ x → ⊥) → Appended (eqb y) rank users' used' users'' used'' →
          Appended (λ X. mentions X (rule_of_key k)) rank users used users'' used''
      two_appended apart two =
          rw (read_body k unpack e)
          (append_both one (λ X c. ne_eqb y X (λ q. apart (q ∙ sym (eqb-true x X c)))) two)
