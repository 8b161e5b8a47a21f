-- Where the record of a rule comes from: a body, behind the roles that those before it take, or a letter that is met.
-- Each is a rule. Assumes nothing.
use Rattle.grammar.proofs.Basics.{◌≡◌, refl, ap, ⊎_elim, inl, inr, ◌⊎◌, true, Bool, List, ◌∷◌, [], List·Memᴰ, subst}
use Rattle.grammar.proofs.Basics.{List·Memᴰ·head, List·Memᴰ·tail, List·Memᴰ·not-nil, List·Memᴰ·cases-cons, ℕ, ◌<◌}
use Rattle.grammar.proofs.Basics.{List·Memᴰ·append-cases, List·Memᴰ·eq-of-singleton, ◌≤◌, ◌+◌, ◌-◌, zero, suc, arith}
use Rattle.grammar.proofs.Basics.{length, cases}
use Rattle.job.specs.declared.JobRecord.{JobRecord}
use Rattle.job.specs.Format.{is_rule_lem}
use Rattle.job.specs.Job.{unit_record}
use Rattle.long_jobs.proofs.Adds.{Each, none, more}
use Rattle.long_jobs.proofs.Kept.{IsRule, split_rules_lem}
use Rattle.abnf.specs.Text.{Line}
use Rattle.abnf.specs.Meaning.{names_of}
use Rattle.abnf_jobs.specs.Bodies.{Body, bodies_of}
use Rattle.abnf_jobs.specs.Characters.{used_in, terminal_of}
use Rattle.abnf_jobs.specs.Roles.{Role, is_met, variable_of, with_letters, with_body, with_bodies, for_names, roles_of}
use Rattle.abnf_jobs.specs.Rules.{body_rules, rules_from, letters_rules, rules_of_lines}
use Rattle.abnf_jobs.proofs.EveryMember.{Every}
use Rattle.abnf_jobs.proofs.RolePlaces.{Begins, bodies_begin}

-- a record is one of those that a body is split into, and the roles up to its tails begin the list of all
pub record FromBody (used : ℕ → Bool) (roles : List Role) (bs : List Body) (r : JobRecord) : Type 0 where
  pub before : List Role
  pub body : Body
  pub is_one : List·Memᴰ body bs
  pub written : List·Memᴰ r (body_rules used (with_letters before body.items) body)
  pub begin : Begins (with_body before body.items) (with_bodies roles bs)

from_bodies : (used : ℕ → Bool) (roles : List Role) (bs : List Body) (r : JobRecord) →
    List·Memᴰ r (rules_from used roles bs) → FromBody used roles bs r
unfolding rules_from with_bodies
from_bodies used roles [] r m = absurd (List·Memᴰ·not-nil m)
from_bodies used roles (b ∷ bs) r m =
    ⊎_elim
    (λ n.
    record {
      before = roles;
      body = b;
      is_one = List·Memᴰ·head refl;
      written = n;
      begin = bodies_begin (with_body roles b.items) bs;
    })
    (λ n.
    let f = from_bodies used (with_body roles b.items) bs r n in
    record {
      before = f.before;
      body = f.body;
      is_one = List·Memᴰ·tail f.is_one;
      written = f.written;
      begin = f.begin;
    })
    (List·Memᴰ·append-cases (body_rules used (with_letters roles b.items) b) m)

-- a record is the rule of a met letter for one of its two cases
pub record FromLetter (used : ℕ → Bool) (roles : List Role) (n : ℕ) (r : JobRecord) : Type 0 where
  pub small : ℕ
  pub is_small : (97 ≤ small) × (small < 97 + n)
  pub met : is_met roles small ≡ true
  pub terminal : ℕ
  pub either : (terminal ≡ small - 32) ⊎ (terminal ≡ small)
  pub is : r ≡ unit_record (variable_of roles small) (terminal_of used terminal)

from_letters : (used : ℕ → Bool) (roles : List Role) (n : ℕ) (r : JobRecord) →
    List·Memᴰ r (letters_rules used roles n) → FromLetter used roles n r
unfolding letters_rules
from_letters used roles zero r m = absurd (List·Memᴰ·not-nil m)
from_letters used roles (suc n) r m =
    ⊎_elim
    (λ k.
    let f = from_letters used roles n r k in
    record {
      small = f.small;
      is_small = omega (arith, f.is_small);
      met = f.met;
      terminal = f.terminal;
      either = f.either;
      is = f.is;
    })
    (λ k.
    cases (is_met roles (97 + n))
    (λ t.
    let of : (c : ℕ) → (c ≡ 97 + n - 32) ⊎ (c ≡ 97 + n) →
    r ≡ unit_record (variable_of roles (97 + n)) (terminal_of used c) → FromLetter used roles (suc n) r =
    λ c which e.
    record { small = 97 + n; is_small = omega arith; met = t; terminal = c; either = which; is = e } in
    ⊎_elim (of (97 + n - 32) (inl refl))
    (λ j. of (97 + n) (inr refl) (List·Memᴰ·eq-of-singleton j)) (List·Memᴰ·cases-cons (rw t at k)))
    (λ t. absurd (List·Memᴰ·not-nil (rw t at k))))
    (List·Memᴰ·append-cases (letters_rules used roles n) m)

module _ (lines : List Line) where
  abbrev pub Origin : JobRecord → Type 0
  Origin r =
      FromBody (used_in (bodies_of lines)) (for_names (length (names_of lines))) (bodies_of lines) r
      ⊎ FromLetter (used_in (bodies_of lines)) (roles_of lines) 26 r

  pub rule_origin : (r : JobRecord) → List·Memᴰ r (rules_of_lines lines) → Origin r
  rule_origin r m =
      ⊎_elim (λ n. inl (from_bodies _ _ _ r n)) (λ n. inr (from_letters _ _ _ r n)) (List·Memᴰ·append-cases _ m)

each_member : {R : JobRecord → Type 0} {l : List JobRecord} → Each R l → (r : JobRecord) → List·Memᴰ r l → R r
each_member none r m = absurd (List·Memᴰ·not-nil m)
each_member {R} (more p ps) r m = ⊎_elim (λ e. rw e p) (each_member ps r) (List·Memᴰ·cases-cons m)

-- each is a rule
pub lines_rules : (lines : List Line) → Every IsRule (rules_of_lines lines)
lines_rules lines r m =
    ⊎_elim
    (λ f.
    let a = split_rules_lem (λ k. k) _ _ _ in
    each_member a.each r (subst (List·Memᴰ r) a.is f.written))
    (λ f. ap is_rule_lem f.is)
    (rule_origin lines r m)
