-- Each body has its rules among those of a text, behind the roles that the bodies before it take, and each letter that
-- is met has one for each case. Assumes nothing.
use Rattle.grammar.proofs.Basics.{◌≡◌, refl, ⊎_elim, ◌⊎◌, true, Bool, List, [], ◌∷◌, List·Memᴰ, List·Memᴰ·head}
use Rattle.grammar.proofs.Basics.{List·Memᴰ·tail, Memᴰ·append-left, Memᴰ·append-right, cases, ℕ, zero, suc, ◌+◌, ◌-◌}
use Rattle.grammar.proofs.Basics.{◌<◌, ◌≤◌, arith, eqb, eqb-true, eqb-false}
use Rattle.job.specs.declared.JobRecord.{JobRecord}
use Rattle.job.specs.Job.{unit_record}
use Rattle.abnf_jobs.specs.Bodies.{Body}
use Rattle.abnf_jobs.specs.Characters.{terminal_of}
use Rattle.abnf_jobs.specs.Roles.{Role, is_met, variable_of, with_letters, with_body, with_bodies}
use Rattle.abnf_jobs.specs.Rules.{body_rules, rules_from, letter_rules, letters_rules}
use Rattle.abnf_jobs.proofs.RolePlaces.{Begins, bodies_begin}

module _ (used : ℕ → Bool) where
  -- a body behind the roles of those before it
  pub record Placed (roles : List Role) (bs : List Body) (b : Body) : Type 0 where
    pub before : List Role
    pub begin : Begins (with_body before b.items) (with_bodies roles bs)
    pub within : (r : JobRecord) → List·Memᴰ r (body_rules used (with_letters before b.items) b) →
        List·Memᴰ r (rules_from used roles bs)

  pub placed : (roles : List Role) (bs : List Body) (b : Body) → List·Memᴰ b bs → Placed roles bs b
  unfolding rules_from with_bodies
  placed roles (c ∷ bs) b (List·Memᴰ·head e) =
      rw e
      (record {
        before = roles;
        begin = bodies_begin (with_body roles c.items) bs;
        within = λ r. Memᴰ·append-left (rules_from used (with_body roles c.items) bs);
      })
  placed roles (c ∷ bs) b (List·Memᴰ·tail m) =
      let p = placed (with_body roles c.items) bs b m in
      record {
        before = p.before;
        begin = p.begin;
        within = λ r k. Memᴰ·append-right (body_rules used (with_letters roles c.items) c) (p.within r k);
      }
  placed roles [] b x' = elim x' [ ]

  module _ (roles : List Role) (l c : ℕ) (met : is_met roles l ≡ true) (case-of : (c ≡ l - 32) ⊎ (c ≡ l)) where
    abbrev rule : JobRecord
    rule = unit_record (variable_of roles l) (terminal_of used c)

    of_letter : List·Memᴰ rule (letter_rules used roles l)
    of_letter =
        rw met
        (⊎_elim (λ e. rw e (List·Memᴰ·head refl)) (λ e. rw e (List·Memᴰ·tail (List·Memᴰ·head refl))) case-of)

    pub letter_rule : (n : ℕ) → 97 ≤ l → l < 97 + n → List·Memᴰ rule (letters_rules used roles n)
    unfolding letters_rules
    letter_rule zero g h = absurd (omega arith)
    letter_rule (suc n) g h =
        cases (eqb l (97 + n))
        (λ t.
        Memᴰ·append-right (letters_rules used roles n) (rw (← eqb-true l (97 + n) t) of_letter))
        (λ t.
        let d = eqb-false l (97 + n) t in
        Memᴰ·append-left (letter_rules used roles (97 + n)) (letter_rule n g (omega arith)))
