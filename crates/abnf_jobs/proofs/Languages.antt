-- A name derives by the text the strings that its variable derives by the job's rules, read through the list of the
-- characters used; and each string of terminals that it derives is read so. Assumes nothing.
use Rattle.grammar.proofs.Basics.{◌≡◌, refl, sym, ◌∙◌, ap, subst, ◌↔◌, ⊎_elim, true, Bool, List, ◌∷◌, [], ◌++◌}
use Rattle.grammar.proofs.Basics.{append-nil, map, List·Memᴰ, List·Memᴰ·head, List·Memᴰ·tail, ℕ, ◌<◌, ◌≤◌, ◌+◌, arith}
use Rattle.grammar.proofs.Basics.{length, inl}
use Rattle.grammar.specs.Symbol.{Terminals}
use Rattle.grammar.specs.Rule.{Rule, Rules, body, Productions, ProductionsOf, of_rule}
use Rattle.grammar.specs.Derivation.{Derives, none}
use Rattle.grammar.proofs.Derivations.{derives_trans, derives_context}
use Rattle.grammar.proofs.Backwards.{Carried, before_derivation}
use Rattle.grammar.proofs.Strings.{All, nil, cons}
use Rattle.job.specs.declared.JobRecord.{JobRecord}
use Rattle.job.specs.Job.{rule_of}
use Rattle.abnf.specs.Text.{Line}
use Rattle.abnf.specs.Meaning.{number_of, names_of, TextProductions}
use Rattle.abnf_jobs.specs.Bodies.{Item, Body, bodies_of}
use Rattle.abnf_jobs.specs.Characters.{used_in, terminal_of, characters_used}
use Rattle.abnf_jobs.specs.Roles.{Role, roles_of}
use Rattle.abnf_jobs.specs.Rules.{rules_of_lines}
use Rattle.abnf_jobs.specs.Theorems.Written.{IsString, Through, no_more}
use Rattle.abnf_jobs.proofs.Premises.{Known, Bytes}
use Rattle.abnf_jobs.proofs.KnownNames.{line_numbered}
use Rattle.abnf_jobs.proofs.ItemsRead.{ItemsRead, production_body}
use Rattle.abnf_jobs.proofs.FineItems.{item_used}
use Rattle.abnf_jobs.proofs.CharacterNumbers.{Used, one_through, used_through}
use Rattle.abnf_jobs.proofs.Forwards.{all_after}
use Rattle.abnf_jobs.proofs.TextToJob.{translated, character_translated, name_translated, text_derives}
use Rattle.abnf_jobs.proofs.Saying.{FormSays, through_said, variable_says}
use Rattle.abnf_jobs.proofs.Joined.{nothing_said, one_said, joined_both, joined_apart}
use Rattle.abnf_jobs.proofs.RulesMeant.{InJob, Meant, name_role, rule_meant}

module _ (lines : List Line) (known : Known lines) (bytes : Bytes lines) (few : length (roles_of lines) ≤ 32)
    (R : Rules)
    (rules : (ρ : Rule) → R ρ ↔ ((r : JobRecord) × List·Memᴰ r (rules_of_lines lines) × (rule_of r ≡ ρ))) where
  abbrev used : ℕ → Bool
  used = used_in (bodies_of lines)

  abbrev roles : List Role
  roles = roles_of lines

  abbrev P : Productions
  P = TextProductions lines

  abbrev Q : Productions
  Q = ProductionsOf R

  -- a string is read through the list of the characters used
  abbrev ReadAs : List ℕ → List ℕ → Type 0
  ReadAs = Through (characters_used lines) (length (characters_used lines))

  -- the characters that a text derives are used
  abbrev UsedIn : ℕ → Type 0
  UsedIn X = X < 256 → used X ≡ true

  items_used : (b : Body) → List·Memᴰ b (bodies_of lines) → {xs : List Item} {β : List ℕ} →
      ((x : Item) → List·Memᴰ x xs → List·Memᴰ x b.items) → ItemsRead xs β → All UsedIn β
  items_used b m among nothing_said = nil
  items_used b m among (one_said {x} (X, e, i) r) =
      rw e
      (cons (item_used lines b m x X (among x (List·Memᴰ·head refl)) i)
      (items_used b m (λ y k. among y (List·Memᴰ·tail k)) r))

  production_used : (A : ℕ) (β : List ℕ) → P A β → All UsedIn β
  production_used A β p =
      let of = production_body p in items_used of.body of.is_one (λ x k. k) of.reads

  string_used : (w : List ℕ) → IsString w → All UsedIn w → All (Used used 256) w
  unfolding IsString
  string_used [] s nil = nil
  string_used (c ∷ w) s (cons u us) = cons (s.0, u s.0) (string_used w s.1 us)

  string_translated : (w : List ℕ) → IsString w → map (translated used) w ≡ map (terminal_of used) w
  unfolding IsString
  string_translated [] s = refl
  string_translated (c ∷ w) s =
      rw (character_translated used c s.0) (ap (λ v. terminal_of used c ∷ v) (string_translated w s.1))

  -- what each rule means, carried backwards
  meant : (ρ : Rule) → R ρ → Meant lines ρ
  meant ρ k =
      let (r, m, e) = (rules ρ).0 k in
      subst (Meant lines) e (rule_meant lines known bytes few r m)

  abbrev SaysDeriving : List ℕ → List ℕ → Type 0
  SaysDeriving w α = (β : List ℕ) × FormSays used roles α β × Derives P β w

  carried : (w : List ℕ) → Carried Q (SaysDeriving w)
  carried w α A β γ (of_rule ρ k) (δ, s, d) =
      let p = joined_apart α (body ρ ++ γ) s in
      let q = joined_apart (body ρ) γ p.rest_said in
      let (ε, says, e) = (meant ρ k).reads q.first q.first_said in
      let is = ap (λ ω. p.first ++ ω) q.is ∙ p.is in (
        p.first ++ (ε ++ q.rest),
        joined_both p.first_said (one_said says q.rest_said),
        derives_trans (derives_context p.first q.rest e) (subst (λ ω. Derives P ω w) (sym is) d),
      )

  name_said : (n : ℕ) → n < length (names_of lines) → {β : List ℕ} → FormSays used roles (n ∷ []) β →
      β ≡ (256 + n) ∷ []
  name_said n l (one_said s nothing_said) =
      rw append-nil (variable_says used roles few s (name_role lines n l))

  -- the terminals that a job derives are those of characters
  abbrev Symbol : ℕ → Type 0
  Symbol = InJob lines

  production_inside : (A : ℕ) (β : List ℕ) → Q A β → All Symbol β
  production_inside A β (of_rule ρ k) = (meant ρ k).inside

  terminals_read : (v : List ℕ) → Terminals v → All Symbol v → (w : List ℕ) × IsString w × ReadAs v w
  unfolding Terminals IsString
  terminals_read [] t nil = ([], tt, no_more)
  terminals_read (X ∷ v) t (cons i is) =
      let (w, s, r) = terminals_read v t.1 is in
      ⊎_elim (λ l. absurd (omega (arith, t.0)))
      (λ (c, u, e). (c ∷ w, (u.0, s), rw e (one_through used 256 c u r))) i

  module _ (l : Line) (is_one : List·Memᴰ l lines) where
    abbrev variable : ℕ
    variable = number_of (names_of lines) l.name

    pub lines_same : (w : List ℕ) → IsString w →
        Derives P ((256 + variable) ∷ []) w ↔ ((v : List ℕ) × ReadAs v w × Derives Q (variable ∷ []) v)
    lines_same w s = (
      λ d.
          let u = all_after production_used d (cons (λ h. absurd (omega arith)) nil) in (
            map (terminal_of used) w,
            used_through used 256 (string_used w s u),
            rw (name_translated used variable, string_translated w s) at
                (text_derives lines known bytes R (λ r m. (rules (rule_of r)).1 (r, m, refl)) d),
          ),
      λ (v, t, d).
          let (β, said, e) =
          before_derivation (SaysDeriving w) (carried w) d (w, through_said used roles t, none) in
          rw (name_said variable (line_numbered lines l is_one) said) at e,
    )

    pub lines_read : (v : List ℕ) → Terminals v → Derives Q (variable ∷ []) v →
        (w : List ℕ) × IsString w × ReadAs v w
    lines_read v t d =
        let has = name_role lines variable (line_numbered lines l is_one) in
        terminals_read v t (all_after production_inside d (cons (inl (omega (arith, has.below))) nil))
