-- From a text to its job: each production of the text is a derivation by the job's rules, under the job's symbols. The
-- pair rules of a body derive its symbols, and a letter's rules the case that is read. Assumes nothing.
use Rattle.grammar.proofs.Basics.{◌≡◌, refl, ap, true, cond, List, ◌∷◌, [], map, List·Memᴰ, List·Memᴰ·head}
use Rattle.grammar.proofs.Basics.{List·Memᴰ·tail, Memᴰ·append-left, Memᴰ·append-right, ℕ, ◌<◌, ◌≤◌, ◌+◌, ◌-◌, arith}
use Rattle.grammar.proofs.Basics.{length, ltb, lt-ltb, le-ltb, Bool}
use Rattle.grammar.specs.Rule.{Rules, unit, Productions, ProductionsOf, of_rule}
use Rattle.grammar.specs.Derivation.{Derives, none}
use Rattle.grammar.proofs.Derivations.{derives_trans, derives_append, derives_rule}
use Rattle.grammar.proofs.Standing.{string_of, standing_derives}
use Rattle.job.specs.declared.JobRecord.{JobRecord}
use Rattle.job.specs.Job.{rule_of, unit_record}
use Rattle.long_jobs.proofs.Deriving.{split_derives}
use Rattle.abnf.specs.Bytes.{lower}
use Rattle.abnf.specs.Text.{Line}
use Rattle.abnf.specs.Meaning.{names_of, TextProductions}
use Rattle.abnf_jobs.specs.Bodies.{Item, named, letter, character, Body, bodies_of}
use Rattle.abnf_jobs.specs.Characters.{used_in, terminal_of}
use Rattle.abnf_jobs.specs.Roles.{Role, is_met, variable_of, with_letters, tails_of, for_names, roles_of}
use Rattle.abnf_jobs.specs.Rules.{symbol_of, rules_from, letters_rules, rules_of_lines}
use Rattle.abnf_jobs.proofs.Premises.{Known, Bytes}
use Rattle.abnf_jobs.proofs.LetterCases.{at_most_lower, two_cases}
use Rattle.abnf_jobs.proofs.ItemsRead.{ItemReads, ItemsRead, production_body}
use Rattle.abnf_jobs.proofs.Joined.{nothing_said, one_said}
use Rattle.abnf_jobs.proofs.RolePlaces.{Begins, begins_with, begins_trans}
use Rattle.abnf_jobs.proofs.LettersMet.{letters_met, variable_begun, met_begun}
use Rattle.abnf_jobs.proofs.FineItems.{Fine, item_fine}
use Rattle.abnf_jobs.proofs.BodyRules.{Placed, placed, letter_rule}

-- the job's symbol of a symbol of the text
abbrev pub translated : (ℕ → Bool) → ℕ → ℕ
translated used X = cond (ltb X 256) (terminal_of used X) (X - 256)

pub character_translated : (used : ℕ → Bool) (c : ℕ) → c < 256 → translated used c ≡ terminal_of used c
character_translated used c l = rw (lt-ltb c 256 l)

pub name_translated : (used : ℕ → Bool) (n : ℕ) → translated used (256 + n) ≡ n
name_translated used n = rw (le-ltb (256 + n) 256 (omega arith)) (omega arith)

string_mapped : (f : ℕ → ℕ) (α : List ℕ) → string_of (λ X. f X ∷ []) α ≡ map f α
unfolding string_of
string_mapped f [] = refl
string_mapped f (X ∷ α) = ap (λ β. f X ∷ β) (string_mapped f α)

module _ (lines : List Line) (known : Known lines) (bytes : Bytes lines) (R : Rules)
    (written : (r : JobRecord) → List·Memᴰ r (rules_of_lines lines) → R (rule_of r)) where
  abbrev used : ℕ → Bool
  used = used_in (bodies_of lines)

  abbrev roles : List Role
  roles = roles_of lines

  abbrev Q : Productions
  Q = ProductionsOf R

  letter_derives : (l c : ℕ) → is_met roles l ≡ true → (97 ≤ l) × (l ≤ 122) → lower c ≡ l →
      Derives Q (variable_of roles l ∷ []) (terminal_of used c ∷ [])
  unfolding rule_of
  letter_derives l c m (g, h) e =
      let rule = letter_rule used roles l c m ((two_cases l c g h).0 e) 26 g (omega arith) in
      derives_rule (unit (variable_of roles l) (terminal_of used c))
      (written (unit_record (variable_of roles l) (terminal_of used c))
      (Memᴰ·append-right (rules_from used (for_names (length (names_of lines))) (bodies_of lines)) rule)) none

  module _ (b : Body) (m : List·Memᴰ b (bodies_of lines)) where
    place : Placed used (for_names (length (names_of lines))) (bodies_of lines) b
    place = placed used (for_names (length (names_of lines))) (bodies_of lines) b m

    abbrev before : List Role
    before = with_letters place.before b.items

    begin : Begins before roles
    begin = begins_trans (begins_with (tails_of b.items)) place.begin

    reads_derives : (x : Item) (X : ℕ) → List·Memᴰ x b.items → Fine (length (names_of lines)) x → ItemReads x X →
        Derives Q (symbol_of used before x ∷ []) (translated used X ∷ [])
    reads_derives (named n) X k fine r = rw (r, name_translated used n) none
    reads_derives (letter l) X k fine r =
        let met = letters_met place.before b.items l k in
        let below : X < 256 = omega (arith, at_most_lower X) in
        rw (← variable_begun l begin met, character_translated used X below)
        (letter_derives l X (met_begun l begin met) fine r)
    reads_derives (character c) X k fine r = rw (r, character_translated used c fine) none

    items_derive : {xs : List Item} {β : List ℕ} → ((x : Item) → List·Memᴰ x xs → List·Memᴰ x b.items) →
        ItemsRead xs β → Derives Q (map (symbol_of used before) xs) (map (translated used) β)
    items_derive among nothing_said = none
    items_derive among (one_said {x} (X, e, i) r) =
        let k = among x (List·Memᴰ·head refl) in
        rw e
        (derives_append {α = symbol_of used before x ∷ []} {β = translated used X ∷ []}
        (reads_derives x X k (item_fine lines b m known bytes x k) i)
        (items_derive (λ y j. among y (List·Memᴰ·tail j)) r))

    body_derives : Derives Q (b.head ∷ []) (map (symbol_of used before) b.items)
    body_derives =
        split_derives (rules_of_lines lines) (λ k. k) Q (λ r k t. of_rule (rule_of r) (written r k)) b.head
        (map (symbol_of used before) b.items) _
        (λ r k. Memᴰ·append-left (letters_rules used roles 26) (place.within r k))

  production_derives : (A : ℕ) (β : List ℕ) → TextProductions lines A β →
      Derives Q (translated used A ∷ []) (map (translated used) β)
  production_derives A β p =
      let of = production_body p in
      rw (of.head_is, name_translated used of.body.head)
      (derives_trans (body_derives of.body of.is_one)
      (items_derive of.body of.is_one (λ x k. k) of.reads))

  -- so what a text derives is derived by the job, under the job's symbols
  pub text_derives : {α β : List ℕ} → Derives (TextProductions lines) α β →
      Derives Q (map (translated used) α) (map (translated used) β)
  text_derives {α} {β} d =
      let σ : ℕ → List ℕ = λ X. translated used X ∷ [] in
      let e : Derives Q (string_of σ α) (string_of σ β) =
      standing_derives σ (λ A γ p. rw (string_mapped (translated used) γ) (production_derives A γ p)) d in
      rw (string_mapped (translated used) α, string_mapped (translated used) β) at e
