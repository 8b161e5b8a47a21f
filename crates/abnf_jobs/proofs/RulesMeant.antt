-- Each rule of a text's job means what the text says: from what its body says, its head says something that derives it
-- by the text. A name's variable takes one step, a tail's or a letter's none. Assumes nothing.
use Rattle.grammar.proofs.Basics.{◌≡◌, refl, subst, ⊎_elim, inl, inr, ◌⊎◌, true, Bool, List, ◌∷◌, [], append-nil, map}
use Rattle.grammar.proofs.Basics.{List·Memᴰ, List·Memᴰ·head, List·Memᴰ·tail, ℕ, suc, ◌<◌, ◌≤◌, ◌+◌, arith, length}
use Rattle.grammar.proofs.Basics.{add-zero}
use Rattle.grammar.specs.Rule.{Rule, empty, unit, pair, Productions, head, body}
use Rattle.grammar.specs.Derivation.{Derives, none}
use Rattle.grammar.proofs.Derivations.{derives_production}
use Rattle.grammar.proofs.Strings.{All, nil, cons}
use Rattle.job.specs.declared.JobRecord.{JobRecord}
use Rattle.job.specs.Job.{rule_of, empty_record, unit_record, pair_record}
use Rattle.long_jobs.specs.Convert.{Conversion, write, take_one, split}
use Rattle.abnf.specs.Bytes.{lower}
use Rattle.abnf.specs.Text.{Line}
use Rattle.abnf.specs.Meaning.{names_of, TextProductions}
use Rattle.abnf_jobs.specs.Bodies.{Item, named, letter, character, Body, bodies_of}
use Rattle.abnf_jobs.specs.Characters.{used_in, terminal_of}
use Rattle.abnf_jobs.specs.Roles.{Role, for_name, for_letter, for_tail, is_met, variable_of, with_letters, tails_of}
use Rattle.abnf_jobs.specs.Roles.{for_names, roles_of}
use Rattle.abnf_jobs.specs.Rules.{symbol_of, rules_of_lines}
use Rattle.abnf_jobs.proofs.Premises.{Known, Bytes}
use Rattle.abnf_jobs.proofs.EveryMember.{Every, every_none, every_behind}
use Rattle.abnf_jobs.proofs.BodyItems.{body_from}
use Rattle.abnf_jobs.proofs.KnownNames.{line_numbered}
use Rattle.abnf_jobs.proofs.LetterCases.{at_most_lower, two_cases}
use Rattle.abnf_jobs.proofs.ItemsRead.{ItemSays, ItemsRead, body_production}
use Rattle.abnf_jobs.proofs.Joined.{nothing_said, one_said}
use Rattle.abnf_jobs.proofs.RolePlaces.{Has, has_behind, has_begun, Begins, begins_with, begins_trans}
use Rattle.abnf_jobs.proofs.RolePlaces.{bodies_begin, name_has}
use Rattle.abnf_jobs.proofs.LettersMet.{letter_has, letters_met, letter_of}
use Rattle.abnf_jobs.proofs.CharacterNumbers.{Used}
use Rattle.abnf_jobs.proofs.FineItems.{item_fine, item_used}
use Rattle.abnf_jobs.proofs.RuleOrigins.{FromBody, FromLetter, rule_origin}
use Rattle.abnf_jobs.proofs.Saying.{Says, as_variable, FormSays, variable_says, terminal_says}

module _ (lines : List Line) where
  abbrev used : ℕ → Bool
  used = used_in (bodies_of lines)

  abbrev roles : List Role
  roles = roles_of lines

  abbrev names : ℕ
  names = length (names_of lines)

  abbrev P : Productions
  P = TextProductions lines

  -- a symbol of the job: a variable, or the terminal of a character that is used
  abbrev pub InJob : ℕ → Type 0
  InJob X = (X < 32) ⊎ ((c : ℕ) × Used used 256 c × (X ≡ terminal_of used c))

  -- a variable says something from which a string is derived by the text
  abbrev pub Reaches : ℕ → List ℕ → Type 0
  Reaches A β = (α : List ℕ) × Says used roles A α × Derives P α β

  -- a rule means what the text says: its head reaches what its body says
  pub record Meant (ρ : Rule) : Type 0 where
    pub reads : (β : List ℕ) → FormSays used roles (body ρ) β → Reaches (head ρ) β
    pub inside : All InJob (body ρ)

  pub name_role : (n : ℕ) → n < names → Has roles n (for_name n)
  name_role n l = has_begun (bodies_begin (for_names names) (bodies_of lines)) (name_has names n l)

  -- the roles from a number on begin with these
  abbrev RolesFrom : ℕ → List Role → Type 0
  RolesFrom k rs = (j : ℕ) (r : Role) → Has rs j r → Has roles (k + j) r

  -- a record means what the text says
  abbrev Right : JobRecord → Type 0
  Right r = Meant (rule_of r)

  module _ (known : Known lines) (bytes : Bytes lines) (few : length roles ≤ 32) where
    variable_in : {A : ℕ} {r : Role} → Has roles A r → InJob A
    variable_in h = inl (omega (arith, h.below))

    -- a body, behind roles that its letters are among
    module _ (b : Body) (is_one : List·Memᴰ b (bodies_of lines)) (before : List Role) (begin : Begins before roles)
        (met : (l : ℕ) → List·Memᴰ (letter l) b.items → is_met before l ≡ true) where
      abbrev symbol : Item → ℕ
      symbol = symbol_of used before

      letter_role : (l : ℕ) → List·Memᴰ (letter l) b.items → Has roles (variable_of before l) (for_letter l)
      letter_role l k = has_begun begin (letter_has before l (met l k))

      character_used : (c : ℕ) → List·Memᴰ (character c) b.items → Used used 256 c
      character_used c k =
          let below = item_fine lines b is_one known bytes (character c) k in
          (below, item_used lines b is_one (character c) c k refl below)

      item_says : (x : Item) {u : List ℕ} → List·Memᴰ x b.items → Says used roles (symbol x) u → ItemSays x u
      item_says (named n) k s =
          (256 + n, variable_says used roles few s (name_role n (known.known b is_one n k)), refl)
      item_says (letter l) k s = variable_says used roles few s (letter_role l k)
      item_says (character c) k s = (c, terminal_says used roles few c s (character_used c k) refl, refl)

      item_in : (x : Item) → List·Memᴰ x b.items → InJob (symbol x)
      item_in (named n) k = variable_in (name_role n (known.known b is_one n k))
      item_in (letter l) k = variable_in (letter_role l k)
      item_in (character c) k = inr (c, character_used c k, refl)

      abbrev Among : List Item → Type 0
      Among xs = (x : Item) → List·Memᴰ x xs → List·Memᴰ x b.items

      items_say : (xs : List Item) → Among xs → {β : List ℕ} → FormSays used roles (map symbol xs) β → ItemsRead xs β
      items_say [] among nothing_said = nothing_said
      items_say (x ∷ xs) among (one_said s t) =
          one_said (item_says x (among x (List·Memᴰ·head refl)) s)
          (items_say xs (λ y k. among y (List·Memᴰ·tail k)) t)

      items_in : (xs : List Item) → Among xs → All InJob (map symbol xs)
      items_in [] among = nil
      items_in (x ∷ xs) among =
          cons (item_in x (among x (List·Memᴰ·head refl))) (items_in xs (λ y k. among y (List·Memᴰ·tail k)))

      -- an item and a tail
      tail_says : (x : Item) (xs : List Item) (T : ℕ) → Among (x ∷ xs) → Has roles T (for_tail xs) → {β : List ℕ} →
          FormSays used roles (symbol x ∷ T ∷ []) β → ItemsRead (x ∷ xs) β
      tail_says x xs T among h (one_said s (one_said t nothing_said)) =
          rw append-nil (one_said (item_says x (among x (List·Memᴰ·head refl)) s) (variable_says used roles few t h))

      -- a rule whose body is that of the items
      items_meant : (ρ : Rule) (xs : List Item) → Among xs → body ρ ≡ map symbol xs →
          ((β : List ℕ) → ItemsRead xs β → Reaches (head ρ) β) → Meant ρ
      items_meant ρ xs among e reach =
          record { reads = λ β s. reach β (items_say xs among (rw e at s)); inside = rw e (items_in xs among) }

      split_right : (A : ℕ) (xs : List Item) (c : Conversion) → Among xs →
          ((β : List ℕ) → ItemsRead xs β → Reaches A β) → RolesFrom c.taken (tails_of xs) →
          Every Right c.written → Every Right (split (λ k. k) A (map symbol xs) c).written
      unfolding split tails_of rule_of
      split_right A [] c among reach behind right =
          every_behind Right c.written {x = empty_record A} right (items_meant (empty A) [] among refl reach)
      split_right A (x ∷ []) c among reach behind right =
          every_behind Right c.written {x = unit_record A (symbol x)} right
          (items_meant (unit A (symbol x)) (x ∷ []) among refl reach)
      split_right A (x ∷ y ∷ []) c among reach behind right =
          every_behind Right c.written {x = pair_record A (symbol x) (symbol y)} right
          (items_meant (pair A (symbol x) (symbol y)) (x ∷ y ∷ []) among refl reach)
      split_right A (x ∷ y ∷ z ∷ xs) c among reach behind right =
          let T = c.taken in
          let h : Has roles T (for_tail (y ∷ z ∷ xs)) =
          rw add-zero at (behind 0 (for_tail (y ∷ z ∷ xs)) (record { below = omega arith; is = refl })) in
          split_right T (y ∷ z ∷ xs) (take_one (write (pair_record A (symbol x) T) c))
          (λ w k. among w (List·Memᴰ·tail k))
          (λ β r. (β, as_variable (for_tail (y ∷ z ∷ xs)) h r, none))
          (λ j r k.
          let e : T + suc j ≡ suc T + j = omega arith in
          rw e at (behind (suc j) r (record { below = omega (arith, k.below); is = k.is })))
          (every_behind Right c.written {x = pair_record A (symbol x) T} right
          (record {
            reads = λ β s. reach β (tail_says x (y ∷ z ∷ xs) T among h s);
            inside = cons (item_in x (among x (List·Memᴰ·head refl))) (cons (variable_in h) nil);
          }))

    -- a body's variable takes a step of the text
    body_reaches : (b : Body) → List·Memᴰ b (bodies_of lines) → (β : List ℕ) → ItemsRead b.items β →
        Reaches b.head β
    body_reaches b m β r =
        let f = body_from (names_of lines) lines b m in
        let below : b.head < names =
        subst (λ (c : Body). c.head < names) f.is (line_numbered lines f.line f.line_is_one) in (
          (256 + b.head) ∷ [],
          as_variable (for_name b.head) (name_role b.head below) refl,
          derives_production (body_production m r) none,
        )

    body_right : (r : JobRecord) → FromBody used (for_names names) (bodies_of lines) r → Right r
    body_right r f =
        let b = f.body in
        let before = with_letters f.before b.items in
        split_right b f.is_one before (begins_trans (begins_with (tails_of b.items)) f.begin)
        (letters_met f.before b.items) b.head b.items _ (λ x k. k) (body_reaches b f.is_one)
        (λ j s k. has_begun f.begin (has_behind before k)) (every_none Right) r f.written

    one_character : (c : ℕ) → Used used 256 c → {β : List ℕ} → FormSays used roles (terminal_of used c ∷ []) β →
        β ≡ c ∷ []
    one_character c k (one_said s nothing_said) = rw append-nil (terminal_says used roles few c s k refl)

    letter_meant : (l c : ℕ) → is_met roles l ≡ true → Used used 256 c → lower c ≡ l →
        Right (unit_record (variable_of roles l) (terminal_of used c))
    unfolding rule_of
    letter_meant l c met k e =
        let has = letter_has roles l met in
        record {
          reads = λ β s. rw (one_character c k s) (c ∷ [], as_variable (for_letter l) has (c, refl, e), none);
          inside = cons (inr (c, k, refl)) nil;
        }

    letter_right : (r : JobRecord) → FromLetter used roles 26 r → Right r
    letter_right r f =
        let l = f.small in
        let c = f.terminal in
        let e : lower c ≡ l = (two_cases l c f.is_small.0 (omega (arith, f.is_small.1))).1 f.either in
        let below : c < 256 = omega (arith, at_most_lower c, f.is_small.1) in
        let of = letter_of l names (bodies_of lines) f.met in
        rw f.is
        (letter_meant l c f.met
        (below, item_used lines of.body of.is_one (letter l) c of.stands e below) e)

    pub rule_meant : (r : JobRecord) → List·Memᴰ r (rules_of_lines lines) → Meant (rule_of r)
    rule_meant r m = ⊎_elim (body_right r) (letter_right r) (rule_origin lines r m)
