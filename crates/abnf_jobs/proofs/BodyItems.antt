-- Bodies come from the alternatives of lines, and their items from the elements of these. Assumes nothing.
use Rattle.grammar.proofs.Basics.{cases, true_and_false, Bool, true, false, ◌&&◌, sym, ap, ◌∙◌, ◌≡◌, refl, subst}
use Rattle.grammar.proofs.Basics.{⊎_elim, List, [], ◌∷◌, map, List·Memᴰ, List·Memᴰ·head, List·Memᴰ·tail}
use Rattle.grammar.proofs.Basics.{List·Memᴰ·not-nil, List·Memᴰ·cases-cons, List·Memᴰ·append-cases, Memᴰ·append-left}
use Rattle.grammar.proofs.Basics.{Memᴰ·append-right, Memᴰ·of-map, ℕ}
use mathlib.Core.List.Memᴰ
use Rattle.abnf.specs.declared.Character.{Character}
use Rattle.abnf.specs.Bytes.{is_alpha_lem}
use Rattle.abnf.specs.Text.{Element, name, characters, Line}
use Rattle.abnf.specs.Meaning.{number_of, names_of}
use Rattle.abnf_jobs.specs.Bodies.{Item, named, letter, character, item_of, items_of, Body, body_of, bodies_from}
use Rattle.abnf_jobs.specs.Bodies.{bodies_of}
use Rattle.abnf_jobs.specs.Theorems.Written.{CharacterIn}

-- an item that is a name
abbrev pub is_named_lem : Item → Bool
is_named_lem (named n) = true
is_named_lem (letter l) = false
is_named_lem (character b) = false

pub character_not_named : (c : Character) → is_named_lem (item_of c) ≡ false
character_not_named c = cases (c.either && is_alpha_lem c.byte) (λ t. rw t) (λ t. rw t)

-- an item is a name's or a character's
pub data ItemFrom (names : List (List ℕ)) (xs : List Element) (x : Item) : Type 0 where
  of_name : (n : List ℕ) → List·Memᴰ (name n) xs → x ≡ named (number_of names n) → ItemFrom names xs x
  of_character : (cs : List Character) (c : Character) → List·Memᴰ (characters cs) xs → List·Memᴰ c cs →
      item_of c ≡ x → ItemFrom names xs x

-- a body is an alternative's
pub record BodyFrom (names : List (List ℕ)) (lines : List Line) (b : Body) : Type 0 where
  pub line : Line
  pub line_is_one : List·Memᴰ line lines
  pub alternative : List Element
  pub alternative_is_one : List·Memᴰ alternative line.alternatives
  pub is : body_of names (number_of names line.name) alternative ≡ b

abbrev characters_in : Element → List Character
characters_in (name n) = []
characters_in (characters cs) = cs

module _ (names : List (List ℕ)) where
  item_further : {xs : List Element} {x : Item} (y : Element) → ItemFrom names xs x → ItemFrom names (y ∷ xs) x
  item_further y (of_name n m e) = of_name n (List·Memᴰ·tail m) e
  item_further y (of_character cs c m k e) = of_character cs c (List·Memᴰ·tail m) k e

  pub item_from : (xs : List Element) (x : Item) → List·Memᴰ x (items_of names xs) → ItemFrom names xs x
  unfolding items_of
  item_from [] x m = absurd (List·Memᴰ·not-nil m)
  item_from (name n ∷ xs) x m =
      ⊎_elim
      (λ e. of_name n (List·Memᴰ·head refl) e)
      (λ k. item_further (name n) (item_from xs x k)) (List·Memᴰ·cases-cons m)
  item_from (characters cs ∷ xs) x m =
      ⊎_elim
      (λ k. let (c, j, e) = Memᴰ·of-map item_of cs k in of_character cs c (List·Memᴰ·head refl) j e)
      (λ k. item_further (characters cs) (item_from xs x k)) (List·Memᴰ·append-cases (map item_of cs) m)

  -- each character of an alternative has its item
  element_item : (xs : List Element) (x : Element) (c : Character) → List·Memᴰ x xs → List·Memᴰ c (characters_in x) →
      List·Memᴰ (item_of c) (items_of names xs)
  unfolding items_of
  element_item [] x c m k = absurd (List·Memᴰ·not-nil m)
  element_item (name n ∷ xs) x c (List·Memᴰ·head e) k =
      absurd (List·Memᴰ·not-nil (subst (λ y. List·Memᴰ c (characters_in y)) e k))
  element_item (name n ∷ xs) x c (List·Memᴰ·tail m) k = List·Memᴰ·tail (element_item xs x c m k)
  element_item (characters cs ∷ xs) x c (List·Memᴰ·head e) k =
      Memᴰ·append-left (items_of names xs) (Memᴰ.map item_of (subst (λ y. List·Memᴰ c (characters_in y)) e k))
  element_item (characters cs ∷ xs) x c (List·Memᴰ·tail m) k =
      Memᴰ·append-right (map item_of cs) (element_item xs x c m k)

  pub character_item_lem : {xs : List Element} {cs : List Character} {c : Character} → List·Memᴰ (characters cs) xs →
      List·Memᴰ c cs → List·Memᴰ (item_of c) (items_of names xs)
  character_item_lem {xs} {cs} {c} = element_item xs (characters cs) c

  pub body_from : (lines : List Line) (b : Body) → List·Memᴰ b (bodies_from names lines) → BodyFrom names lines b
  unfolding bodies_from
  body_from [] b m = absurd (List·Memᴰ·not-nil m)
  body_from (l ∷ ls) b m =
      ⊎_elim
      (λ k.
      let (xs, j, e) = Memᴰ·of-map (body_of names (number_of names l.name)) l.alternatives k in
      record {
        line = l;
        line_is_one = List·Memᴰ·head refl;
        alternative = xs;
        alternative_is_one = j;
        is = e;
      })
      (λ k.
      let f = body_from ls b k in
      record {
        line = f.line;
        line_is_one = List·Memᴰ·tail f.line_is_one;
        alternative = f.alternative;
        alternative_is_one = f.alternative_is_one;
        is = f.is;
      })
      (List·Memᴰ·append-cases (map (body_of names (number_of names l.name)) l.alternatives) m)

  -- and each alternative its body
  pub alternative_body : {l : Line} {lines : List Line} {xs : List Element} → List·Memᴰ l lines →
      List·Memᴰ xs l.alternatives → List·Memᴰ (body_of names (number_of names l.name) xs) (bodies_from names lines)
  unfolding bodies_from
  alternative_body {l} {xs} (List·Memᴰ·head {x = k} {xs = ls} e) m =
      rw (← e) (Memᴰ·append-left (bodies_from names ls) (Memᴰ.map (body_of names (number_of names l.name)) m))
  alternative_body (List·Memᴰ·tail {x = k} {xs = ls} h) m =
      Memᴰ·append-right (map (body_of names (number_of names k.name)) k.alternatives) (alternative_body h m)

-- so the items that are no names are those of the characters of the text
module _ (lines : List Line) where
  element_character : {l : Line} {xs : List Element} {x : Item} → List·Memᴰ l lines → List·Memᴰ xs l.alternatives →
      is_named_lem x ≡ false → ItemFrom (names_of lines) xs x → (c : Character) × CharacterIn lines c × (item_of c ≡ x)
  element_character h m other (of_name n k e) = true_and_false refl (sym (ap is_named_lem e) ∙ other)
  element_character {l} {xs} h m other (of_character cs c k j e) = (
    c,
    record {
      line = l;
      line_is_one = h;
      alternative = xs;
      alternative_is_one = m;
      literal = cs;
      literal_is_one = k;
      character_is_one = j;
    },
    e,
  )

  pub item_character : (b : Body) (x : Item) → List·Memᴰ b (bodies_of lines) → List·Memᴰ x b.items →
      is_named_lem x ≡ false → (c : Character) × CharacterIn lines c × (item_of c ≡ x)
  item_character b x m k other =
      let from = body_from (names_of lines) lines b m in
      element_character from.line_is_one from.alternative_is_one other
      (item_from (names_of lines) from.alternative x
      (subst (λ (y : Body). List·Memᴰ x y.items) (sym from.is) k))

  pub character_in : (c : Character) → CharacterIn lines c →
      (b : Body) × List·Memᴰ b (bodies_of lines) × List·Memᴰ (item_of c) b.items
  character_in c it = (
    body_of (names_of lines) (number_of (names_of lines) it.line.name) it.alternative,
    alternative_body (names_of lines) it.line_is_one it.alternative_is_one,
    character_item_lem (names_of lines) it.literal_is_one it.character_is_one,
  )
