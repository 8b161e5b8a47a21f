-- What items read as: each as one symbol of the text, a letter as either case of it. An alternative reads as its items
-- do, so that the productions of a text are those of its bodies. Assumes nothing.
use Rattle.grammar.proofs.Basics.{◌≡◌, refl, sym, ap, true, false, Bool, List, ◌∷◌, [], map, ℕ, ◌+◌, List·Memᴰ, cases}
use Rattle.abnf.specs.declared.Character.{Character}
use Rattle.abnf.specs.Bytes.{is_alpha_lem, lower}
use Rattle.abnf.specs.Text.{Element, name, characters, Line}
use Rattle.abnf.specs.Meaning.{names_of, StandsFor, itself, same_letter, Spelled, Reads, TextProductions, of_line}
use Rattle.abnf.specs.Meaning.{nothing, one_more, no_element, by_name, by_characters, number_of}
use Rattle.abnf_jobs.specs.Bodies.{Item, named, letter, character, item_of, items_of, Body, body_of, bodies_of}
use Rattle.abnf_jobs.proofs.BodyItems.{body_from, alternative_body}
use Rattle.abnf_jobs.proofs.Joined.{Joined, nothing_said, one_said, joined_both, joined_apart}
use Rattle.abnf_jobs.proofs.LetterCases.{one_case}

-- an item reads as a symbol
abbrev pub ItemReads : Item → ℕ → Type 0
ItemReads (named n) X = X ≡ 256 + n
ItemReads (letter l) X = lower X ≡ l
ItemReads (character b) X = X ≡ b

abbrev pub ItemSays : Item → List ℕ → Type 0
ItemSays x u = (X : ℕ) × (u ≡ X ∷ []) × ItemReads x X

abbrev pub ItemsRead : List Item → List ℕ → Type 0
ItemsRead = Joined ItemSays

one_item : {x : Item} (X : ℕ) {xs : List Item} {β : List ℕ} → ItemReads x X → ItemsRead xs β →
    ItemsRead (x ∷ xs) (X ∷ β)
one_item X i r = one_said {u = X ∷ []} (X, refl, i) r

-- a character's item reads as the characters that it stands for
stands_read : {x : Character} {c : ℕ} → StandsFor x c → ItemReads (item_of x) c
stands_read (itself b) = refl
stands_read (same_letter b c e) = cases (is_alpha_lem b) (λ t. rw t (sym e)) (λ t. rw t (one_case b c t e))

case_read : (b : ℕ) (e : Bool) (c : ℕ) → ItemReads (item_of (record { byte = b; either = e })) c →
    StandsFor (record { byte = b; either = e }) c
case_read b false c r = rw r (itself b)
case_read b true c r =
    same_letter b c (cases (is_alpha_lem b) (λ t. sym (rw t at r)) (λ t. ap lower (sym (rw t at r))))

spelled_read : {cs : List Character} {w : List ℕ} → Spelled cs w → ItemsRead (map item_of cs) w
spelled_read nothing = nothing_said
spelled_read (one_more {c} s w) = one_item c (stands_read s) (spelled_read w)

pub read_stands : (x : Character) (c : ℕ) → ItemReads (item_of x) c → StandsFor x c
read_stands x = case_read x.byte x.either

read_spelled : (cs : List Character) {w : List ℕ} → ItemsRead (map item_of cs) w → Spelled cs w
read_spelled [] nothing_said = nothing
read_spelled (x ∷ cs) (one_said (X, e, i) r) = rw e (one_more (read_stands x X i) (read_spelled cs r))

module _ (names : List (List ℕ)) where
  pub reads_items : {xs : List Element} {β : List ℕ} → Reads names xs β → ItemsRead (items_of names xs) β
  unfolding items_of
  reads_items no_element = nothing_said
  reads_items (by_name {n} r) = one_item (256 + number_of names n) refl (reads_items r)
  reads_items (by_characters s r) = joined_both (spelled_read s) (reads_items r)

  pub items_reads : (xs : List Element) {β : List ℕ} → ItemsRead (items_of names xs) β → Reads names xs β
  unfolding items_of
  items_reads [] nothing_said = no_element
  items_reads (name n ∷ xs) (one_said (X, e, i) r) = rw (e, i) (by_name (items_reads xs r))
  items_reads (characters cs ∷ xs) r =
      let p = joined_apart (map item_of cs) (items_of names xs) r in
      rw (← p.is) (by_characters (read_spelled cs p.first_said) (items_reads xs p.rest_said))

-- so the productions of a text are those of its bodies
pub record OfBody (bodies : List Body) (A : ℕ) (β : List ℕ) : Type 0 where
  pub body : Body
  pub is_one : List·Memᴰ body bodies
  pub head_is : A ≡ 256 + body.head
  pub reads : ItemsRead body.items β

pub production_body : {lines : List Line} {A : ℕ} {β : List ℕ} → TextProductions lines A β →
    OfBody (bodies_of lines) A β
production_body {lines} (of_line l xs m k r) =
    let names = names_of lines in
    record {
      body = body_of names (number_of names l.name) xs;
      is_one = alternative_body names m k;
      head_is = refl;
      reads = reads_items names r;
    }

pub body_production : {lines : List Line} {b : Body} {β : List ℕ} → List·Memᴰ b (bodies_of lines) →
    ItemsRead b.items β → TextProductions lines (256 + b.head) β
body_production {lines} {b} {β} m r =
    let f = body_from (names_of lines) lines b m in
    let names = names_of lines in
    rw (← ap (λ c. c.head) f.is)
    (of_line f.line f.alternative f.line_is_one f.alternative_is_one
    (items_reads names f.alternative (rw (← ap (λ c. c.items) f.is) at r)))
