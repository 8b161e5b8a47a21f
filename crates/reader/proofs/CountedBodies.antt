-- The first walk: what is counted and marked for the bodies up to some is what they need, so at the end what the text
-- needs; where it is more than 32 variables, so it is at the end. Assumes nothing.
use Rattle.grammar.proofs.Basics.{◌≡◌, subst, Bool, false, ◌||◌, List, [], ◌∷◌, ◌++◌, map, ℕ, ◌<◌, ◌≤◌, ◌+◌, ◌-◌, arith}
use Rattle.grammar.proofs.Basics.{length, take, replicate}
use Rattle.abnf.specs.Text.{Line}
use Rattle.abnf.specs.Meaning.{names_of}
use Rattle.abnf_jobs.specs.Bodies.{Body, bodies_of}
use Rattle.abnf_jobs.specs.Characters.{some_for, used_in}
use Rattle.abnf_jobs.specs.Roles.{roles_of}
use Rattle.abnf_jobs.proofs.Premises.{Known, Bytes}
use Rattle.bodies.specs.Items.{code_of, item_from_lem}
use Rattle.std.specs.Prelude.{None}
use Rattle.text_symbols.specs.declared.letters.Variables.{Variables}
use Rattle.text_symbols.specs.Letters.{LettersFit, LettersTaken}
use Rattle.text_symbols.specs.Marks.{Marked, marked}
use Rattle.reader.specs.Walk.{Needs, with_tails}
use Rattle.reader.proofs.KeptItems.{items_back, items_fit, kept_too_many, kept_all, kept_long}
use Rattle.reader.proofs.CharacterMarks.{marked_none, marked_more}
use Rattle.reader.proofs.BodiesWalked.{Walked, walked_none, walked_few, walked_bodies, walked_all, items_fine}
use Rattle.reader.proofs.BodiesWalked.{body_few, walked_more}

-- some bodies are counted, and these are left
pub record Counted (lines : List Line) (left : List Body) (v : Variables) (used : List Bool) : Type 0 where
  pub done : List Body
  pub walked : Walked lines done left v
  pub few : v.taken ≤ 32
  pub marks : Marked (used_in done) used

pub counted_none : (lines : List Line) {used : List Bool} → length (names_of lines) ≤ 32 → Marked (λ c. false) used →
    Counted lines (bodies_of lines) (record { letters = replicate 26 None; taken = length (names_of lines) }) used
counted_none lines few none =
    record { done = []; walked = walked_none lines; few = few; marks = marked_none none }

-- more variables than there are numbers are needed
pub needs_more : {lines : List Line} {used : List Bool} → 32 < length (roles_of lines) → Needs lines 33 used
needs_more more =
    record { more = λ l. more; counted = λ l. absurd (omega arith); marks = λ l. absurd (omega arith) }

module _ {lines : List Line} {left : List Body} {v : Variables} {used : List Bool}
    (it : Counted lines left v used) where
  pub counted_all : left ≡ [] → Needs lines v.taken used
  counted_all none =
      record {
        more = λ l. omega (arith, it.few);
        counted = λ l. (walked_all it.walked none).counted;
        marks = λ l. subst (λ bs. Marked (used_in bs) used) (walked_bodies it.walked none) it.marks;
      }

-- one body more
module _ {lines : List Line} (known : Known lines) (bytes : Bytes lines) (names_few : length (names_of lines) ≤ 32)
    {rest : List Body} {v : Variables} {used : List Bool} (b : Body)
    (it : Counted lines (b ∷ rest) v used) {items : List ℕ}
    (kept : items ≡ take 35 (map code_of b.items)) where
  pub counted_too_many : length items ≡ 35 → Needs lines 33 used
  counted_too_many e =
      needs_more (omega (arith, kept_too_many b.items kept e, body_few known bytes b it.walked))

  module _ (fewer : length items < 35) where
    pub kept_fit : LettersFit items
    kept_fit =
        rw (kept_all b.items kept fewer)
        (λ i l. (items_fit (length (names_of lines)) names_few b.items
        (items_fine known bytes b it.walked) i l).letter)

    module _ {after : Variables} (more : LettersTaken items v after) where
      of_body : LettersTaken (map code_of b.items) v after
      of_body = rw (← kept_all b.items kept fewer) more

      further : Walked lines (it.done ++ (b ∷ [])) rest (with_tails items after)
      further = rw (kept_long b.items kept fewer) (walked_more known bytes b it.walked of_body)

      pub taken_too_many : {now : List Bool} → 32 < after.taken + (length items - 2) → Needs lines 33 now
      taken_too_many l = needs_more (omega (arith, walked_few further))

      pub counted_more : {now : List Bool} → after.taken + (length items - 2) ≤ 32 →
          Marked (λ c. marked used c || some_for (map item_from_lem items) c) now →
          Counted lines rest (with_tails items after) now
      counted_more few marks =
          record {
            done = it.done ++ (b ∷ []);
            walked = further;
            few = few;
            marks =
                marked_more it.done b it.marks
                (rw (
                  ← items_back (length (names_of lines)) b.items (items_fine known bytes b it.walked),
                  ← kept_all b.items kept fewer,
                ) marks);
          }
