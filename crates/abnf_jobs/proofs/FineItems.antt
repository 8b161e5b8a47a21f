-- The items of a text's bodies are fine: names that begin lines, small letters and bytes. The characters that they
-- read as are used. Assumes nothing.
use Rattle.grammar.proofs.Basics.{◌≡◌, refl, sym, subst, true, false, ◌&&◌, cases, List·Memᴰ, List, ℕ, ◌<◌, ◌≤◌, arith}
use Rattle.grammar.proofs.Basics.{length, and_right}
use Rattle.abnf.specs.declared.Character.{Character}
use Rattle.abnf.specs.Bytes.{is_alpha_lem}
use Rattle.abnf.specs.Text.{Line}
use Rattle.abnf.specs.Meaning.{names_of}
use Rattle.abnf_jobs.specs.Bodies.{Item, named, letter, character, item_of, Body, bodies_of}
use Rattle.abnf_jobs.specs.Characters.{used_in}
use Rattle.abnf_jobs.proofs.Premises.{Known, Bytes}
use Rattle.abnf_jobs.proofs.BodyItems.{is_named_lem, item_character}
use Rattle.abnf_jobs.proofs.UsedCharacters.{used_is}
use Rattle.abnf_jobs.proofs.LetterCases.{letter_range}
use Rattle.abnf_jobs.proofs.ItemsRead.{ItemReads, read_stands}

-- by how many names there are
abbrev pub Fine : ℕ → Item → Type 0
Fine names (named n) = n < names
Fine names (letter l) = (97 ≤ l) × (l ≤ 122)
Fine names (character b) = b < 256

character_fine : (names : ℕ) (c : Character) → c.byte < 256 → Fine names (item_of c)
character_fine names c l =
    cases (c.either && is_alpha_lem c.byte)
    (λ t. rw t (letter_range c.byte (and_right c.either (is_alpha_lem c.byte) t)))
    (λ t. rw t l)

module _ (lines : List Line) (b : Body) (m : List·Memᴰ b (bodies_of lines)) where
  module _ (known : Known lines) (bytes : Bytes lines) where
    abbrev names : ℕ
    names = length (names_of lines)

    other_fine : (x : Item) → List·Memᴰ x b.items → is_named_lem x ≡ false → Fine names x
    other_fine x k t =
        let (c, it, e) = item_character lines b x m k t in
        subst (Fine names) e (character_fine names c (bytes.below c it))

    pub item_fine : (x : Item) → List·Memᴰ x b.items → Fine names x
    item_fine (named n) k = known.known b m n k
    item_fine (letter l) k = other_fine (letter l) k refl
    item_fine (character c) k = other_fine (character c) k refl

  other_used : (x : Item) (c : ℕ) → List·Memᴰ x b.items → ItemReads x c → is_named_lem x ≡ false →
      used_in (bodies_of lines) c ≡ true
  other_used x c k r t =
      let (y, it, e) = item_character lines b x m k t in
      (used_is lines c).1
      (record { by = y; stands = it; stands_for_lem = read_stands y c (subst (λ z. ItemReads z c) (sym e) r) })

  pub item_used : (x : Item) (c : ℕ) → List·Memᴰ x b.items → ItemReads x c → c < 256 →
      used_in (bodies_of lines) c ≡ true
  item_used (named n) c k r l = absurd (omega arith)
  item_used (letter d) c k r l = other_used (letter d) c k r refl
  item_used (character d) c k r l = other_used (character d) c k r refl
