-- The items of a body as numbers: fine items are read back from theirs, which fit. Those that are kept are all, or the
-- body alone takes more than 32 variables. Assumes nothing.
use Rattle.grammar.proofs.Basics.{◌≡◌, refl, ◌∙◌, ap, ap₂, List, [], ◌∷◌, map, List·Memᴰ·head, List·Memᴰ·tail, ℕ}
use Rattle.grammar.proofs.Basics.{zero, suc, ◌<◌, ◌≤◌, arith, length, take, length-map, length-take}
use lib.Seq.{take_all}
use Rattle.abnf_jobs.specs.Bodies.{Item, named, letter, character}
use Rattle.abnf_jobs.specs.Roles.{tails_of}
use Rattle.abnf_jobs.proofs.EveryMember.{Every}
use Rattle.abnf_jobs.proofs.FineItems.{Fine}
use Rattle.abnf_jobs.proofs.VariablesOnce.{tails_long}
use Rattle.bodies.specs.Items.{code_of, item_from_lem}
use Rattle.text_symbols.specs.Keys.{ItemFits, ItemsFit}
use Rattle.text_symbols.proofs.ItemNumbers.{of_character, of_letter, of_name}

module _ (names : ℕ) where
  item_back : (x : Item) → Fine names x → item_from_lem (code_of x) ≡ x
  item_back (named n) f = of_name (code_of (named n)) (omega arith) ∙ ap named (omega arith)
  item_back (letter l) f = of_letter (code_of (letter l)) (omega arith) (omega arith) ∙ ap letter (omega arith)
  item_back (character b) f = of_character b f

  pub items_back : (xs : List Item) → Every (Fine names) xs → map item_from_lem (map code_of xs) ≡ xs
  items_back [] fine = refl
  items_back (x ∷ xs) fine =
      ap₂ ◌∷◌ (item_back x (fine x (List·Memᴰ·head refl))) (items_back xs (λ y m. fine y (List·Memᴰ·tail m)))

  module _ (few : names ≤ 32) where
    item_fits : (x : Item) → Fine names x → ItemFits (code_of x)
    item_fits (named n) f = record { letter = record { letter = λ g h. omega arith }; name = omega arith }
    item_fits (letter l) f = record { letter = record { letter = λ g h. omega arith }; name = omega arith }
    item_fits (character b) f = record { letter = record { letter = λ g h. omega arith }; name = omega arith }

    pub items_fit : (xs : List Item) → Every (Fine names) xs → ItemsFit (map code_of xs)
    items_fit [] fine i l = absurd (omega arith)
    items_fit (x ∷ xs) fine zero l = item_fits x (fine x (List·Memᴰ·head refl))
    items_fit (x ∷ xs) fine (suc i) l = items_fit xs (λ y m. fine y (List·Memᴰ·tail m)) i (omega arith)

module _ {items : List ℕ} (xs : List Item) (kept : items ≡ take 35 (map code_of xs)) where
  kept_count : length items ≡ length (take 35 (map code_of xs))
  kept_count = ap length kept

  pub kept_few : length items ≤ 35
  kept_few = omega (arith, kept_count, length-take 35 (map code_of xs))

  pub kept_too_many : length items ≡ 35 → 32 < length (tails_of xs)
  kept_too_many e =
      omega (arith, kept_count, length-take 35 (map code_of xs), length-map xs code_of, tails_long xs)

  module _ (fewer : length items < 35) where
    pub kept_all : items ≡ map code_of xs
    kept_all =
        kept ∙ take_all 35 (map code_of xs) (omega (arith, kept_count, length-take 35 (map code_of xs)))

    pub kept_long : length items ≡ length xs
    kept_long = omega (arith, kept_count, length-take 35 (map code_of xs), length-map xs code_of)
