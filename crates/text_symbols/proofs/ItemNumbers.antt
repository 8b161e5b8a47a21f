-- What an item is by its number. Assumes nothing.
use Rattle.grammar.proofs.Basics.{◌≡◌, ℕ, ◌<◌, ◌≤◌, ◌-◌, arith, lt-ltb, le-ltb}
use Rattle.abnf_jobs.specs.Bodies.{named, letter, character}
use Rattle.bodies.specs.Items.{item_from_lem}

module _ (item : ℕ) where
  pub of_character : item < 256 → item_from_lem item ≡ character item
  of_character l = rw (lt-ltb item 256 l)

  pub of_letter : 256 ≤ item → item ≤ 511 → item_from_lem item ≡ letter (item - 256)
  of_letter from to = rw (le-ltb item 256 from, lt-ltb item 512 (omega arith))

  pub of_name : 511 < item → item_from_lem item ≡ named (item - 512)
  of_name l = rw (le-ltb item 256 (omega arith), le-ltb item 512 (omega arith))
