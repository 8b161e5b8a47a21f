-- Items by their numbers, as the code takes them apart. Assumes nothing.
use Rattle.std.specs.Prelude.{ℕ, ◌+◌, ◌<◌, ◌≡◌}
use Rattle.text_symbols.specs.declared.items.Item.{Item}
use Rattle.text_symbols.specs.declared.items.Item.TheVariants.{Character, Letter, Name}

-- a number is that of an item
abbrev pub IsItem : ℕ → Item → Type 0
IsItem n (Character c) = (n < 256) × (n ≡ c)
IsItem n (Letter l) = (n ≡ 256 + l) × (l < 256)
IsItem n (Name k) = (n ≡ 512 + k)
