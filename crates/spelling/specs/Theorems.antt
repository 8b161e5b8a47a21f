-- What decimal digits mean. Assumes nothing.
use Rattle.std.specs.Prelude.{◌≡◌, ℕ, ◌+◌, ◌*◌, ◌-◌, ◌^◌, ◌<◌, ◌≤◌, List, [], ◌∷◌, length, get_or}
use Rattle.spelling.specs.Words.{ascii, decimal}

-- the number that decimal digits spell after a number already read
unfoldable pub value_after : ℕ → List ℕ → ℕ
value_after n [] = n
value_after n (b ∷ s) = value_after (10 * n + (b - 48)) s

-- The report program: a number is spelled by digits, its value is the number, and it has no zero in front
pub record Spells (text : List ℕ) (n : ℕ) : Type 0 where
  pub value : value_after 0 text ≡ n
  pub digits : (i : ℕ) → i < length text → (48 ≤ get_or text i 0) × (get_or text i 0 ≤ 57)
  pub front : 0 < n → 48 < get_or text 0 0

-- every number of at most 20 digits, so every number of 64 bits, is spelled by its decimal digits, and 0 by one
unfoldable pub DecimalSpells : Type 0
DecimalSpells = ((n : ℕ) → n < 10 ^ 20 → Spells (decimal n) n) × (decimal 0 ≡ ascii "0")
