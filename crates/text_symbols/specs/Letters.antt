-- The variables of letters, as an array by letter. Assumes nothing.
use Rattle.std.specs.Prelude.{ℕ, ◌+◌, ◌≤◌, ◌<◌, ◌≡◌, cond, List, map, length, get_or, Some, None}
use Rattle.abnf_jobs.specs.Roles.{Role, is_met, variable_of, with_letters}
use Rattle.bodies.specs.Items.{item_from_lem}
use Rattle.text_symbols.specs.declared.letters.Variables.{Variables}

-- so many roles are taken, and 26 options say which variables letters have
pub record Letters (roles : List Role) (v : Variables) : Type 0 where
  pub size : length v.letters ≡ 26
  pub counted : v.taken ≡ length roles
  pub at : (k : ℕ) → k < 26 → get_or v.letters k None ≡ cond (is_met roles (97 + k)) (Some (variable_of roles (97 + k))) None

-- the number of an item that is a letter is that of one of 26
pub record LetterFits (item : ℕ) : Type 0 where
  pub letter : 256 ≤ item → item < 512 → (353 ≤ item) × (item ≤ 378)

abbrev pub LettersFit : List ℕ → Type 0
LettersFit items = (i : ℕ) → i < length items → LetterFits (get_or items i 0)

-- variables are taken for the letters among some items, whatever roles there are
pub record LettersTaken (items : List ℕ) (before after : Variables) : Type 0 where
  pub few : after.taken ≤ before.taken + length items
  pub letters : (roles : List Role) → Letters roles before → Letters (with_letters roles (map item_from_lem items)) after
