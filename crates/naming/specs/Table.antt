-- The table of a text's names. Assumes nothing.
use Rattle.std.specs.Prelude.{ℕ, zero, suc, ◌+◌, ◌*◌, ◌%◌, ◌≤◌, ◌<◌, ◌≡◌, false, List, [], ◌∷◌, ◌++◌, length, get_or}
use Rattle.abnf.specs.Bytes.{lower}
use Rattle.abnf.specs.Meaning.{same_name}
use Rattle.scanner.specs.Parts.{part_of_lem}
use Rattle.naming.specs.declared.table.Entry.{Entry}
use Rattle.naming.specs.Named.{Inside}

-- the hash of a name, which does not regard case
unfoldable pub hash_from : ℕ → List ℕ → ℕ
hash_from h [] = h
hash_from h (b ∷ s) = hash_from ((33 * h + lower b) % 1024) s

abbrev pub hash_of : List ℕ → ℕ
hash_of n = hash_from 0 n

-- an entry by its place, the name that it is of, and the names of the first n
abbrev pub entry_in : List Entry → ℕ → Entry
entry_in entries i = get_or entries i (record { at = 0; end = 0; before = 0 })

abbrev pub name_in : List ℕ → List Entry → ℕ → List ℕ
name_in text entries i = part_of_lem text (entry_in entries i).at (entry_in entries i).end

unfoldable pub names_in : List ℕ → List Entry → ℕ → List (List ℕ)
names_in text entries zero = []
names_in text entries (suc n) = names_in text entries n ++ (name_in text entries n ∷ [])

-- the entry before an entry in its bucket, counted from 1
abbrev pub link_in : List Entry → ℕ → ℕ
link_in entries i = (entry_in entries i).before

-- a table of n names, none twice. From the last entry of its bucket, links lead to every entry with the same hash, and
-- to no other
pub record Table (text : List ℕ) (entries : List Entry) (buckets : List ℕ) (n : ℕ) : Type 0 where
  pub few : n ≤ 5462
  pub long_entries : length entries ≡ 5462
  pub long_buckets : length buckets ≡ 1024
  pub inside : (i : ℕ) → i < n → Inside text (entry_in entries i).at (entry_in entries i).end
  pub distinct : (i j : ℕ) → i < j → j < n → same_name (name_in text entries i) (name_in text entries j) ≡ false
  pub last : (h : ℕ) → h < 1024 → get_or buckets h 0 ≤ n
  pub last_hash : (h k : ℕ) → h < 1024 → get_or buckets h 0 ≡ suc k → hash_of (name_in text entries k) ≡ h
  pub last_reaches : (j : ℕ) → j < n → j < get_or buckets (hash_of (name_in text entries j)) 0
  pub link : (i : ℕ) → i < n → link_in entries i ≤ i
  pub link_hash :
      (i k : ℕ) → i < n → link_in entries i ≡ suc k → hash_of (name_in text entries k) ≡ hash_of (name_in text entries i)
  pub link_reaches :
      (i j : ℕ) → j < i → i < n → hash_of (name_in text entries i) ≡ hash_of (name_in text entries j) →
      j < link_in entries i
