-- The order of a listing, by lists of places alone: without a table, and without a bound on the depth. Assumes nothing.
use Rattle.std.specs.Prelude.{◌≡◌, ℕ, ◌<◌, length, get_or}
use mathlib.Core.List.{List, [], ◌∷◌, Memᴰ, ◌++◌}

-- Forms and listings: where before is listed and the places ps follow in turn, after is listed. A place that is listed
-- is not listed again; a new one comes after its premises, which are listed in turn.
pub data ListsInTurn (premisesOf : ℕ → List ℕ) : List ℕ → List ℕ → List ℕ → Type 0 where
  none : {before : List ℕ} → ListsInTurn premisesOf before [] before
  again :
      {before ps after : List ℕ} {p : ℕ} → Memᴰ p before → ListsInTurn premisesOf before ps after →
      ListsInTurn premisesOf before (p ∷ ps) after
  new :
      {before ps behind after : List ℕ} {p : ℕ} → (Memᴰ p before → ⊥) →
      ListsInTurn premisesOf before (premisesOf p) behind → ListsInTurn premisesOf (behind ++ (p ∷ [])) ps after →
      ListsInTurn premisesOf before (p ∷ ps) after

-- q is p, or a premise of it through one or more steps
pub data RestsOn (premisesOf : ℕ → List ℕ) : ℕ → ℕ → Type 0 where
  itself : {p : ℕ} → RestsOn premisesOf p p
  through :
      {p q r : ℕ} → Memᴰ r (premisesOf p) → RestsOn premisesOf r q → RestsOn premisesOf p q

-- x stands before y
abbrev pub StandsBefore : List ℕ → ℕ → ℕ → Type 0
StandsBefore l x y = (i : ℕ) × (j : ℕ) × (i < j) × (j < length l) × (get_or l i 0 ≡ x) × (get_or l j 0 ≡ y)

-- Forms and listings: of two premises that are new with their transition, the first stands before the second, unless
-- the first rests on the second, which is then listed on the way to it
unfoldable pub FirstPremiseFirst : Type 0
FirstPremiseFirst =
    (premisesOf : ℕ → List ℕ) (before after : List ℕ) (p x y : ℕ) →
    ListsInTurn premisesOf before (p ∷ []) after → (Memᴰ p before → ⊥) → premisesOf p ≡ x ∷ y ∷ [] →
    (Memᴰ x before → ⊥) → (Memᴰ y before → ⊥) → (RestsOn premisesOf x y → ⊥) → StandsBefore after x y
