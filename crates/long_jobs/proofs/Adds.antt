-- What splitting writes comes behind what was written, and each record of it has a property, given that the records of
-- the three shapes have it. Assumes nothing.
use Rattle.grammar.proofs.Basics.{◌≡◌, refl, ◌∙◌, List, ◌∷◌, [], ◌++◌, append_assoc, ℕ}
use Rattle.grammar.proofs.Strings.{All, nil, cons}
use Rattle.job.specs.declared.JobRecord.{JobRecord}
use Rattle.job.specs.Job.{empty_record, unit_record, pair_record}
use Rattle.long_jobs.specs.Convert.{Conversion, write, take_one, split}

-- each record of a list has a property
pub data Each (R : JobRecord → Type 0) : List JobRecord → Type 0 where
  none : Each R []
  more : {x : JobRecord} {xs : List JobRecord} → R x → Each R xs → Each R (x ∷ xs)

-- what was written, and such records behind it
pub record Adds (R : JobRecord → Type 0) (before after : List JobRecord) : Type 0 where
  pub new : List JobRecord
  pub is : after ≡ before ++ new
  pub each : Each R new

-- the records of the three shapes have the property, where heads and the symbols of bodies have theirs
pub record Shapes (R : JobRecord → Type 0) (fresh : ℕ → ℕ) (Head Symbol : ℕ → Type 0) : Type 0 where
  pub fresh_head : (k : ℕ) → Head (fresh k)
  pub fresh_symbol : (k : ℕ) → Symbol (fresh k)
  pub of_none : (A : ℕ) → Head A → R (empty_record A)
  pub of_one : (A X : ℕ) → Head A → Symbol X → R (unit_record A X)
  pub of_two : (A X Y : ℕ) → Head A → Symbol X → Symbol Y → R (pair_record A X Y)

module _ {R : JobRecord → Type 0} where
  adds_one : {l : List JobRecord} (x : JobRecord) → R x → Adds R l (l ++ (x ∷ []))
  adds_one x p = record { new = x ∷ []; is = refl; each = more p none }

  adds_more : {l m : List JobRecord} (x : JobRecord) → R x → Adds R (l ++ (x ∷ [])) m → Adds R l m
  adds_more {l} x p a =
      record { new = x ∷ a.new; is = a.is ∙ append_assoc l (x ∷ []) a.new; each = more p a.each }

  module _ {fresh : ℕ → ℕ} {Head Symbol : ℕ → Type 0} (s : Shapes R fresh Head Symbol) where
    pub split_adds : {A : ℕ} {β : List ℕ} (c : Conversion) → Head A → All Symbol β →
        Adds R c.written (split fresh A β c).written
    unfolding split
    split_adds {A} c a nil = adds_one (empty_record A) (s.of_none A a)
    split_adds {A} c a (cons {X} x nil) = adds_one (unit_record A X) (s.of_one A X a x)
    split_adds {A} c a (cons {X} x (cons {X = Y} y nil)) = adds_one (pair_record A X Y) (s.of_two A X Y a x y)
    split_adds {A} c a (cons {X} x (cons y (cons z zs))) =
        let k = c.taken in
        let r = pair_record A X (fresh k) in
        adds_more r (s.of_two A X (fresh k) a x (s.fresh_symbol k))
        (split_adds {A = fresh k} (take_one (write r c)) (s.fresh_head k) (cons y (cons z zs)))
