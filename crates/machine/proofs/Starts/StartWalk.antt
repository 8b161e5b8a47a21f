-- A walk over the records or the rules that changes what is lent for each of them: what is done and what is still to
-- do, from element i on, make up the whole. Assumes nothing.
use Rattle.grammar.proofs.Basics.{◌≡◌, refl, List, ◌∷◌, [], ℕ, ◌<◌, ◌≤◌, ◌+◌, suc, add-one, arith, length, get_or, drop}
use Rattle.grammar.proofs.Basics.{drop_of_length-le, drop-cons}
use Rattle.machine.specs.Table.{Lent, lent_of}
use Rattle.machine.proofs.Tables.SameLengths.{AsLong, as_long, then_long}

-- What holds once i changes are made. `all` is the change for a list of elements from an index on.
pub record Walked {A : Type 0} (all : ℕ → List A → Lent → Lent) (l : List A) (m m' : Lent) (i : ℕ) : Type 0 where
  pub within : i ≤ length l
  pub long : AsLong m m'
  pub left : all i (drop i l) m' ≡ all 0 l m

pub walk_begins : {A : Type 0} (all : ℕ → List A → Lent → Lent) (l : List A) (m : Lent) → Walked all l m m 0
walk_begins all l m = record { within = omega arith; long = as_long m; left = refl }

module _ {A : Type 0} (all : ℕ → List A → Lent → Lent) (l : List A) (m m' : Lent) (i : ℕ)
    (so_far : Walked all l m m' i) where
  pub walk_goes_on : (one : ℕ → A → Lent → Lent) →
      ((i : ℕ) (x : A) (xs : List A) (n : Lent) → all i (x ∷ xs) n ≡ all (suc i) xs (one i x n)) →
      (default : A) (t t' : List ℕ) → i < length l → lent_of t t' ≡ one i (get_or l i default) m' →
      length t ≡ length m'.table → length t' ≡ length m'.reasons → Walked all l m (lent_of t t') (i + 1)
  walk_goes_on one first default t t' h e long long' =
      record {
        within = omega arith;
        long = then_long m m' _ so_far.long (record { table = long; reasons = long' });
        left = rw add-one (rw (drop-cons l i default h, first, ← e) at so_far.left);
      }

  pub walk_ends : ((i : ℕ) (n : Lent) → all i [] n ≡ n) → length l ≤ i → m' ≡ all 0 l m
  walk_ends none h = rw (drop_of_length-le l h, none) at so_far.left
