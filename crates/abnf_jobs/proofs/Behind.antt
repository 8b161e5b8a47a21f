-- One more member behind a list: those before it stand in a relation to it, or it is none of them. Assumes nothing.
use Rattle.grammar.proofs.Basics.{◌≡◌, cases, List, [], ◌∷◌, ◌++◌, List·Memᴰ, ℕ, ◌<◌, arith, ltb, ltb-true, ltb-false}
use Rattle.grammar.proofs.Basics.{length, get_or, length-append}
use mathlib.Core.List.Permᴰ
use lib.ListN.{get_or-append}
use lib.Seq.{get_or_at}
use Rattle.grammar.specs.Counting.{NoRepeat}
use Rattle.job.proofs.NoRepeat.{no_repeat_permutes}

module _ {A : Type 0} where
  -- each stands in a relation to every later one
  abbrev pub ToLater : (R : A → A → Type 0) (d : A) → List A → Type 0
  ToLater R d xs = (i j : ℕ) → i < j → j < length xs → R (get_or xs i d) (get_or xs j d)

  pub later_behind : (R : A → A → Type 0) (d : A) (xs : List A) (x : A) → ToLater R d xs →
      ((i : ℕ) → i < length xs → R (get_or xs i d) x) → ToLater R d (xs ++ (x ∷ []))
  later_behind R d xs x before last i j l h =
      let long = length-append xs (x ∷ []) in
      let same : (k : ℕ) → k < length xs → get_or (xs ++ (x ∷ [])) k d ≡ get_or xs k d =
      get_or-append xs (x ∷ []) d in
      cases (ltb j (length xs))
      (λ t.
      let k = ltb-true j (length xs) t in
      rw (same i (omega arith), same j k) (before i j l k))
      (λ t.
      let e : length xs ≡ j = omega (arith, ltb-false j (length xs) t) in
      rw (same i (omega arith), get_or_at xs x [] d j e) (last i (omega arith)))

  pub no_repeat_behind : (xs : List A) (x : A) → NoRepeat xs → (List·Memᴰ x xs → ⊥) → NoRepeat (xs ++ (x ∷ []))
  unfolding NoRepeat
  no_repeat_behind xs x apart other = no_repeat_permutes (Permᴰ.append_comm (x ∷ []) xs) (other, apart)
