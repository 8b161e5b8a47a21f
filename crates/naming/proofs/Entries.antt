-- The names of a table's entries: how many, which stands at a place, and whether a name is among them.
-- Assumes nothing.
use Rattle.grammar.proofs.Basics.{◌≡◌, refl, ◌∙◌, ap₂, List, [], ◌∷◌, ◌++◌, ℕ, ◌<◌, suc, zero, arith, length}
use Rattle.grammar.proofs.Basics.{get_or, length-append, cases, ltb, ltb-true, ltb-false}
use lib.ListN.{get_or-append}
use lib.Seq.{get_or_at}
use Rattle.naming.specs.declared.table.Entry.{Entry}
use Rattle.naming.specs.Table.{name_in, names_in}

-- a number below suc n is n or below it
pub last_or_before : {P : Type 0} (i n : ℕ) → i < suc n → (i ≡ n → P) → (i < n → P) → P
last_or_before i n l f g =
    cases (ltb i n) (λ e. g (ltb-true i n e)) (λ e. f (let h = ltb-false i n e in omega arith))

module _ (text : List ℕ) (entries : List Entry) where
  pub names_counted : (n : ℕ) → length (names_in text entries n) ≡ n
  unfolding names_in
  names_counted zero = refl
  names_counted (suc n) = rw length-append (omega (arith, names_counted n))

  pub name_at : (n i : ℕ) → i < n → get_or (names_in text entries n) i [] ≡ name_in text entries i
  unfolding names_in
  name_at zero i l = absurd (omega arith)
  name_at (suc n) i l =
      last_or_before i n l
      (λ e. rw e (get_or_at (names_in text entries n) (name_in text entries n) [] [] n (names_counted n)))
      (λ h. get_or-append (names_in text entries n) _ [] i (omega (arith, names_counted n)) ∙ name_at n i h)

pub names_same : (text : List ℕ) (entries others : List Entry) (n : ℕ) →
    ((i : ℕ) → i < n → name_in text entries i ≡ name_in text others i) → names_in text entries n ≡ names_in text others n
unfolding names_in
names_same text entries others zero same = refl
names_same text entries others (suc n) same =
    ap₂ (λ names m. names ++ (m ∷ [])) (names_same text entries others n (λ i l. same i (omega arith)))
    (same n (omega arith))
