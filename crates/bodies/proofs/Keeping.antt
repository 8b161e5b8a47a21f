-- Items kept one after the other as far as there is room: those kept, with those left to keep, come to the whole.
-- Assumes nothing.
use Rattle.grammar.proofs.Basics.{ℕ, zero, suc, ◌+◌, ◌≤◌, ◌<◌, List, [], ◌∷◌, ◌++◌, ◌≡◌, refl, ◌∙◌, sym, ap, arith}
use Rattle.grammar.proofs.Basics.{length, take, set, append-nil, append_assoc, length-append, length-take-le, length-take}
use Rattle.grammar.proofs.Basics.{add-one}
use lib.Seq.{take_all, take-append-le, take-suc-set}

-- one item is kept where there is room, and none where there is none
module _ (items : List ℕ) (n item : ℕ) (size : length items ≡ 35) (few : n ≤ 35) where
  front_length : length (take n items) ≡ n
  front_length = length-take-le n items (omega arith)

  pub one_kept : n < 35 → take (n + 1) (set items n item) ≡ take 35 (take n items ++ (item ∷ []))
  one_kept h =
      let long = length-append (take n items) (item ∷ []) in
      rw add-one
      (take-suc-set items n item (omega arith)
      ∙ sym (take_all 35 (take n items ++ (item ∷ [])) (omega (arith, long, front_length))))

  pub none_kept : 35 ≤ n → take n items ≡ take 35 (take n items ++ (item ∷ []))
  none_kept h =
      sym (take-append-le 35 (take n items) (item ∷ []) (rw front_length h)
      ∙ take_all 35 (take n items) (rw front_length few))

-- the items kept come to a goal with those that are left
pub record Keeping (goal kept left : List ℕ) : Type 0 where
  pub few : length kept ≤ 35
  pub come : take 35 (kept ++ left) ≡ goal

-- a front that is cut already, cut behind more
cut_again : (n : ℕ) (xs ys : List ℕ) → take n (take n xs ++ ys) ≡ take n (xs ++ ys)
cut_again zero xs ys = refl
cut_again (suc n) [] ys = refl
cut_again (suc n) (x ∷ xs) ys = ap (λ zs. x ∷ zs) (cut_again n xs ys)

pub kept_few : {after : List ℕ} (xs : List ℕ) → after ≡ take 35 xs → length after ≤ 35
kept_few xs is = rw is (omega (arith, length-take 35 xs))

pub kept_on : {goal kept after : List ℕ} (xs ys : List ℕ) → Keeping goal kept (xs ++ ys) →
    after ≡ take 35 (kept ++ xs) → Keeping goal after ys
kept_on {kept} xs ys k more =
    record {
      few = kept_few (kept ++ xs) more;
      come =
          ap (λ zs. take 35 (zs ++ ys)) more ∙ cut_again 35 (kept ++ xs) ys
          ∙ ap (take 35) (append_assoc kept xs ys) ∙ k.come;
    }

pub all_kept : {goal kept : List ℕ} → Keeping goal kept [] → kept ≡ goal
all_kept {goal} {kept} k = sym (take_all 35 kept k.few) ∙ ap (take 35) (sym (append-nil kept)) ∙ k.come
