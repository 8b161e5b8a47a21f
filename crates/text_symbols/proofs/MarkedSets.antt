-- Marks that hold a set: it can be counted, and the marks of items one after the other. Assumes nothing.
use Rattle.grammar.proofs.Basics.{◌≡◌, ◌∙◌, sym, false, Bool, ◌||◌, or-false, or_assoc, List}
use Rattle.grammar.proofs.Basics.{◌∷◌, [], ◌++◌, map, ℕ, zero, suc, refl, ◌<◌, ◌≤◌, ◌+◌, ◌-◌, add-one, arith, length, get_or}
use Rattle.grammar.proofs.Basics.{take}
use Rattle.grammar.proofs.Basics.{cases}
use lib.Seq.{take_all}
use Rattle.std.specs.List.{count_by}
use Rattle.std.proofs.lemmas.List.Sums.{count_by_more_no, count_by_more_yes}
use Rattle.grammar.specs.Counting.{one_if_lem, count}
use Rattle.grammar.proofs.Counting.{count_apart}
use Rattle.job.proofs.KeyRules.{mapped_more}
use Rattle.abnf_jobs.specs.Bodies.{Item}
use Rattle.abnf_jobs.specs.Characters.{stands_for, some_for}
use Rattle.bodies.specs.Items.{item_from_lem}
use Rattle.text_symbols.specs.Marks.{Marked, marked}

-- another way to say the set
pub marked_alike : {s t : ℕ → Bool} {marks : List Bool} → Marked s marks → ((c : ℕ) → c < 256 → s c ≡ t c) → Marked t marks
marked_alike held same = record { at = λ c l. held.at c l ∙ same c l }

-- the characters that some items stand for: one item behind others
for_behind : (x : Item) (c : ℕ) (xs : List Item) → some_for (xs ++ (x ∷ [])) c ≡ (some_for xs c || stands_for x c)
unfolding some_for
for_behind x c [] = or-false (stands_for x c)
for_behind x c (y ∷ ys) = rw (for_behind x c ys) (sym (or_assoc (stands_for y c) (some_for ys c) (stands_for x c)))

module _ (items : List ℕ) (before : List Bool) where
  -- the characters of the first items are marked
  abbrev pub FirstMarked : ℕ → List Bool → Type 0
  FirstMarked i marks = Marked (λ c. marked before c || some_for (map item_from_lem (take i items)) c) marks

  pub none_marked : FirstMarked 0 before
  unfolding some_for
  none_marked = record { at = λ c l. sym (or-false (marked before c)) }

  pub one_marked : (i : ℕ) (marks after : List Bool) → i < length items → FirstMarked i marks →
      Marked (λ c. marked marks c || stands_for (item_from_lem (get_or items i 0)) c) after → FirstMarked (i + 1) after
  one_marked i marks after h held more =
      marked_alike more (λ c l.
      rw (held.at c l, mapped_more item_from_lem items i h, for_behind (item_from_lem (get_or items i 0)) c)
      (or_assoc (marked before c) (some_for (map item_from_lem (take i items)) c) (stands_for (item_from_lem (get_or items i 0)) c)))

-- how many are marked below the next, at most 256
pub counted_more : (t : ℕ → Bool) (c : ℕ) → count t c + one_if_lem (t c) ≡ count t (c + 1)
unfolding count
counted_more t c = rw (add-one c) refl

pub counted_first : (t : ℕ → Bool) (c n : ℕ) → c ≤ n → count t c ≤ count t n
counted_first t c n h =
    let e : c + (n - c) ≡ n = omega arith in
    omega (arith, rw e at (count_apart t c (n - c)))

-- the marks are counted
marks_below : (marks : List Bool) (n : ℕ) → n ≤ length marks → count_by (λ x. x) (take n marks) ≡ count (marked marks) n
unfolding count
marks_below marks zero h = refl
marks_below marks (suc n) h =
    let below = marks_below marks n (omega arith) in
    cases (marked marks n)
    (λ t.
    let more = count_by_more_yes (λ x. x) marks n false (omega arith) t in
    rw (← add-one n, t) (omega (arith, more, below)))
    (λ t.
    let more = count_by_more_no (λ x. x) marks n false (omega arith) t in
    rw (← add-one n, t) (omega (arith, more, below)))

pub marks_counted : (marks : List Bool) → length marks ≡ 256 → count_by (λ x. x) marks ≡ count (marked marks) 256
marks_counted marks size =
    let below = marks_below marks 256 (omega (arith, size)) in
    rw (take_all 256 marks (omega (arith, size))) at below
