-- Marks that hold the characters of some bodies: none at first, and one body more. Assumes nothing.
use Rattle.grammar.proofs.Basics.{◌≡◌, refl, ◌∙◌, sym, ap, false, Bool, ◌||◌, or_assoc, or-false, List, [], ◌∷◌, ◌++◌}
use Rattle.grammar.proofs.Basics.{ℕ, zero, suc, ◌<◌, ◌+◌, arith}
use Rattle.grammar.specs.Counting.{count}
use Rattle.grammar.proofs.Counting.{count_cong}
use Rattle.abnf_jobs.specs.Bodies.{Body}
use Rattle.abnf_jobs.specs.Characters.{some_for, used_in, used_below}
use Rattle.text_symbols.specs.Marks.{Marked, marked, Numbered}

pub marks_counted : {set : ℕ → Bool} {marks : List Bool} → Marked set marks → count (marked marks) 256 ≡ count set 256
marks_counted {set} {marks} it = count_cong (marked marks) set 256 it.at

-- one body more
used_apart : (bs cs : List Body) (c : ℕ) → used_in (bs ++ cs) c ≡ used_in bs c || used_in cs c
unfolding used_in
used_apart [] cs c = refl
used_apart (b ∷ bs) cs c =
    rw (used_apart bs cs c) (sym (or_assoc (some_for b.items c) (used_in bs c) (used_in cs c)))

pub marked_none : {marks : List Bool} → Marked (λ c. false) marks → Marked (used_in []) marks
unfolding used_in
marked_none it = it

pub marked_more : (bs : List Body) (b : Body) {before after : List Bool} → Marked (used_in bs) before →
    Marked (λ c. marked before c || some_for b.items c) after → Marked (used_in (bs ++ (b ∷ []))) after
unfolding used_in
marked_more bs b {before} it more =
    record { at = λ c l. rw (used_apart bs (b ∷ []) c, or-false, ← it.at c l) (more.at c l) }

-- the characters that are marked, and their numbers
below_alike : (s t : ℕ → Bool) (n : ℕ) → ((c : ℕ) → c < n → s c ≡ t c) → used_below s n ≡ used_below t n
unfolding used_below
below_alike s t zero same = refl
below_alike s t (suc n) same =
    rw (same n (omega arith), below_alike s t n (λ c l. same c (omega arith)))

pub marked_characters : {set : ℕ → Bool} {marks : List Bool} → Marked set marks →
    used_below (marked marks) 256 ≡ used_below set 256
marked_characters {set} {marks} it = below_alike (marked marks) set 256 it.at

pub numbered_alike : {set : ℕ → Bool} {marks : List Bool} {numbers : List ℕ} → Marked set marks → Numbered (marked marks) numbers →
    Numbered set numbers
numbered_alike {set} {marks} it numbered =
    record {
      size = numbered.size;
      at = λ c l.
          numbered.at c l
          ∙ ap (λ n. 32 + n) (count_cong (marked marks) set c (λ i k. it.at i (omega arith)));
    }
