-- The names that begin lines are counted once each, without regard to case. Assumes nothing.
use Rattle.grammar.proofs.Basics.{◌≡◌, refl, ⊎_elim, inl, inr, ◌⊎◌, cases, false, List, [], ◌∷◌, ◌++◌, List·Memᴰ}
use Rattle.grammar.proofs.Basics.{List·Memᴰ·head, List·Memᴰ·tail, List·Memᴰ·not-nil, List·Memᴰ·append-cases}
use Rattle.grammar.proofs.Basics.{List·Memᴰ·eq-of-singleton, sym, ℕ, zero, suc, ◌<◌, arith, length, get_or}
use Rattle.abnf.specs.Text.{Line}
use Rattle.abnf.specs.Meaning.{same_name, is_among_lem, names_from, names_of}
use Rattle.abnf.proofs.Spans.{neither_of}
use Rattle.abnf_jobs.specs.Theorems.Counts.{NamesOnce}
use Rattle.abnf_jobs.proofs.Behind.{ToLater, later_behind}
use Rattle.abnf_jobs.proofs.KnownNames.{line_among}

-- two names that are not the same
abbrev Apart : List ℕ → List ℕ → Type 0
Apart m n = same_name m n ≡ false

-- a name that is not among others is apart from each
not_among : (ms : List (List ℕ)) (n : List ℕ) → is_among_lem ms n ≡ false → (i : ℕ) → i < length ms → Apart (get_or ms i []) n
unfolding is_among_lem
not_among [] n h i l = absurd (omega arith)
not_among (m ∷ ms) n h zero l = (neither_of (same_name m n) (is_among_lem ms n) h).0
not_among (m ∷ ms) n h (suc i) l = not_among ms n (neither_of (same_name m n) (is_among_lem ms n) h).1 i (omega arith)

names_apart : (before : List (List ℕ)) (lines : List Line) → ToLater Apart [] before →
    ToLater Apart [] (names_from before lines)
unfolding names_from
names_apart before [] apart = apart
names_apart before (l ∷ ls) apart =
    cases (is_among_lem before l.name)
    (λ t. rw t (names_apart before ls apart))
    (λ t.
    rw t
    (names_apart (before ++ (l.name ∷ [])) ls
    (later_behind Apart [] before l.name apart (not_among before l.name t))))

-- a name is one of those before or a line's
module _ (n : List ℕ) where
  abbrev OfLine : List Line → Type 0
  OfLine lines = (l : Line) × List·Memᴰ l lines × (l.name ≡ n)

  name_of_line : (before : List (List ℕ)) (lines : List Line) → List·Memᴰ n (names_from before lines) →
      List·Memᴰ n before ⊎ OfLine lines
  unfolding names_from
  name_of_line before [] m = inl m
  name_of_line before (l ∷ ls) m =
      cases (is_among_lem before l.name)
      (λ t. ⊎_elim inl (λ f. inr (further f)) (name_of_line before ls (rw t at m)))
      (λ t.
      ⊎_elim
      (λ k.
      ⊎_elim inl (λ j. inr (l, List·Memᴰ·head refl, sym (List·Memᴰ·eq-of-singleton j)))
      (List·Memᴰ·append-cases before k))
      (λ f. inr (further f)) (name_of_line (before ++ (l.name ∷ [])) ls (rw t at m)))
    where
      further : OfLine ls → OfLine (l ∷ ls)
      further f = (f.0, List·Memᴰ·tail f.1, f.2)

pub names_once : (lines : List Line) → NamesOnce lines (names_of lines)
names_once lines =
    record {
      distinct = names_apart [] lines (λ i j l h. absurd (omega arith));
      each = line_among [] lines;
      of_line = λ n m.
          ⊎_elim (λ k. absurd (List·Memᴰ·not-nil k)) (λ f. f) (name_of_line n [] lines m);
    }
