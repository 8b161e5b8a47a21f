-- A text of the part has a first line, whose name has number 0. Assumes nothing.
use Rattle.grammar.proofs.Basics.{◌≡◌, refl, ◌∙◌, sym, List, ◌∷◌, [], ◌++◌, ℕ, cases}
use Rattle.abnf.specs.declared.Edition.{Edition}
use Rattle.abnf.specs.Text.{Line, Rulelist, last_rule, next_rule}
use Rattle.abnf.specs.Reading.{lines_of}
use Rattle.abnf.specs.Meaning.{is_among_lem, number_of, names_from, names_of}
use Rattle.abnf.proofs.OfThePart.{of_the_part_lem}
use Rattle.abnf_jobs.specs.Theorems.Written.{StartIsFirst}
use Rattle.abnf_jobs.proofs.KnownNames.{same_self}
use Rattle.abnf_jobs.proofs.Success.{success}
use Rattle.abnf_jobs.proofs.WrittenRules.{written_start}

first_line : {e : Edition} {s : List ℕ} {lines : List Line} → Rulelist e s lines →
    (l : Line) × (ls : List Line) × (lines ≡ l ∷ ls)
first_line (last_rule {l = l} r) = (l, [], refl)
first_line (next_rule {l = l} {ls = ls} r d) = (l, ls, refl)

-- a name stays the first, whatever lines add
first_numbered : (n : List ℕ) (ns : List (List ℕ)) (ls : List Line) → number_of (names_from (n ∷ ns) ls) n ≡ 0
unfolding names_from number_of
first_numbered n ns [] = rw (same_self n)
first_numbered n ns (l ∷ ls) =
    cases (is_among_lem (n ∷ ns) l.name) (λ t. rw t (first_numbered n ns ls))
    (λ t. rw t (first_numbered n (ns ++ (l.name ∷ [])) ls))

number_of_first : (lines : List Line) (l : Line) (ls : List Line) → lines ≡ l ∷ ls →
    number_of (names_of lines) l.name ≡ 0
unfolding names_from is_among_lem
number_of_first lines l ls are = rw are (first_numbered l.name [] ls)

pub start_is_first_lem : StartIsFirst
start_is_first_lem e text map job s =
    let it = success e text map job s in
    let (l, ls, are) = first_line ((of_the_part_lem e text (lines_of e text)).1 (it.in_the_part, refl)) in
    record {
      first = l;
      others = ls;
      lines = are;
      start = rw it.job_is (written_start (lines_of e text) ∙ sym (number_of_first (lines_of e text) l ls are));
    }
