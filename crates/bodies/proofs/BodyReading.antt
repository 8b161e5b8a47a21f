-- A body read element by element: what is kept of it, with what is said from here on, comes to the whole. Assumes
-- nothing.
use Rattle.grammar.proofs.Basics.{ℕ, ◌≤◌, ◌<◌, List, [], ◌∷◌, ◌++◌, ◌≡◌, arith}
use Rattle.grammar.proofs.Basics.{take, le_of_lt}
use Rattle.abnf.specs.declared.Edition.{Edition}
use Rattle.abnf.specs.declared.Stage.TheVariants.{Open}
use Rattle.abnf.specs.Text.{Element}
use Rattle.abnf.specs.Reading.{Said, element_said}
use Rattle.abnf_jobs.specs.Bodies.{items_of}
use Rattle.scanner.specs.Parts.{part_of_lem}
use Rattle.cursor.specs.declared.After.TheVariants.{ElementAfter, RuleAfter}
use Rattle.cursor.specs.declared.ElementPart.{ElementPart}
use Rattle.cursor.specs.Cursor.{said_at, said_after, ElementBegins, ElementRead, element_of}
use Rattle.bodies.specs.declared.Rest.TheVariants.{NextLine}
use Rattle.bodies.specs.Items.{ReadBody}
use Rattle.bodies.proofs.Keeping.{Keeping, kept_on, all_kept}
use Rattle.bodies.proofs.ElementItems.{element_codes, first_codes}
use Rattle.bodies.proofs.LineStarts.{lines_alone}

module _ (names : List (List ℕ)) where
  -- the items kept, and what is left to be said, come to what is said of the body and behind it
  pub record Saying (whole : Said) (kept : List ℕ) (left : Said) : Type 0 where
    pub keeping : Keeping (take 35 (element_codes names whole.here)) kept (element_codes names left.here)
    pub others : whole.others ≡ left.others
    pub lines : whole.lines ≡ left.lines

  -- one element less
  saying_on : {whole : Said} {kept after : List ℕ} (x : Element) (left : Said) →
      Saying whole kept (element_said x left) → after ≡ take 35 (kept ++ element_codes names (x ∷ [])) →
      Saying whole after left
  saying_on x left s more =
      record {
        keeping =
            kept_on (element_codes names (x ∷ [])) (element_codes names left.here)
            (rw (first_codes names x left.here) at s.keeping) more;
        others = s.others;
        lines = s.lines;
      }

module _ (e : Edition) (text : List ℕ) (names : List (List ℕ)) (from : ℕ) where
  -- an element of the body begins at an offset, and those before it are kept
  pub record Reading (kept : List ℕ) (at : ℕ) : Type 0 where
    pub order : from ≤ at
    pub element : ElementBegins e text at
    pub saying : Saying names (said_at e Open text from) kept (said_at e Open text at)

  module _ {kept after : List ℕ} {at : ℕ} (r : Reading kept at) (x : ElementPart) (read : ElementRead e text at x)
      (more : after ≡ take 35 (kept ++ element_codes names (element_of x.literal (part_of_lem text at x.end) ∷ [])))
    where
      said_after_lem : Saying names (said_at e Open text from) after (said_after e x.after text x.next)
      said_after_lem =
          saying_on names (element_of x.literal (part_of_lem text at x.end)) (said_after e x.after text x.next)
          (rw read.says at r.saying) more

      passed : from < x.next
      passed = omega (arith, r.order, read.past, read.order)

      -- what stands after the element, by its kind
      pub another_element : x.after ≡ ElementAfter → Reading after x.next
      another_element is =
          record { order = le_of_lt passed; element = rw is at read.after; saying = rw is at said_after_lem }

      pub another_line : x.after ≡ RuleAfter → ReadBody e text names from after (NextLine x.next)
      unfolding items_of
      another_line is =
          let s = rw is at said_after_lem in
          let f = rw is at read.after in
          let alone = lines_alone _ _ f in
          record {
            kept = all_kept (rw alone.here at s.keeping);
            past = passed;
            within = read.within;
            behind = f;
            bodies = λ head. rw (s.others, s.lines, alone.others);
          }
