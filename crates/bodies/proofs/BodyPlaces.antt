-- Where the first body of a line begins. Assumes nothing.
use Rattle.grammar.proofs.Basics.{ℕ, ◌≤◌, List, ◌≡◌, ◌∙◌, sym, ap, length, drop_of_length-le}
use Rattle.abnf.specs.declared.Edition.{Edition}
use Rattle.abnf.specs.declared.Stage.TheVariants.{LineStart, Open}
use Rattle.abnf.specs.Pieces.{pieces_from}
use Rattle.abnf.specs.Reading.{says_from}
use Rattle.abnf.specs.Meaning.{number_of}
use Rattle.abnf_jobs.specs.Bodies.{bodies_from}
use Rattle.scanner.specs.Parts.{part_of_lem}
use Rattle.cursor.specs.declared.Head.{Head}
use Rattle.cursor.specs.Cursor.{said_at, HeadRead}
use Rattle.std.specs.Prelude.{Some, None}
use Rattle.bodies.specs.Items.{bodies_said}
use Rattle.bodies.specs.Places.{PlaceOf}

module _ (e : Edition) (text : List ℕ) (names : List (List ℕ)) where
  pub first_body : (at : ℕ) (h : Head) (number : ℕ) → HeadRead e text at h →
      number ≡ number_of names (part_of_lem text at h.end) →
      PlaceOf e text names (Some (record { at = h.body; head = number }))
      (bodies_from names (said_at e LineStart text at).lines)
  unfolding bodies_from
  first_body at h number read is =
      record {
        begins = read.element;
        bodies_are =
            ap (λ k. bodies_said names k (said_at e Open text h.body)) is
            ∙ ap (λ said. bodies_from names said.lines) (sym read.says);
      }

  pub no_line : (at : ℕ) → length text ≤ at →
      PlaceOf e text names None (bodies_from names (said_at e LineStart text at).lines)
  unfolding bodies_from says_from pieces_from
  no_line at past = record { begins = tt; bodies_are = rw (drop_of_length-le text past) }
