-- What is known of a text that neither 16 nor 17 refuses and of its bodies one after the other. Assumes nothing.
use Rattle.grammar.proofs.Basics.{◌≡◌, refl, ◌∙◌, ap, List, ◌∷◌, ℕ, length}
use Rattle.abnf.specs.declared.Edition.{Edition}
use Rattle.abnf.specs.declared.Stage.TheVariants.{LineStart, Open}
use Rattle.abnf.specs.Reading.{lines_of}
use Rattle.abnf.specs.Meaning.{names_of}
use Rattle.abnf_jobs.specs.Bodies.{Body, body_of, bodies_from, bodies_of}
use Rattle.abnf_jobs.proofs.Premises.{Known, Bytes}
use Rattle.abnf_jobs.proofs.KnownNames.{names_known}
use Rattle.abnf_jobs.proofs.ByteCharacters.{characters_bytes}
use Rattle.cursor.specs.Cursor.{said_at, FineAt}
use Rattle.std.specs.Prelude.{Option, Some, None}
use Rattle.naming.specs.Named.{Named}
use Rattle.naming.proofs.LineNames.{fine_start, lines_start}
use Rattle.bodies.specs.declared.Rest.{Rest}
use Rattle.bodies.specs.declared.BodyPlace.{BodyPlace}
use Rattle.bodies.specs.Items.{bodies_behind, ReadBody}
use Rattle.bodies.specs.Places.{bodies_at, PlaceOf}
use Rattle.reader.specs.Walk.{TextReady}

module _ {t : Named} (ready : TextReady t) where
  pub ready_known : Known (lines_of t.edition t.text)
  ready_known = names_known t.edition t.text ready.in_the_part ready.names_fine

  pub ready_bytes : Bytes (lines_of t.edition t.text)
  ready_bytes = characters_bytes t.edition t.text ready.in_the_part

  pub ready_starts : FineAt t.edition LineStart t.text 0
  ready_starts = fine_start t.edition t.text ready.in_the_part

  pub ready_count : length t.names ≡ length (names_of (lines_of t.edition t.text))
  ready_count = ap length ready.names

  -- from the start on there are the bodies of all lines
  pub ready_bodies : {p : Option BodyPlace} →
      PlaceOf t.edition t.text t.names p (bodies_from t.names (said_at t.edition LineStart t.text 0).lines) →
      bodies_at t.edition t.text t.names p ≡ bodies_of (lines_of t.edition t.text)
  ready_bodies place = place.bodies_are ∙ rw (lines_start t.edition t.text, ready.names)

-- a body and those behind it
module _ (e : Edition) (text : List ℕ) (names : List (List ℕ)) (p : BodyPlace) where
  abbrev pub body_at : Body
  body_at = body_of names p.head (said_at e Open text p.at).here

  pub body_first : {items : List ℕ} {r : Rest} → ReadBody e text names p.at items r →
      bodies_at e text names (Some p) ≡ body_at ∷ bodies_behind e text names p.head r
  body_first read = read.bodies p.head

-- where there is no place, there is none
pub no_place : (p : Option BodyPlace) → ((b : BodyPlace) → p ≡ Some b → ⊥) → p ≡ None
no_place None other = refl
no_place (Some b) other = absurd (other b refl)
