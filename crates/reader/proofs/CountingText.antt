-- The first walk over a text: from a place on, the bodies left are those that are said there. Assumes nothing.
use Rattle.grammar.proofs.Basics.{◌≡◌, refl, ⊎_elim, Bool, false, List, ◌∷◌, ℕ, ◌<◌, ◌≤◌, arith, length}
use Rattle.grammar.proofs.Basics.{replicate, eq-or-lt_of_le}
use Rattle.std.specs.Prelude.{Option, Some, None, MatchOption}
use Rattle.abnf.specs.declared.Stage.TheVariants.{LineStart}
use Rattle.abnf.specs.Reading.{lines_of}
use Rattle.abnf.specs.Meaning.{names_of}
use Rattle.abnf_jobs.specs.Bodies.{Body, bodies_from}
use Rattle.cursor.specs.Cursor.{said_at, ElementBegins}
use Rattle.naming.specs.Named.{Named}
use Rattle.bodies.specs.declared.Rest.{Rest}
use Rattle.bodies.specs.declared.BodyPlace.{BodyPlace}
use Rattle.bodies.specs.Items.{bodies_behind, ReadBody}
use Rattle.bodies.specs.Places.{bodies_at, PlaceOf}
use Rattle.text_symbols.specs.declared.letters.Variables.{Variables}
use Rattle.text_symbols.specs.Letters.{LettersFit}
use Rattle.text_symbols.specs.Marks.{Marked}
use Rattle.reader.specs.Walk.{TextReady, ItemsCounted, Needs}
use Rattle.reader.proofs.KeptItems.{kept_few}
use Rattle.reader.proofs.ReadyText.{ready_known, ready_bytes, ready_count, ready_bodies, body_at, body_first}
use Rattle.reader.proofs.CountedBodies.{Counted, counted_none, counted_all, counted_too_many, kept_fit}
use Rattle.reader.proofs.CountedBodies.{taken_too_many, counted_more}

pub record Counting (t : Named) (p : Option BodyPlace) (v : Variables) (used : List Bool) : Type 0 where
  pub begins : MatchOption p (Unit {0}) (λ b. ElementBegins t.edition t.text b.at)
  pub counted :
      Counted (lines_of t.edition t.text) (bodies_at t.edition t.text t.names p) v used

module _ {t : Named} (ready : TextReady t) (few : length t.names ≤ 32) where
  pub counting_starts : {p : Option BodyPlace} {taken : ℕ} {used : List Bool} →
      PlaceOf t.edition t.text t.names p (bodies_from t.names (said_at t.edition LineStart t.text 0).lines) →
      taken ≡ length t.names → Marked (λ c. false) used → Counting t p (record { letters = replicate 26 None; taken = taken }) used
  counting_starts {p} place count none =
      record {
        begins = place.begins;
        counted =
            rw (ready_bodies ready place, count, ready_count ready)
            (counted_none (lines_of t.edition t.text) (rw (← ready_count ready) few) none);
      }

  pub counting_ends : {v : Variables} {used : List Bool} → Counting t None v used →
      Needs (lines_of t.edition t.text) v.taken used
  counting_ends it = counted_all it.counted refl

  -- a body is read
  module _ {p : BodyPlace} {v : Variables} {used : List Bool} (it : Counting t (Some p) v used)
      {items : List ℕ} {r : Rest} (read : ReadBody t.edition t.text t.names p.at items r) where
    abbrev body : Body
    body = body_at t.edition t.text t.names p

    here :
        Counted (lines_of t.edition t.text) (body ∷ bodies_behind t.edition t.text t.names p.head r) v used
    here = rw (← body_first t.edition t.text t.names p read) it.counted

    few_names : length (names_of (lines_of t.edition t.text)) ≤ 32
    few_names = rw (← ready_count ready) few

    pub too_long : length items ≡ 35 → Needs (lines_of t.edition t.text) 33 used
    too_long = counted_too_many (ready_known ready) (ready_bytes ready) few_names body here read.kept

    module _ (other : length items ≡ 35 → ⊥) where
      fewer : length items < 35
      fewer = ⊎_elim (λ e. absurd (other e)) (λ l. l) (eq-or-lt_of_le (kept_few body.items read.kept))

      pub part_fits : LettersFit items
      part_fits = kept_fit (ready_known ready) (ready_bytes ready) few_names body here read.kept fewer

      pub part_short : length items ≤ 34
      part_short = omega (arith, fewer)

      module _ {after : Variables} {marks : List Bool}
          (done : ItemsCounted items v used after marks) where
        pub too_many : 32 < after.taken → Needs (lines_of t.edition t.text) 33 marks
        too_many l =
            taken_too_many (ready_known ready) (ready_bytes ready) few_names body here read.kept fewer done.letters
            (rw done.tails at l)

        pub counting_on : {q : Option BodyPlace} → after.taken ≤ 32 →
            PlaceOf t.edition t.text t.names q (bodies_behind t.edition t.text t.names p.head r) →
            Counting t q after marks
        counting_on l place =
            record {
              begins = place.begins;
              counted =
                  rw (place.bodies_are, done.tails)
                  (counted_more (ready_known ready) (ready_bytes ready) few_names body here read.kept fewer
                  done.letters (rw done.tails at l) done.marked);
            }
