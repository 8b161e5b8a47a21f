-- The second walk over a text: from a place on, the bodies left are those that are said there. Assumes nothing.
use Rattle.grammar.proofs.Basics.{◌≡◌, refl, List, [], ◌∷◌, ℕ, ◌<◌, ◌≤◌, arith, length, replicate}
use Rattle.std.specs.Prelude.{Option, Some, None, MatchOption}
use Rattle.abnf.specs.declared.Stage.TheVariants.{LineStart}
use Rattle.abnf.specs.Text.{Line}
use Rattle.abnf.specs.Reading.{lines_of}
use Rattle.abnf_jobs.specs.Bodies.{Body, bodies_of, bodies_from}
use Rattle.abnf_jobs.specs.Characters.{used_in}
use Rattle.abnf_jobs.proofs.RuleRange as range
use Rattle.cursor.specs.Cursor.{said_at, ElementBegins}
use Rattle.naming.specs.Named.{Named}
use Rattle.bodies.specs.declared.Rest.{Rest}
use Rattle.bodies.specs.declared.BodyPlace.{BodyPlace}
use Rattle.bodies.specs.Items.{bodies_behind, ReadBody}
use Rattle.bodies.specs.Places.{bodies_at, PlaceOf}
use Rattle.text_symbols.specs.declared.letters.Variables.{Variables}
use Rattle.text_symbols.specs.Marks.{Numbered}
use Rattle.text_symbols.specs.Keys.{RulesPut, ItemsFit, letters_by}
use Rattle.reader.specs.Walk.{TextReady, Fits, ItemsPut, RulesKept}
use Rattle.reader.proofs.ReadyText.{ready_known, ready_bytes, ready_count, ready_bodies, body_at, body_first}
use Rattle.reader.proofs.OrderedRules.{Ordered, ordered_none, head_byte, taken_few, fewer, read_fit}
use Rattle.reader.proofs.OrderedRules.{ordered_more, ordered_all}

pub record Putting (t : Named) (p : Option BodyPlace) (v : Variables) (rules : Option (List ℕ)) :
    Type 0 where
  pub begins : MatchOption p (Unit {0}) (λ b. ElementBegins t.edition t.text b.at)
  pub ordered : Ordered (lines_of t.edition t.text) (bodies_at t.edition t.text t.names p) v rules

module _ {t : Named} (ready : TextReady t) where
  abbrev lines : List Line
  lines = lines_of t.edition t.text

  -- there are numbers for all that the text needs
  pub text_numbered : Fits lines → range.Numbered lines
  text_numbered fits =
      record {
        variables = fits.variables;
        characters = fits.characters;
        known = ready_known ready;
        bytes = ready_bytes ready;
      }

  pub putting_starts : {p : Option BodyPlace} {taken : ℕ} →
      PlaceOf t.edition t.text t.names p (bodies_from t.names (said_at t.edition LineStart t.text 0).lines) →
      taken ≡ length t.names → Putting t p (record { letters = replicate 26 None; taken = taken }) (Some [])
  putting_starts {p} place count =
      record {
        begins = place.begins;
        ordered = rw (ready_bodies ready place, count, ready_count ready) (ordered_none lines);
      }

  module _ (fits : Fits lines) {numbers : List ℕ} (numbered : Numbered (used_in (bodies_of lines)) numbers)
      {v : Variables} {rules : Option (List ℕ)} where
    pub putting_ends : {after : Option (List ℕ)} → Putting t None v rules →
        RulesPut (letters_by v numbers 26) rules after → RulesKept lines after
    putting_ends it = ordered_all (text_numbered fits) numbered it.ordered refl

    -- a body is read
    module _ {p : BodyPlace} (it : Putting t (Some p) v rules) {items : List ℕ} {r : Rest}
        (read : ReadBody t.edition t.text t.names p.at items r) where
      abbrev body : Body
      body = body_at t.edition t.text t.names p

      here : Ordered lines (body ∷ bodies_behind t.edition t.text t.names p.head r) v rules
      here = rw (← body_first t.edition t.text t.names p read) it.ordered

      pub head_fits : p.head < 32
      head_fits = head_byte (text_numbered fits) numbered body here read.kept

      pub few_taken : v.taken ≤ 32
      few_taken = taken_few (text_numbered fits) numbered body here read.kept

      pub items_fit : ItemsFit items
      items_fit = read_fit (text_numbered fits) numbered body here read.kept

      pub part_short : length items ≤ 34
      part_short = omega (arith, fewer (text_numbered fits) numbered body here read.kept)

      pub putting_on : {q : Option BodyPlace} {after : Variables} {now : Option (List ℕ)} →
          ItemsPut items p.head numbers v rules after now →
          PlaceOf t.edition t.text t.names q (bodies_behind t.edition t.text t.names p.head r) →
          Putting t q after now
      putting_on done place =
          record {
            begins = place.begins;
            ordered =
                rw (place.bodies_are, done.tails)
                (ordered_more (text_numbered fits) numbered body here read.kept done.letters done.put);
          }
