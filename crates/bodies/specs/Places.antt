-- Where the bodies of a text begin. Assumes nothing.
use Rattle.std.specs.Prelude.{ℕ, ◌≡◌, List, [], Option, Some, None, MatchOption}
use Rattle.abnf.specs.declared.Edition.{Edition}
use Rattle.abnf.specs.declared.Stage.TheVariants.{Open}
use Rattle.abnf_jobs.specs.Bodies.{Body}
use Rattle.cursor.specs.Cursor.{said_at, ElementBegins}
use Rattle.bodies.specs.declared.BodyPlace.{BodyPlace}
use Rattle.bodies.specs.Items.{bodies_said}

-- the bodies from a place on, if there is one
abbrev pub bodies_at : Edition → List ℕ → List (List ℕ) → Option BodyPlace → List Body
bodies_at e text names None = []
bodies_at e text names (Some p) = bodies_said names p.head (said_at e Open text p.at)

-- a place from which on there are these bodies
pub record PlaceOf (e : Edition) (text : List ℕ) (names : List (List ℕ)) (p : Option BodyPlace) (bodies : List Body) :
    Type 0 where
  pub begins : MatchOption p (Unit {0}) (λ b. ElementBegins e text b.at)
  pub bodies_are : bodies_at e text names p ≡ bodies
