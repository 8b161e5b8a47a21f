-- What the codes mean, in the papers' words. Assumes nothing.
use Rattle.std.specs.Prelude.{◌≡◌, ℕ, true, false, List}
use Rattle.grammar.specs.Rule.{Rule, Among}
use Rattle.grammar.specs.Useful.{Productive, InContext}
use Rattle.verdicts.specs.Verdicts.{is_named_lem}

-- Verdicts: 0 for a symbol that no rule names and that is not the start symbol; 1 for a useful one, which derives a
-- terminal string and which the start symbol derives between terminal strings; 2 where it derives no terminal string;
-- 3 where it derives one, but the start symbol does not derive it between terminal strings. So where both fail the
-- code is 2.
pub data CodeIs (rules : List Rule) (S X : ℕ) : ℕ → Type 0 where
  unnamed : is_named_lem rules S X ≡ false → CodeIs rules S X 0
  useful_symbol :
      is_named_lem rules S X ≡ true → Productive (Among rules) X → InContext (Among rules) S X → CodeIs rules S X 1
  unproductive : is_named_lem rules S X ≡ true → (Productive (Among rules) X → ⊥) → CodeIs rules S X 2
  out_of_context :
      is_named_lem rules S X ≡ true → Productive (Among rules) X → (InContext (Among rules) S X → ⊥) → CodeIs rules S X 3
