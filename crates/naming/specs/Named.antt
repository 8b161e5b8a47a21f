-- A text, and some of its names. Assumes nothing.
use Rattle.std.specs.Prelude.{ℕ, ◌≤◌, List, [], ◌∷◌, ◌++◌, cond, length}
use Rattle.abnf.specs.declared.Edition.{Edition}
use Rattle.abnf.specs.Meaning.{is_among_lem}

-- two offsets of a text, in order
pub record Inside (text : List ℕ) (at end : ℕ) : Type 0 where
  pub order : at ≤ end
  pub within : end ≤ length text

-- a text, the edition that it is read by, and names of it
pub record Named : Type 0 where
  pub edition : Edition
  pub text : List ℕ
  pub names : List (List ℕ)

-- a name put behind others unless it is among them
abbrev pub entered : List (List ℕ) → List ℕ → List (List ℕ)
entered names n = cond (is_among_lem names n) names (names ++ (n ∷ []))
