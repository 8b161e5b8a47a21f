-- The items of a literal, kept character by character. Assumes nothing.
use Rattle.grammar.proofs.Basics.{ℕ, ◌<◌, ◌≤◌, List, [], ◌∷◌, ◌++◌, ◌≡◌, ap, arith, false, length, take, map}
use Rattle.std.specs.Prelude.{None}
use Rattle.abnf.specs.declared.Character.{Character}
use Rattle.abnf.specs.Reading.{characters_of_lem}
use Rattle.abnf_jobs.specs.Bodies.{item_of}
use Rattle.scanner.specs.Parts.{part_of_lem}
use Rattle.cursor.specs.declared.Characters.{Characters}
use Rattle.cursor.specs.Cursor.{characters_left, Ready}
use Rattle.bodies.specs.Items.{code_of}
use Rattle.bodies.proofs.Keeping.{Keeping, kept_on, all_kept}

-- the numbers of characters
abbrev pub character_codes : List Character → List ℕ
character_codes cs = map code_of (map item_of cs)

-- what is kept comes to a goal with the characters that are left
pub record Spelling (goal text : List ℕ) (left : Characters) (kept : List ℕ) : Type 0 where
  pub ready : Ready text left
  pub keeping : Keeping goal kept (character_codes (characters_left text left))

module _ (text before : List ℕ) (at end : ℕ) where
  -- what is kept in the end
  abbrev pub literal_goal : List ℕ
  literal_goal = take 35 (before ++ character_codes (characters_of_lem (part_of_lem text at end)))

  pub spelling_begins : (left : Characters) → length before ≤ 35 →
      characters_left text left ≡ characters_of_lem (part_of_lem text at end) → Ready text left →
      Spelling literal_goal text left before
  spelling_begins left f is r =
      record {
        ready = r;
        keeping = record { few = f; come = ap (λ cs. take 35 (before ++ character_codes cs)) is };
      }

  pub spelling_ends : {left : Characters} {kept : List ℕ} → Spelling literal_goal text left kept → left.at ≡ None →
      kept ≡ literal_goal
  spelling_ends s none = all_kept (rw none at s.keeping)

module _ (text : List ℕ) (left rest : Characters) (c : Character)
    (taken : characters_left text left ≡ c ∷ characters_left text rest) where
  pub fewer_left : length (characters_left text rest) < length (characters_left text left)
  fewer_left = omega (arith, ap length taken)

  pub spelling_on : {goal kept after : List ℕ} {item : ℕ} → Spelling goal text left kept → Ready text rest →
      item ≡ code_of (item_of c) → after ≡ take 35 (kept ++ (item ∷ [])) → Spelling goal text rest after
  spelling_on s r is more =
      let k = rw taken at s.keeping in
      record {
        ready = r;
        keeping = kept_on (code_of (item_of c) ∷ []) (character_codes (characters_left text rest)) k (rw is at more);
      }
