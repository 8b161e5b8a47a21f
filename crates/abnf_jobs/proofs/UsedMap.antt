-- The map that is written has just the characters that are used, in ascending order, and 0 past them. Assumes nothing.
use Rattle.grammar.proofs.Basics.{◌≡◌, ◌∙◌, sym, subst, List, ℕ, ◌<◌, ◌≤◌, arith, length, get_or, take, length-take-le}
use Rattle.grammar.proofs.Basics.{get_or-take, ext_get_or}
use lib.ListN.{get_or-eq_default}
use Rattle.job.proofs.Filling.{written_long, written_at}
use Rattle.abnf.specs.Text.{Line}
use Rattle.abnf.specs.Reading.{lines_of}
use Rattle.abnf_jobs.specs.Bodies.{bodies_of}
use Rattle.abnf_jobs.specs.Characters.{used_in, characters_used, mapped}
use Rattle.abnf_jobs.specs.Operation.{read_of}
use Rattle.abnf_jobs.specs.Theorems.Written.{MapOf, MapIsUsed}
use Rattle.abnf_jobs.proofs.Premises.{Bytes}
use Rattle.abnf_jobs.proofs.Success.{success}
use Rattle.abnf_jobs.proofs.ByteCharacters.{characters_bytes}
use Rattle.abnf_jobs.proofs.UsedCharacters.{characters_ascending, used_member, used_byte, listed_is_used}

-- a list of at most 32 characters in a map of at least 32 bytes
module _ (characters map : List ℕ) (few : length characters ≤ 32) (long : 32 ≤ length map) where
  mapped_at : (i : ℕ) → i < 32 → get_or (mapped characters map) i 0 ≡ get_or characters i 0
  mapped_at i l = written_at (λ k. get_or characters k 0) 32 map i l (omega arith)

  pub mapped_front : take (length characters) (mapped characters map) ≡ characters
  mapped_front =
      let n = length characters in
      let enough : n ≤ length (mapped characters map) =
      omega (arith, written_long (λ k. get_or characters k 0) 0 32 map) in
      let counted = length-take-le n (mapped characters map) enough in
      ext_get_or 0 (take n (mapped characters map)) characters counted
      (λ i l. get_or-take n (mapped characters map) i 0 (omega arith) ∙ mapped_at i (omega arith))

module _ (lines : List Line) (map : List ℕ) (bytes : Bytes lines) (few : length (characters_used lines) ≤ 32)
    (long : 32 ≤ length map) where
  pub used_map : MapOf lines (mapped (characters_used lines) map) (length (characters_used lines))
  used_map =
      let characters = characters_used lines in
      let used = used_in (bodies_of lines) in
      let at = mapped_at characters map few long in
      record {
        few = few;
        ascending = λ i j l h. rw (at i (omega arith), at j (omega arith)) (characters_ascending lines i j l h);
        used = λ c. rw (mapped_front characters map few long) (
          λ m. (listed_is_used lines c (used_member used 256 c m).0).0 m,
          λ u. (listed_is_used lines c (used_byte lines bytes c u)).1 u,
        );
        zero = λ i h l. at i l ∙ get_or-eq_default characters 0 h;
      }

pub map_is_used_lem : MapIsUsed
map_is_used_lem e text map job s =
    let it = success e text map job s in
    let lines = lines_of e text in
    let found = used_map lines map (characters_bytes e text it.in_the_part) it.characters it.long in
    subst (λ m. MapOf lines m (read_of e text map job).answer.characters) (sym it.map_is)
    (subst (λ n. MapOf lines (mapped (characters_used lines) map) n) (sym it.count_is) found)
