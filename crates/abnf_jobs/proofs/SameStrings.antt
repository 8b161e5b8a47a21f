-- What a text and the job that it is read into derive, read through the map: the map has the characters used in its
-- front, and the job's rules are those of the lines. Assumes nothing.
use Rattle.grammar.proofs.Basics.{◌≡◌, sym, ◌↔◌, List, ◌∷◌, [], ℕ, ◌<◌, ◌≤◌, arith, length, get_or}
use mathlib.Core.Logic.Iff
use Rattle.grammar.specs.Rule.{Productions, ProductionsOf, Among}
use Rattle.grammar.specs.Derivation.{Derives}
use Rattle.job.specs.Format.{bytes_of}
use Rattle.job.specs.Job.{job_of}
use Rattle.job.proofs.Filling.{written_at}
use Rattle.abnf.specs.declared.Edition.{Edition}
use Rattle.abnf.specs.Reading.{lines_of}
use Rattle.abnf_jobs.specs.Characters.{characters_used, mapped}
use Rattle.abnf_jobs.specs.Rules.{records_of_lines}
use Rattle.abnf_jobs.specs.Theorems.Written.{Succeeds, Through, no_more, one_more, ReadThrough, SameStrings}
use Rattle.abnf_jobs.specs.Theorems.Written.{AllRead, JobDerives, variable_of_line}
use Rattle.abnf_jobs.proofs.Premises.{Known, Bytes, Success}
use Rattle.abnf_jobs.proofs.Success.{success}
use Rattle.abnf_jobs.proofs.WrittenRules.{rule_written}
use Rattle.abnf_jobs.proofs.KnownNames.{names_known}
use Rattle.abnf_jobs.proofs.ByteCharacters.{characters_bytes}
use Rattle.abnf_jobs.proofs.Languages.{lines_same, lines_read}

-- two maps with the same first n characters
through_alike : {map other : List ℕ} (n : ℕ) {v w : List ℕ} → ((i : ℕ) → i < n → get_or map i 0 ≡ get_or other i 0) →
    Through map n v w → Through other n v w
through_alike n same no_more = no_more
through_alike n same (one_more {i} l t) = rw (same i l) (one_more l (through_alike n same t))

module _ (characters map : List ℕ) (few : length characters ≤ 32) (long : 32 ≤ length map) where
  mapped_at : (i : ℕ) → i < length characters → get_or (mapped characters map) i 0 ≡ get_or characters i 0
  mapped_at i l = written_at (λ k. get_or characters k 0) 32 map i (omega arith) (omega arith)

  pub through_mapped : (v w : List ℕ) →
      Through (mapped characters map) (length characters) v w ↔ Through characters (length characters) v w
  through_mapped v w = (
    through_alike (length characters) mapped_at,
    through_alike (length characters) (λ i l. sym (mapped_at i l)),
  )

module _ (e : Edition) (text map job : List ℕ) (s : Succeeds e text map job) where
  it : Success e text map job
  it = success e text map job s

  known : Known (lines_of e text)
  known = names_known e text it.in_the_part it.names_fine

  bytes : Bytes (lines_of e text)
  bytes = characters_bytes e text it.in_the_part

  abbrev characters : List ℕ
  characters = characters_used (lines_of e text)

  read_exact : (v w : List ℕ) → ReadThrough e text map job v w ↔ Through characters (length characters) v w
  read_exact v w = rw (it.map_is, it.count_is) (through_mapped characters map it.characters it.long v w)

  abbrev Q : Productions
  Q = ProductionsOf (Among (job_of (bytes_of (records_of_lines (lines_of e text)))).rules)

  derives_exact : (A : ℕ) (v : List ℕ) → JobDerives e text map job A v ↔ Derives Q (A ∷ []) v
  derives_exact A v = rw it.job_is Iff.rfl

pub same_strings_lem : SameStrings
same_strings_lem e text map job s l m w string =
    let lines = lines_of e text in
    let A = variable_of_line e text l in
    let (to, from) =
    lines_same lines (known e text map job s) (bytes e text map job s) (it e text map job s).variables _
    (rule_written lines) l m w string in (
      λ d.
          let (v, t, q) = to d in
          (v, (read_exact e text map job s v w).1 t, (derives_exact e text map job s A v).1 q),
      λ (v, t, q). from (v, (read_exact e text map job s v w).0 t, (derives_exact e text map job s A v).0 q),
    )

pub all_read : AllRead
all_read e text map job s l m v t d =
    let lines = lines_of e text in
    let (w, string, r) =
    lines_read lines (known e text map job s) (bytes e text map job s) (it e text map job s).variables _
    (rule_written lines) l m v t ((derives_exact e text map job s (variable_of_line e text l) v).0 d) in
    (w, string, (read_exact e text map job s v w).1 r)
