-- The rules of a text are in range: heads are variables and bodies are symbols, where no more than 32 roles and 32
-- characters are needed. Assumes nothing.
use Rattle.grammar.proofs.Basics.{◌≡◌, refl, sym, ap, subst, ⊎_elim, Bool, List, ◌∷◌, [], ◌++◌, List·Memᴰ, map}
use Rattle.grammar.proofs.Basics.{List·Memᴰ·head, List·Memᴰ·tail, List·Memᴰ·append-cases, List·Memᴰ·eq-of-singleton, ℕ}
use Rattle.grammar.proofs.Basics.{◌<◌, ◌≤◌, ◌+◌, arith, length, length-append}
use Rattle.grammar.specs.Rule.{empty, unit, pair}
use Rattle.job.specs.declared.JobRecord.{JobRecord}
use Rattle.job.specs.Format.{field_classes, row_of, bad_field_lem}
use Rattle.job.specs.Job.{pair_record}
use Rattle.job.proofs.RuleRecords.{record_fits}
use Rattle.long_jobs.specs.Convert.{Conversion, write, take_one, split}
use Rattle.abnf.specs.Text.{Line}
use Rattle.abnf.specs.Meaning.{names_of}
use Rattle.abnf_jobs.specs.Bodies.{Item, named, letter, character, Body, bodies_of}
use Rattle.abnf_jobs.specs.Characters.{used_in, terminal_of, characters_used}
use Rattle.abnf_jobs.specs.Roles.{Role, variable_of, with_letters, tails_of, for_names, roles_of}
use Rattle.abnf_jobs.specs.Rules.{symbol_of, rules_of_lines}
use Rattle.abnf_jobs.proofs.Premises.{Known, Bytes}
use Rattle.abnf_jobs.proofs.EveryMember.{Every, every_none}
use Rattle.abnf_jobs.proofs.KnownNames.{line_numbered}
use Rattle.abnf_jobs.proofs.BodyItems.{body_from}
use Rattle.abnf_jobs.proofs.RolePlaces.{Begins, has_begun, bodies_begin, name_has}
use Rattle.abnf_jobs.proofs.LettersMet.{letter_has, letters_met, letter_of}
use Rattle.abnf_jobs.proofs.LetterCases.{two_cases}
use Rattle.abnf_jobs.proofs.UsedCharacters.{used_place}
use Rattle.abnf_jobs.proofs.ItemsRead.{ItemReads}
use Rattle.abnf_jobs.proofs.FineItems.{item_fine, item_used}
use Rattle.abnf_jobs.proofs.RuleOrigins.{FromBody, FromLetter, rule_origin}

-- the kind is known and the fields fit
abbrev pub Fits : JobRecord → Type 0
Fits r = (row_of r.kind < 7) × (bad_field_lem field_classes r ≡ 0)

one_behind : (rs : List JobRecord) (r : JobRecord) → Every Fits rs → Fits r → Every Fits (rs ++ (r ∷ []))
one_behind rs r fit f x m =
    ⊎_elim (fit x) (λ k. subst Fits (sym (List·Memᴰ·eq-of-singleton k)) f) (List·Memᴰ·append-cases rs m)

-- what items are split into, where there are variables for their tails
split_fits : (symbol : Item → ℕ) (A : ℕ) (xs : List Item) (c : Conversion) → A < 32 →
    Every (λ x. symbol x < 64) xs → c.taken + length (tails_of xs) ≤ 32 → Every Fits c.written →
    Every Fits (split (λ k. k) A (map symbol xs) c).written
unfolding split tails_of
split_fits symbol A [] c a below room fit = one_behind c.written _ fit (record_fits (empty A) a)
split_fits symbol A (x ∷ []) c a below room fit =
    one_behind c.written _ fit (record_fits (unit A (symbol x)) (a, below x (List·Memᴰ·head refl)))
split_fits symbol A (x ∷ y ∷ []) c a below room fit =
    let second = below y (List·Memᴰ·tail (List·Memᴰ·head refl)) in
    one_behind c.written _ fit
    (record_fits (pair A (symbol x) (symbol y)) (a, below x (List·Memᴰ·head refl), second))
split_fits symbol A (x ∷ y ∷ z ∷ xs) c a below room fit =
    let T = c.taken in
    let tail : T < 32 = omega arith in
    split_fits symbol T (y ∷ z ∷ xs) (take_one (write (pair_record A (symbol x) T) c)) tail
    (λ w m. below w (List·Memᴰ·tail m)) (omega arith)
    (one_behind c.written _ fit
    (record_fits (pair A (symbol x) T) (a, below x (List·Memᴰ·head refl), omega arith)))

pub begun_length : {rs all : List Role} → Begins rs all → length rs ≤ length all
begun_length {rs} b = omega (arith, length-append rs b.more, ap length b.is)

-- there are numbers for the roles and the characters, every name begins a line and every character is a byte
pub record Numbered (lines : List Line) : Type 0 where
  pub variables : length (roles_of lines) ≤ 32
  pub characters : length (characters_used lines) ≤ 32
  pub known : Known lines
  pub bytes : Bytes lines

module _ {lines : List Line} (it : Numbered lines) where
  abbrev used : ℕ → Bool
  used = used_in (bodies_of lines)

  abbrev names : List Role
  names = for_names (length (names_of lines))

  name_below : (n : ℕ) → n < length (names_of lines) → n < 32
  name_below n l =
      let has = has_begun (bodies_begin names (bodies_of lines)) (name_has (length (names_of lines)) n l) in
      omega (arith, it.variables, has.below)

  pub head_below : (b : Body) → List·Memᴰ b (bodies_of lines) → b.head < 32
  head_below b m =
      let from = body_from (names_of lines) lines b m in
      rw (← from.is) (name_below _ (line_numbered lines from.line from.line_is_one))

  module _ (b : Body) (m : List·Memᴰ b (bodies_of lines)) where
    terminal_below : (x : Item) (c : ℕ) → List·Memᴰ x b.items → ItemReads x c → c < 256 → terminal_of used c < 64
    terminal_below x c k r l =
        omega (arith, it.characters, (used_place used 256 c l (item_used lines b m x c k r l)).0)

    symbol_below : (roles : List Role) → length (with_letters roles b.items) ≤ 32 → (x : Item) →
        List·Memᴰ x b.items → symbol_of used (with_letters roles b.items) x < 64
    symbol_below roles few (named n) k = omega (arith, name_below n (it.known.known b m n k))
    symbol_below roles few (letter l) k =
        omega (arith, (letter_has (with_letters roles b.items) l (letters_met roles b.items l k)).below)
    symbol_below roles few (character c) k =
        terminal_below (character c) c k refl (item_fine lines b m it.known it.bytes (character c) k)

  body_fits : (r : JobRecord) → FromBody used names (bodies_of lines) r → Fits r
  body_fits r f =
      let items = f.body.items in
      let roles = with_letters f.before items in
      let all = begun_length f.begin in
      let tails : length roles + length (tails_of items) ≤ 32 =
      omega (arith, it.variables, length-append roles (tails_of items)) in
      split_fits (symbol_of used roles) f.body.head items (record { taken = length roles; written = [] })
      (head_below f.body f.is_one) (symbol_below f.body f.is_one f.before (omega arith)) tails
      (every_none Fits) r f.written

  letter_fits : (r : JobRecord) → FromLetter used (roles_of lines) 26 r → Fits r
  letter_fits r f =
      let of = letter_of f.small (length (names_of lines)) (bodies_of lines) f.met in
      let l : f.small ≤ 122 = omega (arith, f.is_small) in
      let c : f.terminal < 256 = ⊎_elim (λ e. omega arith) (λ e. omega arith) f.either in
      let reads = (two_cases f.small f.terminal f.is_small.0 l).1 f.either in
      rw f.is
      (record_fits (unit (variable_of (roles_of lines) f.small) (terminal_of used f.terminal)) (
        omega (arith, it.variables, (letter_has (roles_of lines) f.small f.met).below),
        terminal_below of.body of.is_one (letter f.small) f.terminal of.stands reads c,
      ))

  pub rules_fit : Every Fits (rules_of_lines lines)
  rules_fit r m = ⊎_elim (body_fits r) (letter_fits r) (rule_origin lines r m)
