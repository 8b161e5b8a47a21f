-- A walk over the bodies of a text whose names begin lines and whose characters are bytes: with each body the table of
-- letters and the count of variables grow as the roles do. Assumes nothing.
use Rattle.grammar.proofs.Basics.{◌≡◌, refl, ◌∙◌, sym, ap, subst, List, [], ◌∷◌, ◌++◌, append-nil, append_assoc, map}
use Rattle.grammar.proofs.Basics.{List·Memᴰ, List·Memᴰ·head, Memᴰ·append-right, ◌≤◌, ◌+◌, ◌-◌, arith, length}
use Rattle.grammar.proofs.Basics.{replicate, length-append}
use Rattle.abnf.specs.Text.{Line}
use Rattle.abnf.specs.Meaning.{names_of}
use Rattle.abnf_jobs.specs.Bodies.{Body, bodies_of}
use Rattle.abnf_jobs.specs.Roles.{Role, with_letters, tails_of, with_body, with_bodies, for_names, roles_of}
use Rattle.abnf_jobs.proofs.Premises.{Known, Bytes}
use Rattle.abnf_jobs.proofs.EveryMember.{Every}
use Rattle.abnf_jobs.proofs.FineItems.{Fine, item_fine}
use Rattle.abnf_jobs.proofs.RolePlaces.{bodies_begin}
use Rattle.abnf_jobs.proofs.RuleRange.{begun_length}
use Rattle.bodies.specs.Items.{code_of}
use Rattle.std.specs.Prelude.{None}
use Rattle.text_symbols.specs.declared.letters.Variables.{Variables}
use Rattle.text_symbols.specs.Letters.{Letters, LettersTaken}
use Rattle.reader.proofs.KeptItems.{items_back}
use Rattle.reader.proofs.LetterTables.{letters_of_names, letters_with_tails}

-- the roles of the bodies up to some, and the rest
bodies_apart : (rs : List Role) (bs cs : List Body) → with_bodies rs (bs ++ cs) ≡ with_bodies (with_bodies rs bs) cs
unfolding with_bodies
bodies_apart rs [] cs = refl
bodies_apart rs (b ∷ bs) cs = bodies_apart (with_body rs b.items) bs cs

abbrev pub roles_up_to : List Line → List Body → List Role
roles_up_to lines done = with_bodies (for_names (length (names_of lines))) done

pub one_body_more : (lines : List Line) (done : List Body) (b : Body) →
    roles_up_to lines (done ++ (b ∷ [])) ≡ with_body (roles_up_to lines done) b.items
unfolding with_bodies
one_body_more lines done b = bodies_apart (for_names (length (names_of lines))) done (b ∷ [])

-- some bodies are walked, with this table and count, and these are left
pub record Walked (lines : List Line) (done left : List Body) (v : Variables) : Type 0 where
  pub all : done ++ left ≡ bodies_of lines
  pub table : Letters (roles_up_to lines done) v

pub walked_none : (lines : List Line) →
    Walked lines [] (bodies_of lines) (record { letters = replicate 26 None; taken = length (names_of lines) })
unfolding with_bodies
walked_none lines = record { all = refl; table = letters_of_names (length (names_of lines)) }

module _ {lines : List Line} {done left : List Body} {v : Variables}
    (it : Walked lines done left v) where
  pub walked_few : v.taken ≤ length (roles_of lines)
  walked_few =
      let more = begun_length (bodies_begin (roles_up_to lines done) left) in
      let whole = bodies_apart (for_names (length (names_of lines))) done left in
      rw (it.table.counted, ← it.all, whole) more

  module _ (none : left ≡ []) where
    pub walked_bodies : done ≡ bodies_of lines
    walked_bodies = sym (append-nil done) ∙ rw (← none) it.all

    pub walked_all : Letters (roles_of lines) v
    walked_all = rw (← walked_bodies) it.table

-- one body more
module _ {lines : List Line} (known : Known lines) (bytes : Bytes lines) {done rest : List Body} {v : Variables} (b : Body) (it : Walked lines done (b ∷ rest) v) where
  abbrev before : List Role
  before = roles_up_to lines done

  pub is_one : List·Memᴰ b (bodies_of lines)
  is_one = subst (List·Memᴰ b) it.all (Memᴰ·append-right done (List·Memᴰ·head refl))

  pub items_fine : Every (Fine (length (names_of lines))) b.items
  items_fine = item_fine lines b is_one known bytes

  -- the roles of the bodies up to this one are among those of all
  upto : (bs : List Body) → bs ++ rest ≡ bodies_of lines → length (roles_up_to lines bs) ≤ length (roles_of lines)
  upto bs e = rw (← e, bodies_apart (for_names (length (names_of lines))) bs rest) (begun_length (bodies_begin _ rest))

  whole : (done ++ (b ∷ [])) ++ rest ≡ bodies_of lines
  whole = append_assoc done (b ∷ []) rest ∙ it.all

  pub body_few : length (with_letters before b.items) + length (tails_of b.items) ≤ length (roles_of lines)
  body_few =
      omega (
        arith,
        upto (done ++ (b ∷ [])) whole,
        ap length (one_body_more lines done b),
        length-append (with_letters before b.items) (tails_of b.items),
      )

  module _ {after : Variables} (taken_more : LettersTaken (map code_of b.items) v after) where
    pub letters_taken : Letters (with_letters before b.items) after
    letters_taken =
        subst (λ xs. Letters (with_letters before xs) after)
        (items_back (length (names_of lines)) b.items items_fine) (taken_more.letters before it.table)

    pub walked_more : Walked lines (done ++ (b ∷ [])) rest (record { letters = after.letters; taken = after.taken + (length b.items - 2) })
    walked_more =
        record {
          all = whole;
          table = rw (one_body_more lines done b) (letters_with_tails b.items letters_taken);
        }
