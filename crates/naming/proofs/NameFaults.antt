-- The names that have = above are the first of all, so a name's number says whether it is one. Assumes nothing.
use Rattle.grammar.proofs.Basics.{ℕ, ◌+◌, ◌≤◌, List, [], ◌∷◌, ◌≡◌, refl, ◌∙◌, sym, ap, Bool, true, false}
use Rattle.grammar.proofs.Basics.{not, arith, length, take, ltb, length-append, length-take-le, false≢true, true≢false}
use Rattle.std.specs.Prelude.{Ok, Err}
use mathlib.Core.Bool.{beq}
use mir.Val.{bool_byte}
use Rattle.abnf.specs.declared.Edition.{Edition}
use Rattle.abnf.specs.declared.Mark.{Mark}
use Rattle.abnf.specs.declared.Mark.TheVariants.{Defines, Adds}
use Rattle.abnf.specs.declared.Stage.{Stage}
use Rattle.abnf.specs.declared.Stage.TheVariants.{LineStart, Open}
use Rattle.abnf.specs.declared.Fault.TheVariants.{Nothing, At}
use Rattle.abnf.specs.Reading.{fault_of, lines_of}
use Rattle.abnf.specs.Meaning.{number_of, is_among_lem, names_from, names_of}
use Rattle.abnf.specs.Uses.{Use, heads, uses_of}
use Rattle.abnf_jobs.specs.Names.{name_fault_lem, name_fault_of}
use Rattle.scanner.specs.Parts.{part_of_lem}
use Rattle.cursor.specs.declared.Head.{Head}
use Rattle.cursor.specs.Cursor.{said_at, uses_at, FineAt, HeadRead}
use Rattle.naming.specs.Named.{entered}
use Rattle.naming.specs.Walk.{is_defines_lem, Mentions}
use Rattle.naming.proofs.Names.{among_first}
use Rattle.naming.proofs.LineNames.{fine_start, lines_start, uses_start, no_more_uses, names_kept, head_enters}

-- a head is the fault just if the name has = above and there, or neither; else it enters the name
module _ (names defined : List (List ℕ)) (at : ℕ) (n : List ℕ) (us : List Use) where
  head_faulty : (m : Mark) → is_among_lem defined n ≡ is_defines_lem m → name_fault_lem names defined (heads at n m ∷ us) ≡ At at
  unfolding name_fault_lem
  head_faulty Defines h = rw h
  head_faulty Adds h = rw h

  head_fine : (m : Mark) → is_among_lem defined n ≡ not (is_defines_lem m) →
      name_fault_lem names defined (heads at n m ∷ us) ≡ name_fault_lem names (entered defined n) us
  unfolding name_fault_lem
  head_fine Defines h = rw h
  head_fine Adds h = rw h

-- what a comparison of two tests decides
equal : (a b : Bool) → beq a b ≡ true → a ≡ b
equal true true h = refl
equal true false h = absurd (false≢true h)
equal false true h = absurd (false≢true h)
equal false false h = refl

unlike : (a b : Bool) → beq a b ≡ false → a ≡ not b
unlike true true h = absurd (true≢false h)
unlike true false h = refl
unlike false true h = refl
unlike false false h = absurd (true≢false h)

-- how many names are entered
entered_count : (names : List (List ℕ)) (n : List ℕ) (b : Bool) → is_among_lem names n ≡ b →
    length (entered names n) ≡ length names + bool_byte (not b)
entered_count names n true h = rw h (omega arith)
entered_count names n false h = rw (h, length-append)

-- up to an offset there is no fault, and the first d of all names have =
pub record Reached (e : Edition) (σ : Stage) (text : List ℕ) (names : List (List ℕ)) (d at : ℕ) : Type 0 where
  pub few : d ≤ length names
  pub fine : FineAt e σ text at
  pub all : names_from (take d names) (said_at e σ text at).lines ≡ names
  pub fault : name_fault_lem names (take d names) (uses_at e σ text at) ≡ name_fault_of e text

module _ (e : Edition) (text : List ℕ) (names : List (List ℕ)) where
  pub reached_start : names ≡ names_of (lines_of e text) → fault_of e text ≡ Nothing → Reached e LineStart text names 0 0
  unfolding name_fault_of
  reached_start h f =
      record {
        few = omega arith;
        fine = fine_start e text f;
        all = ap (names_from []) (lines_start e text) ∙ sym h;
        fault = ap (name_fault_lem names []) (uses_start e text) ∙ ap (λ ns. name_fault_lem ns [] (uses_of e text)) h;
      }

  pub no_fault : (d at : ℕ) → Reached e LineStart text names d at → length text ≤ at → Nothing ≡ name_fault_of e text
  unfolding name_fault_lem
  no_fault d at r h = rw (no_more_uses e text at h) at r.fault

  -- over the head of a line
  module _ (d at : ℕ) (r : Reached e LineStart text names d at) (h : Head) (head : HeadRead e text at h)
      (i : ℕ) (is : i ≡ number_of names (part_of_lem text at h.end))
      (defines : Bool) (marks : defines ≡ is_defines_lem h.mark) where
    -- the name, whether it has = above, and how many have = after this line
    abbrev n : List ℕ
    n = part_of_lem text at h.end

    above : is_among_lem (take d names) n ≡ ltb i d
    above = among_first names n d r.few ∙ ap (λ j. ltb j d) (sym is)

    abbrev after : ℕ
    after = d + bool_byte (not (ltb i d))

    here : name_fault_lem names (take d names) (heads at n h.mark ∷ uses_at e Open text h.body) ≡ name_fault_of e text
    here = sym (ap (name_fault_lem names (take d names)) head.uses) ∙ r.fault

    pub fault_here : beq (ltb i d) defines ≡ true → At at ≡ name_fault_of e text
    fault_here t =
        sym (head_faulty names (take d names) at n (uses_at e Open text h.body) h.mark
        (above ∙ equal (ltb i d) defines t ∙ marks)) ∙ here

    past_head : beq (ltb i d) defines ≡ false → Reached e Open text names after h.body
    past_head f =
        let rest = (said_at e Open text h.body).lines in
        let all : names_from (entered (take d names) n) rest ≡ names =
        sym (head_enters e text at h head (take d names)) ∙ r.all in
        let kept = rw all at (names_kept (entered (take d names) n) rest) in
        let count : length (entered (take d names) n) ≡ after =
        entered_count (take d names) n (ltb i d) above
        ∙ ap (λ k. k + bool_byte (not (ltb i d))) (length-take-le d names r.few) in
        let first : take after names ≡ entered (take d names) n = rw count at kept.1 in
        record {
          few = rw count at kept.0;
          fine = head.element.fine;
          all = rw first all;
          fault =
              rw first
              (sym (head_fine names (take d names) at n (uses_at e Open text h.body) h.mark
              (above ∙ unlike (ltb i d) defines f ∙ ap not marks)) ∙ here);
        }

    -- over its elements
    module _ (f : beq (ltb i d) defines ≡ false) where
      pub fault_later : (missing : ℕ) → Mentions e text names h.body (Err missing) → At missing ≡ name_fault_of e text
      fault_later missing looked = sym (looked (take after names)) ∙ (past_head f).fault

      module _ (next : ℕ) (known : Mentions e text names h.body (Ok next)) where
        pub past_line : Reached e LineStart text names after next
        past_line =
            let r = past_head f in
            record {
              few = r.few;
              fine = known.ends.fine;
              all = ap (names_from (take after names)) (sym known.ends.lines) ∙ r.all;
              fault = sym (known.uses (take after names)) ∙ r.fault;
            }
