-- The names among the elements of a line, looked up one after the other. Assumes nothing.
use Rattle.grammar.proofs.Basics.{ℕ, List, ◌++◌, ◌≡◌, refl, ◌∙◌, sym, ap, Bool, true, false, false≢true}
use Rattle.grammar.proofs.Basics.{not-true, not-false}
use Rattle.std.specs.Prelude.{Ok, Err}
use Rattle.abnf.specs.declared.Edition.{Edition}
use Rattle.abnf.specs.declared.Stage.TheVariants.{Open}
use Rattle.abnf.specs.declared.Fault.TheVariants.{At}
use Rattle.abnf.specs.Meaning.{is_among_lem}
use Rattle.abnf.specs.Uses.{Use}
use Rattle.abnf_jobs.specs.Names.{name_fault_lem}
use Rattle.scanner.specs.Parts.{part_of_lem}
use Rattle.cursor.specs.declared.ElementPart.{ElementPart}
use Rattle.cursor.specs.Cursor.{uses_at, uses_after, uses_in, ElementBegins, ElementRead}
use Rattle.naming.specs.Walk.{is_unknown_lem, is_rule_after, Mentions}
use Rattle.naming.proofs.LineWalk.{OnLine, line_begins, line_goes_on, line_ends, another, ends}

-- an element that is no name, or one that is known, changes nothing; the first other is the fault
module _ (names defined : List (List ℕ)) (at : ℕ) (s : List ℕ) (us : List Use) where
  known : (literal : Bool) → is_unknown_lem literal names s ≡ false →
      name_fault_lem names defined (uses_in at literal s ++ us) ≡ name_fault_lem names defined us
  unfolding name_fault_lem
  known true h = refl
  known false h = rw (not-false (is_among_lem names s) h)

  missing : (literal : Bool) → is_unknown_lem literal names s ≡ true →
      name_fault_lem names defined (uses_in at literal s ++ us) ≡ At at
  unfolding name_fault_lem
  missing true h = absurd (false≢true h)
  missing false h = rw (not-true (is_among_lem names s) h)

-- the line from an offset on has the fault that it has from another on
pub record Looked (e : Edition) (text : List ℕ) (names : List (List ℕ)) (body at : ℕ) : Type 0 where
  pub on : OnLine e text body at
  pub uses :
      (defined : List (List ℕ)) →
      name_fault_lem names defined (uses_at e Open text body) ≡ name_fault_lem names defined (uses_at e Open text at)

pub looks : (e : Edition) (text : List ℕ) (names : List (List ℕ)) (body : ℕ) → ElementBegins e text body →
    Looked e text names body body
looks e text names body h = record { on = line_begins e text body h; uses = λ defined. refl }

module _ (e : Edition) (text : List ℕ) (names : List (List ℕ)) (body at : ℕ) (l : Looked e text names body at)
    (x : ElementPart) (r : ElementRead e text at x) (unknown : Bool)
    (is : unknown ≡ is_unknown_lem x.literal names (part_of_lem text at x.end)) where
  -- the fault of the line is that of the element and what stands after it
  here : (defined : List (List ℕ)) →
      name_fault_lem names defined (uses_at e Open text body)
      ≡ name_fault_lem names defined
      (uses_in at x.literal (part_of_lem text at x.end) ++ uses_after e x.after text x.next)
  here defined = l.uses defined ∙ ap (name_fault_lem names defined) r.uses

  pub name_missing : unknown ≡ true → Mentions e text names body (Err at)
  name_missing h defined =
      here defined
      ∙ missing names defined at (part_of_lem text at x.end) (uses_after e x.after text x.next)
      x.literal (sym is ∙ h)

  name_known : unknown ≡ false → (defined : List (List ℕ)) →
      name_fault_lem names defined (uses_at e Open text body)
      ≡ name_fault_lem names defined (uses_after e x.after text x.next)
  name_known h defined =
      here defined
      ∙ known names defined at (part_of_lem text at x.end) (uses_after e x.after text x.next) x.literal
      (sym is ∙ h)

  module _ (rule : Bool) (rules : rule ≡ is_rule_after x.after) where
    pub looks_on : unknown ≡ false → rule ≡ false → Looked e text names body x.next
    looks_on h f =
        record {
          on = line_goes_on e text body at l.on x r rule rules f;
          uses =
              λ defined. name_known h defined
              ∙ ap (name_fault_lem names defined) (another e x.after text x.next (sym rules ∙ f) r.after).uses;
        }

    pub none_missing : unknown ≡ false → rule ≡ true → Mentions e text names body (Ok x.next)
    none_missing h t =
        record {
          ends = line_ends e text body at l.on x r rule rules t;
          uses = λ defined. rw (ends x.after (sym rules ∙ t)) at (name_known h defined);
        }
