-- A line element by element: what stands after an element goes on with the line, or ends it. Assumes nothing.
use Rattle.grammar.proofs.Basics.{ℕ, ◌≤◌, List, ◌≡◌, refl, ◌∙◌, sym, ap, Bool, true, false, arith, false≢true}
use Rattle.grammar.proofs.Basics.{true≢false}
use Rattle.abnf.specs.declared.Edition.{Edition}
use Rattle.abnf.specs.declared.Stage.TheVariants.{Open}
use Rattle.abnf.specs.Reading.{Said}
use Rattle.cursor.specs.declared.After.{After}
use Rattle.cursor.specs.declared.After.TheVariants.{ElementAfter, AlternativeAfter, RuleAfter}
use Rattle.cursor.specs.declared.ElementPart.{ElementPart}
use Rattle.cursor.specs.Cursor.{said_at, uses_at, said_after, uses_after, FineAfter, ElementBegins, ElementRead}
use Rattle.naming.specs.Walk.{is_rule_after, RuleEnds}

-- where no rule ends, an element follows, before the same lines and with the same uses
pub record Another (e : Edition) (after : After) (text : List ℕ) (next : ℕ) : Type 0 where
  pub element : ElementBegins e text next
  pub lines : (said_after e after text next).lines ≡ (said_at e Open text next).lines
  pub uses : uses_after e after text next ≡ uses_at e Open text next

pub another : (e : Edition) (after : After) (text : List ℕ) (next : ℕ) → is_rule_after after ≡ false →
    FineAfter e after text next → Another e after text next
another e ElementAfter text next h f = record { element = f; lines = refl; uses = refl }
another e AlternativeAfter text next h f = record { element = f; lines = refl; uses = refl }
another e RuleAfter text next h f = absurd (true≢false h)

pub ends : (after : After) → is_rule_after after ≡ true → after ≡ RuleAfter
ends ElementAfter h = absurd (false≢true h)
ends AlternativeAfter h = absurd (false≢true h)
ends RuleAfter h = refl

-- an element of the line of another begins at an offset
pub record OnLine (e : Edition) (text : List ℕ) (body at : ℕ) : Type 0 where
  pub order : body ≤ at
  pub element : ElementBegins e text at
  pub lines : (said_at e Open text body).lines ≡ (said_at e Open text at).lines

pub line_begins : (e : Edition) (text : List ℕ) (body : ℕ) → ElementBegins e text body → OnLine e text body body
line_begins e text body h = record { order = omega arith; element = h; lines = refl }

module _ (e : Edition) (text : List ℕ) (body at : ℕ) (o : OnLine e text body at) where
  module _ (x : ElementPart) (r : ElementRead e text at x) where
    lines_after : (said_at e Open text body).lines ≡ (said_after e x.after text x.next).lines
    lines_after = o.lines ∙ ap (λ (s : Said). s.lines) r.says

    -- by a test whether the rule ends there
    module _ (rule : Bool) (is : rule ≡ is_rule_after x.after) where
      pub line_goes_on : rule ≡ false → OnLine e text body x.next
      line_goes_on h =
          let n = another e x.after text x.next (sym is ∙ h) r.after in
          record {
            order = omega (arith, o.order, r.past, r.order);
            element = n.element;
            lines = lines_after ∙ n.lines;
          }

      pub line_ends : rule ≡ true → RuleEnds e text body x.next
      line_ends h =
          let last = ends x.after (sym is ∙ h) in
          record {
            past = omega (arith, o.order, r.past, r.order);
            within = r.within;
            fine = rw last at r.after;
            lines = rw last at lines_after;
          }

-- an element of the line of another is read
pub record Passing (e : Edition) (text : List ℕ) (body : ℕ) (x : ElementPart) : Type 0 where
  pub at : ℕ
  pub on : OnLine e text body at
  pub read : ElementRead e text at x
