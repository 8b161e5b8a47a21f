-- The names that begin the lines of a text, entered line by line. Assumes nothing.
use Rattle.grammar.proofs.Basics.{ℕ, ◌*◌, ◌≤◌, List, [], ◌≡◌, refl, ◌∙◌, sym, ap, ap₂, length, arith}
use Rattle.abnf.specs.declared.Edition.{Edition}
use Rattle.abnf.specs.declared.Stage.TheVariants.{LineStart}
use Rattle.abnf.specs.declared.Fault.TheVariants.{Nothing}
use Rattle.abnf.specs.Reading.{fault_of, lines_of}
use Rattle.abnf.specs.Meaning.{names_from, names_of}
use Rattle.scanner.specs.Parts.{part_of_lem}
use Rattle.cursor.specs.declared.Head.{Head}
use Rattle.cursor.specs.Cursor.{said_at, FineAt, HeadRead}
use Rattle.naming.specs.Named.{Named, entered}
use Rattle.naming.specs.Walk.{RuleEnds}
use Rattle.naming.proofs.Found.{entered_few}
use Rattle.naming.proofs.LineNames.{fine_start, lines_start, line_enters, no_more_lines}

-- the names of the lines before an offset are entered
pub record Collected (e : Edition) (text : List ℕ) (names : List (List ℕ)) (at : ℕ) : Type 0 where
  pub few : 3 * length names ≤ at
  pub fine : FineAt e LineStart text at
  pub all : names_from names (said_at e LineStart text at).lines ≡ names_of (lines_of e text)

-- of a text with names
abbrev pub CollectedIn : Named → Named → ℕ → Type 0
CollectedIn first now at =
    Collected first.edition first.text now.names at × (now ≡ record first { names = now.names })

pub collected_start : (t : Named) → fault_of t.edition t.text ≡ Nothing → t.names ≡ [] → CollectedIn t t 0
collected_start t h none = (
  record {
    few = rw none (omega arith);
    fine = fine_start t.edition t.text h;
    all = rw none (ap names_of (lines_start t.edition t.text));
  },
  refl,
)

module _ (first now : Named) (at : ℕ) (c : CollectedIn first now at) where
  pub collected_line : (h : Head) (next : ℕ) (more : Named) → HeadRead first.edition first.text at h →
      RuleEnds first.edition first.text h.body next →
      more ≡ record now { names = entered now.names (part_of_lem now.text at h.end) } → CollectedIn first more next
  collected_line h next more r ends is =
      let name = part_of_lem first.text at h.end in
      let names : more.names ≡ entered now.names name =
      ap (λ (t : Named). t.names) is ∙ ap (λ (t : Named). entered now.names (part_of_lem t.text at h.end)) c.1 in (
        record {
          few = rw names (omega (arith, c.0.few, r.past, r.order, ends.past, entered_few now.names name));
          fine = ends.fine;
          all =
              ap (λ ns. names_from ns (said_at first.edition LineStart first.text next).lines) names
              ∙ sym (line_enters first.edition first.text at h r now.names next ends) ∙ c.0.all;
        },
        is ∙ ap₂ (λ (t : Named) ns. record t { names = ns }) c.1 (sym (ap (λ (t : Named). t.names) is)),
      )

  pub all_collected : length first.text ≤ at →
      now ≡ record first { names = names_of (lines_of first.edition first.text) }
  unfolding names_from
  all_collected h =
      c.1 ∙ ap (λ ns. record first { names = ns }) (rw (no_more_lines first.edition first.text at h) at c.0.all)
