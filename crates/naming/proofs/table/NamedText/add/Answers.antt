-- `NamedText::add`: the entry written behind the others makes a table of one name more. Assumes nothing.
use Rattle.grammar.proofs.Basics.{◌≡◌, ◌<◌, ◌∙◌, ap, arith, ◌++◌, ◌∷◌, [], false}
use Rattle.abnf.specs.Meaning.{is_among_lem}
use Rattle.scanner.specs.Parts.{part_of_lem}
use Rattle.naming.specs.Named.{Named, Inside}
use Rattle.naming.specs.Table.{names_in}
use Rattle.naming.proofs.Chains.{as_many}
use Rattle.naming.proofs.Added.{names_added, table_added}
use Rattle.naming.proofs.Viewed.{same_names, same_text}
use Rattle.naming.proofs.table.NamedText.add.Goals as goal

pub bounds-self-inside-self-inside : goal.bounds-self-inside-self-inside
bounds-self-inside-self-inside c =
    omega (arith, as_many c.self.invariant (same_names c.self.view_is), c.requires.room)

pub invariant_of-self : goal.invariant_of-self
invariant_of-self c =
    let a = c.args in
    let are = same_names c.self.view_is in
    let text = same_text c.self.view_is in
    let h = c.hash-bucket.ensures in
    let room : c.self.inside.count < 5462 = omega (arith, as_many c.self.invariant are, c.requires.room) in
    let inside : Inside c.self.inside.text.now a.at a.end = rw text c.requires.inside in
    let new :
    is_among_lem (names_in c.self.inside.text.now c.self.inside.entries c.self.inside.count)
    (part_of_lem c.self.inside.text.now a.at a.end) ≡ false =
    rw (are, text) c.requires.new in
    table_added c.self.invariant room a.at a.end h.hash h.bucket inside new

pub returns : goal.returns
returns c =
    let a = c.args in
    let are = same_names c.self.view_is in
    let h = c.hash-bucket.ensures in
    let room : c.self.inside.count < 5462 = omega (arith, as_many c.self.invariant are, c.requires.room) in
    record {
      added =
          ap (λ ns. record { edition = c.self.inside.edition; text = c.self.inside.text.now; names = ns })
          (names_added c.self.invariant room a.at a.end h.hash h.bucket)
          ∙ ap (λ (t : Named). record t { names = t.names ++ (part_of_lem t.text a.at a.end ∷ []) }) c.self.view_is;
    }
