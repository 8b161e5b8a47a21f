-- `NamedText::name`: its entry says where it stands. Assumes nothing.
use Rattle.grammar.proofs.Basics.{sym, arith}
use Rattle.naming.proofs.Viewed.{same_names}
use Rattle.naming.proofs.Chains.{below_count, stands}
use Rattle.naming.proofs.table.NamedText.name.Goals as goal

pub bounds-entries-i : goal.bounds-entries-i
bounds-entries-i c =
    let l = below_count c.self.invariant (same_names c.self.view_is) c.requires.entered in
    omega (arith, l, c.self.invariant.few)

pub offset_bounds-entries-i : goal.offset_bounds-entries-i
offset_bounds-entries-i c =
    let l = below_count c.self.invariant (same_names c.self.view_is) c.requires.entered in
    record { fits = omega (arith, l, c.self.invariant.few) }

pub slice_bounds-result-count : goal.slice_bounds-result-count
slice_bounds-result-count c =
    let l = below_count c.self.invariant (same_names c.self.view_is) c.requires.entered in
    omega (arith, c.from.ensures, c.from-2.ensures, (c.self.invariant.inside c.args.i l).order)

pub slice_bounds-result-start : goal.slice_bounds-result-start
slice_bounds-result-start c =
    let l = below_count c.self.invariant (same_names c.self.view_is) c.requires.entered in
    omega (arith, c.from.ensures, c.from-2.ensures, (c.self.invariant.inside c.args.i l).order)

pub slice_bounds-result-end : goal.slice_bounds-result-end
slice_bounds-result-end c =
    let l = below_count c.self.invariant (same_names c.self.view_is) c.requires.entered in
    omega (arith, c.from.ensures, c.from-2.ensures, (c.self.invariant.inside c.args.i l).within)

pub returns : goal.returns
returns c =
    let are = same_names c.self.view_is in
    let l = below_count c.self.invariant are c.requires.entered in
    record { name = rw (c.from.ensures, c.from-2.ensures) (sym (stands c.self.invariant are c.args.i l)) }
