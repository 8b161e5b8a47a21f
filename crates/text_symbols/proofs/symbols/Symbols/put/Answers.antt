use Rattle.grammar.proofs.Basics.{◌≡◌, refl, add-one, arith, length, get_or, length-set}
use lib.Seq.{take-length, take-suc-set}
use Rattle.job.proofs.KeyRules.{mapped_more}
use Rattle.text_symbols.specs.Keys.{symbol_by}
use Rattle.text_symbols.proofs.symbols.Symbols.put.Goals as goal

pub loop-i-init : goal.loop-i-init
loop-i-init c = (refl, refl)

pub loop-i-preserved : goal.loop-i-preserved
loop-i-preserved c =
    let s = c.args.self in
    let items = c.args.items.now in
    let i = c.loop-i.i in
    let f = symbol_by s.variables.now s.numbers.now in
    let next : c.of.result ≡ f (get_or items i 0) = c.of.ensures.symbol in (
      simp length-set c.loop-i.invariant.0,
      rw (mapped_more f items i c.loop-i-test.true, ← c.loop-i.invariant.1, ← next, add-one i)
          (take-suc-set c.loop-i.body i _ (omega arith)),
    )

pub returns : goal.returns
returns c =
    let items = c.args.items.now in
    let e : c.loop-i.i ≡ length items = omega arith in
    record { size = c.loop-i.invariant.0; symbols = rw (e, take-length items) at c.loop-i.invariant.1 }
