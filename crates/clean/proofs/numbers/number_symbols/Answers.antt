use Rattle.grammar.proofs.Basics.{◌≡◌, refl, ◌∙◌, ap, true, false, Bool, ℕ, ◌+◌, add-one, arith, replicate}
use Rattle.grammar.proofs.Basics.{cond, ltb}
use mir.Val.{bool_byte}
use Rattle.grammar.specs.Counting.{one_if_lem, count}
use Rattle.grammar.proofs.Counting.{count_bound}
use Rattle.job.specs.Written.{written}
use Rattle.job.proofs.Filling.{written_long, written_more, written_at}
use Rattle.usefulness.specs.Inside.Flags.{flagged}
use Rattle.copies.specs.Copy.{new_number}
use Rattle.clean.proofs.numbers.number_symbols.Goals as goal

byte_of : (b : Bool) → bool_byte b ≡ one_if_lem b
byte_of true = refl
byte_of false = refl

-- how many useful variables are below the next symbol
counted_more : (s : ℕ → Bool) (X : ℕ) {below byte : ℕ} {b : Bool} → below ≡ count s X → byte ≡ bool_byte b → b ≡ s X →
    below + byte ≡ count s (X + 1)
unfolding count
counted_more s X e i says = rw (e, i, says, byte_of, add-one X)

pub loop-x-init : goal.loop-x-init
unfolding written count
loop-x-init c = (refl, refl)

pub overflow_add-below : goal.overflow_add-below
overflow_add-below c =
    let s = flagged c.args.useful.word in
    omega (
      arith,
      counted_more s c.loop-x.x c.loop-x.invariant.0 c.from-below.ensures c.contains.ensures.says,
      count_bound s (c.loop-x.x + 1),
    )

pub loop-x-preserved : goal.loop-x-preserved
loop-x-preserved c =
    let s = flagged c.args.useful.word in
    let x = c.loop-x.x in (
      counted_more s x c.loop-x.invariant.0 c.from-below.ensures c.contains.ensures.says,
      rw c.from.ensures
          (written_more (new_number s) x (replicate 64 0) (omega arith) c.loop-x.invariant.1
          (c.number_of.ensures.number ∙ ap (λ (b : ℕ). cond (ltb x 32) b x) c.loop-x.invariant.0)),
    )

pub returns : goal.returns
returns c =
    record {
      numbers =
          let e : c.loop-x.x ≡ 64 = omega arith in
          rw (c.loop-x.invariant.1, e)
          record {
            long = written_long _ 0 64 (replicate 64 0);
            at = λ X h. written_at _ 64 (replicate 64 0) X h (omega arith);
          };
    }
