use Rattle.grammar.proofs.Basics.{◌≡◌, ◌∙◌, sym, ap, refl, List, ℕ, ◌<◌, ◌+◌, ◌*◌, arith}
use Rattle.grammar.specs.Counting.{count}
use Rattle.grammar.proofs.Counting.{count_cong, count_apart, count_bound}
use lib.Count.{ones, ones-le}
use Rattle.bit_machine.specs.BitTable.{bit_of, bit_at, done_half, done_bits}
use Rattle.bit_machine.proofs.BitLaws.{ones_counted}
use Rattle.bits.proofs.count.count_ones.Goals as goal

-- the ones of one more row
row_counted : (bits : List ℕ) (k w : ℕ) → w < 4294967296 →
    ((j : ℕ) → j < 32 → bit_of w j ≡ bit_at bits done_half (k * 32 + j)) →
    count (bit_at bits done_half) (k * 32) + ones w ≡ count (bit_at bits done_half) ((k + 1) * 32)
row_counted bits k w l e =
    let next : k * 32 + 32 ≡ (k + 1) * 32 = omega arith in
    ap (λ (x : ℕ). count (bit_at bits done_half) (k * 32) + x) (ones_counted 32 w l ∙ count_cong _ _ 32 e)
    ∙ sym (count_apart (bit_at bits done_half) (k * 32) 32) ∙ ap (count (bit_at bits done_half)) next

pub loop-k-init : goal.loop-k-init
unfolding count
loop-k-init c = refl

pub overflow_add-sum : goal.overflow_add-sum
overflow_add-sum c =
    let h = c.loop-k in
    let few = count_bound (bit_at c.args.bits.now done_half) (h.k * 32) in
    omega (arith, few, h.invariant, ones-le 32 c.row.result c.row.type_inv)

pub loop-k-preserved : goal.loop-k-preserved
loop-k-preserved c =
    let h = c.loop-k in
    ap (λ (n : ℕ). n + c.from-sum.result) h.invariant
    ∙ ap (λ (n : ℕ). count (bit_at c.args.bits.now done_half) (h.k * 32) + n) c.from-sum.ensures
    ∙ row_counted _ h.k _ c.row.type_inv c.row.ensures.bits

pub returns : goal.returns
unfolding done_bits
returns c =
    record {
      counted =
          let end : c.loop-k.k ≡ 2048 = omega arith in
          rw end at c.loop-k.invariant;
    }
