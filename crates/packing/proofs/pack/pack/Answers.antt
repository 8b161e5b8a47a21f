use Rattle.grammar.proofs.Basics.{◌≡◌, ◌∙◌, ap, inl, true, ℕ, ◌*◌, ◌/◌, arith, lt-ltb, length}
use lib.ListN.{length-replicate}
use Rattle.packing.proofs.Packed.{none_packed, packed_more}
use Rattle.packing.proofs.pack.pack.Goals as goal

pub loop-n-init : goal.loop-n-init
loop-n-init c = rw c.requires.zeros (none_packed c.args.table.now)

pub pack_part-requires : goal.pack_part-requires
pack_part-requires c = record {
  within = (
    omega arith,
    c.requires.long,
    omega (arith, c.loop-n.auto.bits, ap length c.requires.zeros, length-replicate {A = ℕ} 16384 0),
  );
  packed = c.loop-n.invariant;
}

pub returns : goal.returns
returns c =
    let end : c.loop-n.n * 4 ≡ 2048 = omega arith in record {
      long = c.loop-n.auto.bits ∙ ap length c.requires.zeros ∙ length-replicate {A = ℕ} 16384 0;
      packed = packed_more (λ r. true) (rw end at c.loop-n.invariant) (λ p h. inl (lt-ltb (p / 32) 2048 (omega arith)));
    }
