use Rattle.grammar.proofs.Basics.{refl, inl, ◌+◌, ◌/◌, ltb}
use Rattle.packing.proofs.Packed.{blank_part, packed_more, one_row_more}
use Rattle.packing.proofs.pack.pack_part.Goals as goal

pub returns-then-is_blank : goal.returns-then-is_blank
returns-then-is_blank c = record {
  long = refl;
  packed = blank_part c.args.n (c.is_blank.ensures.blank c.if-is_blank.true) c.requires.packed;
}

pub loop-k-preserved : goal.loop-k-preserved
loop-k-preserved c =
    let l = c.loop-k in
    packed_more (λ r. ltb r (l.k + 1)) (c.pack_row.ensures.packed (λ r. ltb r l.k) l.invariant)
    (λ p h. inl (one_row_more (p / 32) l.k))
