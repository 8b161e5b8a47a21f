use Rattle.grammar.proofs.Basics.{◌≡◌, sym, inl, ◌/◌, arith}
use Rattle.grammar.proofs.Basics.{lt-ltb, le-ltb}
use Rattle.packing.proofs.Packed.{packed_more, one_state_more}
use Rattle.packing.proofs.pack.pack_symbol.Goals as goal

pub loop-q-init : goal.loop-q-init
loop-q-init c =
    λ rows packed. packed_more _ packed (λ p h. inl (sym (rw (le-ltb (p / 32 / 64) 0 (omega arith)))))

pub loop-q-preserved : goal.loop-q-preserved
loop-q-preserved c =
    λ rows packed.
    packed_more _ (c.pack_row.ensures.packed _ (c.loop-q.invariant rows packed))
    (λ p h. inl (one_state_more (p / 32) c.loop-q.q c.args.symbol (rows (p / 32)) c.requires.within.0))

pub returns : goal.returns
returns c =
    let end : c.loop-q.q ≡ 32 = omega arith in record {
      long = c.loop-q.auto.bits;
      packed = λ rows packed.
          packed_more _ (c.loop-q.invariant rows packed) (λ p h. inl (rw (end, lt-ltb (p / 32 / 64) 32 (omega arith))));
    }
