-- `operations::written`: counted first; what does not fit is refused, what fits is written. Assumes nothing.
use Rattle.std.proofs.Common.{◌≡◌, refl, ap, ◌∙◌, ◌≤◌, ◌<◌, ℕ, List, [], ◌∷◌, ◌++◌, length, drop, zero-add, arith}
use Rattle.std.proofs.Math.Seq.{sets, sets-eq}
use borrow.Author.Tests.{lt-ltb, le-ltb}
use Rattle.printing.specs.Written.{written_of}
use Rattle.printing.proofs.operations.written.Goals as goal

-- the part of a buffer that has no bytes
gone : (front out : List ℕ) → length front ≡ 0 → front ++ out ≡ out
gone [] out e = refl
gone (b ∷ front) out e = absurd (omega arith)

-- a text that has no room
too_long : (text front out : List ℕ) {needed : ℕ} → length front ≡ 0 → needed ≡ length text
    → length (front ++ out) < needed
    → record { answer = record { number = 13; place = needed; bytes = 0 }; out = front ++ out } ≡ written_of text out
unfolding written_of
too_long text front out none e l =
    let k : length out < length text = omega (arith, e, rw (gone front out none) at l) in
    rw (lt-ltb (length out) (length text) k, gone front out none, e)

-- a text that is written
fits : (text front out : List ℕ) {needed bytes : ℕ} {new : List ℕ} → length front ≡ 0 → needed ≡ length text
    → needed ≤ length (front ++ out)
    → bytes ≡ length text
    → new ≡ sets (front ++ out) 0 text
    → record { answer = record { number = 0; place = 0; bytes = bytes }; out = new } ≡ written_of text out
unfolding written_of
fits text front out {new = new} none e l b w =
    let k : length text ≤ length out = omega (arith, e, rw (gone front out none) at l) in
    let s : new ≡ text ++ drop (length text) out = w
    ∙ ap (λ o. sets o 0 text) (gone front out none)
    ∙ sets-eq text out 0 (rw zero-add k)
    ∙ rw zero-add in
    rw (le-ltb (length out) (length text) k, b, s)

pub returns-then-out-needed : goal.returns-then-out-needed
returns-then-out-needed g c = record {
  written = too_long (g.O.Output.text c.args.output.now) _ _ c.put-needed.auto.out c.put-needed.ensures.count
      c.if-out-needed.true;
}

pub returns : goal.returns
returns g c = record {
  written = fits (g.O.Output.text c.args.output.now) _ _ c.put-needed.auto.out c.put-needed.ensures.count
      c.if-out-needed.false c.put.ensures.count c.put.ensures.bytes;
}
