use Rattle.grammar.proofs.Basics.{◌≡◌, refl, ◌∙◌, Bool, ℕ, ◌+◌, arith, cases, replicate}
use lib.ListN.{length-replicate}
use Rattle.grammar.specs.Counting.{count, one_if_lem}
use mir.Val.{bool_byte}
use Rattle.job.specs.Written.{written}
use Rattle.job.proofs.Filling.{written_long, written_more, written_at}
use Rattle.abnf_jobs.specs.Characters.{terminal_of}
use Rattle.text_symbols.specs.Marks.{marked}
use Rattle.text_symbols.proofs.MarkedSets.{counted_more, counted_first}
use Rattle.text_symbols.proofs.characters.Used.numbers.Goals as goal

-- the terminal of the next
next_is : (t : ℕ → Bool) (c : ℕ) {terminal byte : ℕ} → terminal ≡ terminal_of t c → byte ≡ bool_byte (t c) →
    terminal + byte ≡ terminal_of t (c + 1)
next_is t c e is = let one : bool_byte (t c) ≡ one_if_lem (t c) = cases (t c) (λ h. rw h) (λ h. rw h) in
    omega (arith, counted_more t c, one)

pub loop-c-init : goal.loop-c-init
unfolding written count
loop-c-init c = record { next = refl; written = refl }

pub overflow_add-terminal : goal.overflow_add-terminal
overflow_add-terminal c =
    let t = marked c.args.self.now in
    omega (
      arith,
      next_is t c.loop-c.c c.loop-c.invariant.next (rw c.self.view_is at c.from-terminal.ensures),
      counted_first t (c.loop-c.c + 1) 256 (omega arith),
    )

pub loop-c-preserved : goal.loop-c-preserved
loop-c-preserved c =
    let t = marked c.args.self.now in record {
      next = next_is t c.loop-c.c c.loop-c.invariant.next (rw c.self.view_is at c.from-terminal.ensures);
      written = written_more (terminal_of t) c.loop-c.c (replicate 256 0) (omega arith)
          c.loop-c.invariant.written c.loop-c.invariant.next;
    }

pub returns : goal.returns
returns c =
    let e : c.loop-c.c ≡ 256 = omega arith in
    record {
      numbered = rw (c.loop-c.invariant.written, e)
          record {
            size = written_long _ 0 256 (replicate 256 0) ∙ length-replicate {A = ℕ} 256 0;
            at = λ k h. written_at _ 256 (replicate 256 0) k h (omega (arith, length-replicate {A = ℕ} 256 0));
          };
    }
