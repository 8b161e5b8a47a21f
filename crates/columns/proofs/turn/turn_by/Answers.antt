use Rattle.grammar.proofs.Basics.{◌≡◌, ℕ, ◌+◌, ◌*◌, ◌/◌, ◌<◌, ◌≤◌, arith}
use Rattle.bit_machine.specs.Inside.Index.{Block}
use Rattle.bit_machine.specs.Inside.Index.Block.{one, two, four, eight, sixteen}
use Rattle.bit_machine.proofs.Turning.{turning_goes, turning_ends}
use Rattle.columns.proofs.turn.turn_by.Goals as goal

-- a run that there is begins below the end of the squares, and those that there are reach it
run_below : {j : ℕ} → Block j → (n : ℕ) → n < 16 / j → n * (j * 16) < 256
run_below one n h = omega arith
run_below two n h = omega arith
run_below four n h = omega arith
run_below eight n h = omega arith
run_below sixteen n h = omega arith

runs_reach : {j : ℕ} → Block j → (n : ℕ) → 16 / j ≤ n → 256 ≤ n * (j * 16)
runs_reach one n h = omega arith
runs_reach two n h = omega arith
runs_reach four n h = omega arith
runs_reach eight n h = omega arith
runs_reach sixteen n h = omega arith

pub loop-n-preserved : goal.loop-n-preserved
loop-n-preserved c =
    let next : (c.loop-n.n + 1) * (c.args.j * 16) ≡ c.loop-n.n * (c.args.j * 16) + c.args.j * 16 = omega arith in
    rw next
    (turning_goes c.requires.blocks.size c.loop-n.invariant (run_below c.requires.blocks.size c.loop-n.n c.loop-n-test.true)
    c.exchange_run.ensures.exchanged)

pub returns : goal.returns
returns c =
    record {
      turned = turning_ends c.loop-n.invariant (runs_reach c.requires.blocks.size c.loop-n.n c.loop-n-test.false);
    }
