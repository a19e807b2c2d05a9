-- `script::run_in` meets its contract: each way out of the loop by its law (Laws/Run).
use Prim.Native.Nat.{◌<◌}
use native.Mathlib.Omega.{arith}
use Rattle.std.specs.Prelude.{length, Some}
use Rattle.script.specs.Script.{op, first, second, steps}
use Rattle.script.specs.Calls.{Parsed}
use Rattle.script.specs.Laws.Run.{steps-min, nothing_yet, may-build, one_more, run-bad, run-full, run-done}
use Rattle.script.proofs.run_in.Goals as goal
use Rattle.script.proofs.run_in.Goals.{In-loop-made, In-Some}

-- there is one more instruction,
few-at : (c : In-loop-made) → c.loop-made.made < steps c.args.script.now (length c.args.results.now)
few-at c = rw (c.min-steps.ensures, steps-min c.args.script.now (length c.args.results.now)) at c.loop-made-test.true

-- which is valid
parsed-at : (c : In-Some) →
    Parsed (op c.args.script.now c.loop-made.made) (first c.args.script.now c.loop-made.made)
    (second c.args.script.now c.loop-made.made) c.loop-made.made (Some c.in-Some.instruction)
parsed-at c = rw c.in-Some.is at c.parse.ensures

pub loop-made-init : goal.loop-made-init
loop-made-init c = nothing_yet c.args.script.now c.requires

pub returns-in_default-clause-ran : goal.returns-in_default-clause-ran
returns-in_default-clause-ran c =
    run-bad c.loop-made.invariant (few-at (goal.at.returns-in_default-clause-ran c).In-loop-made)
    (rw c.in_default.is at c.parse.ensures)

pub step-requires : goal.step-requires
step-requires c =
    may-build c.loop-made.invariant (few-at (goal.at.step-requires c).In-loop-made) c.in-Some.instruction
    (parsed-at (goal.at.step-requires c).In-Some)

pub returns-in-Err-clause-ran : goal.returns-in-Err-clause-ran
returns-in-Err-clause-ran c =
    run-full c.loop-made.invariant (few-at (goal.at.returns-in-Err-clause-ran c).In-loop-made) c.in-Some.instruction
    (parsed-at (goal.at.returns-in-Err-clause-ran c).In-Some) c.step.new.b c.step.result c.step.ensures c.in-Err.is _
    c.take_back.ensures.words

pub loop-made-preserved : goal.loop-made-preserved
loop-made-preserved c =
    one_more c.loop-made.invariant (few-at (goal.at.loop-made-preserved c).In-loop-made) c.in-Some.instruction
    (parsed-at (goal.at.loop-made-preserved c).In-Some) c.step.new.b c.step.result c.step.ensures c.in-Ok.is

pub returns-clause-ran : goal.returns-clause-ran
returns-clause-ran c =
    let all = rw (c.min-steps.ensures, steps-min c.args.script.now (length c.args.results.now)) at c.loop-made-test.false in
    run-done c.loop-made.invariant (omega arith) all
