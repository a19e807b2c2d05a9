-- `layering::rising::settle` meets its contract. Assumes nothing.
use Prim.Native.Nat.{◌≤◌}
use native.Mathlib.Omega.{arith}
use Rattle.format.specs.File.{D}
use Rattle.layering.specs.Laws.Settling.{settling-start, settling-more, settling-still, settling-next, settling-end}
use Rattle.layering.proofs.rising.settle.Goals as goal
use Rattle.layering.proofs.rising.settle.Goals.{In-loop}

pub loop-init : goal.loop-init
loop-init c = settling-start c.requires

-- the passes so far are no more than there are derived atoms
few : (c : In-loop) → c.loop.counter ≤ D c.args.program.file.now
few c = omega (arith, c.args.program.counted.derived_are)

pub pass-requires : goal.pass-requires
pass-requires c = settling-more c.requires c.loop.invariant (few (goal.at.pass-requires c).In-loop)

pub returns-then-not-pass : goal.returns-then-not-pass
returns-then-not-pass c = settling-still c.requires c.loop.invariant c.pass.ensures c.if-not-pass.true

pub loop-preserved : goal.loop-preserved
loop-preserved c =
    settling-next c.requires c.loop.invariant (few (goal.at.loop-preserved c).In-loop) c.pass.ensures c.if-not-pass.false

pub returns-else-not-pass : goal.returns-else-not-pass
returns-else-not-pass c =
    let at_last = few (goal.at.returns-else-not-pass c).In-loop in
    settling-end c.requires (settling-next c.requires c.loop.invariant at_last c.pass.ensures c.if-not-pass.false)
    (omega (arith, c.args.program.counted.derived_are))

pub returns : goal.returns
returns c = settling-end c.requires c.loop.invariant (omega (arith, c.args.program.counted.derived_are))
