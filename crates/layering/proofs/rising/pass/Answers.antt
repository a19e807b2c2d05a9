-- `layering::rising::pass` meets its contract. Assumes nothing.
use Prim.Native.Nat.{◌+◌, ◌-◌, ◌≤◌, ◌<◌}
use native.Mathlib.Omega.{arith}
use lib.ListN.{length}
use Rattle.layering.specs.Inner.{BodyAsked}
use Rattle.layering.specs.Laws.Turns.{turned-start, turned-room, turned-head, turned-body, turned-raise, turned-keep, turned-end}
use Rattle.layering.proofs.rising.pass.Goals as goal
use Rattle.layering.proofs.rising.pass.Goals.{After-u16_at, After-u16_at-len, In-loop, then-layers-head, else-layers-head}

pub loop-init : goal.loop-init
loop-init c =
    let n = c.args.program.counted in
    turned-start c.requires n.facts_are n.rules_are c.first-at.ensures

-- in a turn the rule's header lies in the file,
room : (c : In-loop) → c.loop.at + 4 ≤ length c.args.program.file.now
room c =
    let n = c.args.program.counted in
    turned-room c.requires n.facts_are n.rules_are c.loop.invariant c.loop-test.true

-- its head is a derived atom,
head_in :
    (c : After-u16_at) →
    let facts = c.args.program.facts in
    (facts ≤ c.u16_at.result) × (c.u16_at.result - facts < length c.loop.layers)
head_in c =
    let n = c.args.program.counted in
    turned-head c.requires n.facts_are n.rules_are c.loop.invariant c.loop-test.true c.u16_at.ensures.value

-- and its body lies in the file, with known atoms
body-in :
    (c : After-u16_at-len) →
    BodyAsked c.args.program.file.now c.loop.layers c.args.program.facts (c.loop.at + 4) c.u16_at-len.result
body-in c =
    let n = c.args.program.counted in
    turned-body c.requires n.facts_are n.rules_are c.loop.invariant c.loop-test.true c.u16_at-len.ensures.value

pub u16_at-requires : goal.u16_at-requires
u16_at-requires c = omega (arith, room (goal.at.u16_at-requires c).In-loop)

pub overflow_sub-head : goal.overflow_sub-head
overflow_sub-head c = (head_in c).0

pub u16_at-len-requires : goal.u16_at-len-requires
u16_at-len-requires c = omega (arith, room (goal.at.u16_at-len-requires c).In-loop)

pub asked-most-requires : goal.asked-most-requires
asked-most-requires c = body-in c

pub bounds-layers-head : goal.bounds-layers-head
bounds-layers-head c = (head_in (goal.at.bounds-layers-head c).After-u16_at).1

pub bounds-layers-head-then-layers-head : goal.bounds-layers-head-then-layers-head
bounds-layers-head-then-layers-head c = (head_in (goal.at.bounds-layers-head-then-layers-head c).After-u16_at).1

pub loop-preserved : goal.loop-preserved
loop-preserved c =
    let n = c.args.program.counted in
    let inv = c.loop.invariant in
    let head = c.u16_at.ensures.value in
    let len = c.u16_at-len.ensures.value in
    let most = c.asked-most.ensures in
    elim c.if-layers-head.branch [
      | then-layers-head w ↦
          rw (w.layers-is, w.changed-is)
          (turned-raise c.requires n.facts_are n.rules_are inv c.loop-test.true len head most w.if-layers-head.true)
      | else-layers-head w ↦
          rw (w.layers-is, w.changed-is)
          (turned-keep c.requires n.facts_are n.rules_are inv c.loop-test.true len head most w.if-layers-head.false)
    ]

pub returns : goal.returns
returns c =
    let n = c.args.program.counted in
    turned-end c.requires n.facts_are n.rules_are c.loop.invariant c.loop-test.false
