-- `search::Search::visit` meets its contract. Assumes nothing.
use native.Mathlib.Omega.{arith}
use Rattle.chains.specs.Laws.Visit.{visit-header, visit-start, visit-room, visit-asked, visit-next, visit-end}
use Rattle.chains.proofs.search.Search.visit.Goals as goal

pub u16_at-i-end-requires : goal.u16_at-i-end-requires
u16_at-i-end-requires c = omega (arith, visit-header c.requires)

pub loop-i-init : goal.loop-i-init
loop-i-init c = visit-start c.requires

pub u16_at-lit-requires : goal.u16_at-lit-requires
u16_at-lit-requires c = omega (arith, visit-room c.requires c.u16_at-i-end.ensures.value c.loop-i-test.true)

pub lead-requires : goal.lead-requires
lead-requires c =
    rw c.u16_at-lit.ensures.value (visit-asked c.requires c.u16_at-i-end.ensures.value c.loop-i-test.true c.loop-i.invariant)

pub loop-i-preserved : goal.loop-i-preserved
loop-i-preserved c =
    let led = rw c.u16_at-lit.ensures.value at c.lead.ensures in
    visit-next c.requires c.u16_at-i-end.ensures.value c.loop-i-test.true c.loop-i.invariant led

pub returns : goal.returns
returns c = visit-end c.requires c.u16_at-i-end.ensures.value c.loop-i.invariant c.loop-i-test.false
