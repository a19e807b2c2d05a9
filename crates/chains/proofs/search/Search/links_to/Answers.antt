-- `Search::links_to` meets its contract. Assumes nothing.
use native.Mathlib.Omega.{arith}
use Rattle.chains.specs.Laws.Way.{count-start, count-few, count_next, count-end}
use Rattle.chains.proofs.search.Search.links_to.Goals as goal

pub loop-i-init : goal.loop-i-init
loop-i-init c = count-start c.requires

pub bounds-self-i : goal.bounds-self-i
bounds-self-i c = omega (arith, c.requires.few, c.loop-i.invariant.within)

pub loop-i-smaller : goal.loop-i-smaller
loop-i-smaller c =
    omega (arith, c.from-i.ensures, c.requires.back _ c.loop-i-test.true c.loop-i.invariant.within)

pub loop-i-preserved : goal.loop-i-preserved
loop-i-preserved c =
    count_next c.requires c.loop-i.invariant c.loop-i-test.true c.from-i.ensures

pub returns : goal.returns
returns c = count-end c.requires c.loop-i.invariant c.loop-i-test.false

pub overflow_add-n : goal.overflow_add-n
overflow_add-n c =
    omega (arith, c.requires.few, count-few c.requires c.loop-i.invariant)

pub offset_bounds-self-i : goal.offset_bounds-self-i
offset_bounds-self-i c = omega (arith, c.requires.few, c.loop-i.invariant.within)
